-- What the selection reads of the room stays as it is while it writes behind it. Assumes nothing.
--   number_in, up_in, down_in   the number of a side's pair stands in the room, and what is known of it
--   next_low           the next side is a side
--   label_same, against_same, seed_same   the label of a side, and whether an open edge runs against it, against one of a triangle
--   numbered_same      the numbers are those of pairs
use Prim.Native.Nat.{ℕ, ◌+◌, ◌*◌, ◌<◌}
use native.Mathlib.Omega.{arith}
use mathlib.Core.Path.{◌≡◌, ap, ◌∙◌}
use mathlib.Core.Bool.{Bool, cond, not, ◌||◌}
use mathlib.Core.List.{List}
use lib.Dec.{eqb, ltb}
use lib.ListN.{length, get_or}
use Rattle.lists.specs.Regions.{Above}
use Rattle.box_faces.specs.Faces.{has_bit}
use Rattle.edges.specs.Table.{next_side}
use Rattle.edges.proofs.Sides.{next_in}
use Rattle.cap_triangles.specs.Room.{turned_at, numbers_at, up_at, down_at, labels_at}
use Rattle.cap_selection.specs.Steps.{open_in, side_number, label_in, against_in, seed_in, SidesNumbered}

module _ (n nf nc k : ℕ) (w : List ℕ) (room : SidesNumbered n nf nc k w) where
  pub number_in : (s numbers : ℕ) → s < 3 * nc → numbers ≡ numbers_at n nf nc → numbers + k + s < length w
  number_in s numbers h at = let e = room.edges in let z = room.size in omega arith

  pub up_in : (s : ℕ) → s < 3 * nc → up_at n nf nc + side_number n nf nc k w s < length w
  up_in s h = let l = room.low s h in let e = room.edges in let z = room.size in omega arith

  pub down_in : (s : ℕ) → s < 3 * nc → down_at n nf nc + side_number n nf nc k w s < length w
  down_in s h = let l = room.low s h in let e = room.edges in let z = room.size in omega arith

  pub next_low : (s : ℕ) → s < 3 * nc → next_side s < 3 * nc
  next_low s h = next_in (3 * nc) s (omega arith) h

  module _ (w' : List ℕ) (above : Above (labels_at n nf nc) w w') where
    number_same : (s : ℕ) → s < 3 * nc → side_number n nf nc k w' s ≡ side_number n nf nc k w s
    number_same s h = let e = room.edges in above.below (numbers_at n nf nc + k + s) (omega arith)

    up_same : (p : ℕ) → p < k + 3 * nc → get_or w' (up_at n nf nc + p) 0 ≡ get_or w (up_at n nf nc + p) 0
    up_same p h = let e = room.edges in above.below (up_at n nf nc + p) (omega arith)

    down_same : (p : ℕ) → p < k + 3 * nc → get_or w' (down_at n nf nc + p) 0 ≡ get_or w (down_at n nf nc + p) 0
    down_same p h = let e = room.edges in above.below (down_at n nf nc + p) (omega arith)

    open_same : (p : ℕ) → p < k + 3 * nc → open_in n nf nc w' p ≡ open_in n nf nc w p
    unfolding open_in
    open_same p h = let u = up_same p h in let d = down_same p h in λ t. not (eqb (u t) 0) || not (eqb (d t) 0)

    pub label_same : (s : ℕ) → s < 3 * nc → label_in n nf nc k w' s ≡ label_in n nf nc k w s
    unfolding label_in
    label_same s h =
        ap (λ (p : ℕ). cond (open_in n nf nc w' p) (k + 3 * nc + s) p) (number_same s h)
        ∙ ap (λ (b : Bool). cond b (k + 3 * nc + s) (side_number n nf nc k w s)) (open_same (side_number n nf nc k w s) (room.low s h))

    pub against_same : (s f : ℕ) → s < 3 * nc → against_in n nf nc k w' s f ≡ against_in n nf nc k w s f
    unfolding against_in
    against_same s f h =
        let l = room.low s h in
        let a = above.below (turned_at n nf + s) (omega arith) in
        let b = above.below (turned_at n nf + next_side s) (let g = next_low s h in omega arith) in
        let d = ap (λ (p : ℕ). get_or w' (down_at n nf nc + p) 0) (number_same s h) ∙ down_same (side_number n nf nc k w s) l in
        let u = ap (λ (p : ℕ). get_or w' (up_at n nf nc + p) 0) (number_same s h) ∙ up_same (side_number n nf nc k w s) l in
        λ t. cond (ltb (a t) (b t)) (has_bit (d t) f) (has_bit (u t) f)

    pub seed_same : (i f : ℕ) → i < nc → seed_in n nf nc k w' i f ≡ seed_in n nf nc k w i f
    unfolding seed_in
    seed_same i f h =
        let a = against_same (3 * i) f (omega arith) in
        let b = against_same (3 * i + 1) f (omega arith) in
        let c = against_same (3 * i + 2) f (omega arith) in
        λ t. a t || (b t || c t)

    pub numbered_same : SidesNumbered n nf nc k w'
    numbered_same =
        let g = above.long in
        let z = room.size in
        record {
          small = room.small;
          few = room.few;
          caps = room.caps;
          edges = room.edges;
          size = omega arith;
          low = λ s h. let e = number_same s h in let l = room.low s h in omega arith;
        }
