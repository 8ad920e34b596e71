-- What is known of pairs says which sides are on open edges, and which triangles are seeds. Assumes nothing.
--   sides_numbered   there is room, and the numbers are those of pairs
--   side, numbers_same  the sides of the turned triangles; two have one number exactly if they have the same two candidates
--   open_known       a side is on an open edge exactly if something is known of its pair
--   against_known    an open edge of the face runs against it
--   seed_known       a triangle is a seed
use Prim.Native.Nat.{ℕ, zero, suc, ◌+◌, ◌*◌, ◌-◌, ◌/◌, ◌%◌, ◌≤◌, ◌<◌}
use native.Mathlib.Omega.{arith}
use mathlib.Core.Path.{◌≡◌, refl, sym, ap, ◌∙◌, subst}
use mathlib.Core.Bool.{Bool, true, false, not, ◌&&◌, ◌||◌}
use mathlib.Core.List.Memᴰ
use mathlib.Core.List.{List, Memᴰ}
use mathlib.Core.Logic.{◌⊎◌, inl, inr, ⊎_elim}
use borrow.Author.Tests.{ltb-true, ltb-false, lt-ltb, le-ltb, eqb-false, ne_eqb}
use lib.Dec.{eqb, ltb, eqb_refl}
use lib.ListN.{length, get_or, length-map}
use Rattle.lists.specs.Lists.{some, up_to}
use Rattle.lists.specs.Regions.{view}
use Rattle.lists.proofs.Bools.{or_stop, or_next, cond_true, cond_false, is_true, yes, both_ways}
use Rattle.lists.proofs.Members.{some_of, of_some, of_flat_map, of_keep, and_parts, and_of}
use Rattle.lists.proofs.Orders.{cases, never}
use Rattle.lists.proofs.Regions.{view_length, view_at}
use Rattle.lists.proofs.Sequences.{some_same}
use Rattle.geometry.specs.Boxes.{faces}
use Rattle.geometry.specs.Triangles.{Triangle, edges}
use Rattle.box_faces.specs.Faces.{has_bit}
use Rattle.edges.specs.Edges.{sides, same_pair}
use Rattle.edges.specs.Table.{next_side}
use Rattle.edges.proofs.Keys.{same_pair_lem}
use Rattle.edges.proofs.Sides.{side_at_lem, next_in}
use Rattle.candidate_pool.specs.OpenEdges.{OpenEdge, open_edge}
use Rattle.candidate_pool.specs.Offsets.{open_edges_at}
use Rattle.candidate_pool.specs.Standing.{count_at, pool_at, faces_in, edge_at, edges_at}
use Rattle.candidate_pool.proofs.Masking.{no_bit, word_bit}
use Rattle.cap_triangles.specs.Selection.{Cap, caps_of, cap_at, outward, outward_caps, is_open_pair, is_seed}
use Rattle.cap_triangles.specs.Room.{turned_at, numbers_at, up_at, down_at, turned_in, CapReady}
use Rattle.cap_triangles.proofs.Fours.{caps_length, cap_at_lem, outward_at}
use Rattle.cap_triangles.proofs.Good.{GoodCap, good_turned}
use Rattle.cap_pairs.specs.Pairs.{pair_at, number_in, PairsKnown}
use Rattle.cap_pairs.proofs.Ends.{face_low}
use Rattle.cap_selection.specs.Steps.{open_in, side_number, against_in, seed_in, SidesNumbered}
use Rattle.cap_selection.proofs.Ways.{down_against, up_against, side_of, sides_at, against, seed_parts}

-- the face of an open edge is one
pub entry_face : (w : List ℕ) (at k : ℕ) {e : OpenEdge} → Memᴰ e (edges_at w at k) → e.face < 6
unfolding edges_at
entry_face w at k m =
    let r = of_flat_map (λ i. edge_at w (at + 3 * i)) (up_to k) m in
    let q = Memᴰ.of_map (λ f. open_edge f (get_or w (at + 3 * r.0) 0) (get_or w (at + 3 * r.0 + 1) 0)) (faces_in (get_or w (at + 3 * r.0 + 2) 0)) r.2 in
    let l = face_low (of_keep (has_bit (get_or w (at + 3 * r.0 + 2) 0)) faces q.1).0 in
    let e = ap (λ (t : OpenEdge). t.face) q.2 in
    omega arith

module _ (n nf k : ℕ) (cap_list w : List ℕ) (ready : CapReady n nf k cap_list w) (known : PairsKnown n nf k cap_list w) where
  abbrev nc : ℕ
  nc = length cap_list / 4

  abbrev boundary : List OpenEdge
  boundary = edges_at w (open_edges_at n nf) k

  abbrev pub turned_caps : List Cap
  turned_caps = outward_caps (pool_at n w) (caps_of cap_list)

  abbrev pub side : ℕ → ℕ × ℕ
  side s = side_of turned_caps s

  number_is : (s : ℕ) → number_in n nf k cap_list w (k + s) ≡ side_number n nf nc k w s
  number_is s = let e : numbers_at n nf nc + (k + s) ≡ numbers_at n nf nc + k + s = omega arith in ap (λ (x : ℕ). get_or w x 0) e

  pub sides_numbered : SidesNumbered n nf nc k w
  sides_numbered =
      let s = ready.ready.supplied in
      let z = s.size in
      record {
        small = s.small;
        few = s.few;
        caps = s.caps;
        edges = ready.edges;
        size = omega arith;
        low = λ t h. let e = number_is t in let l = known.numbers.low (k + t) (omega arith) in omega arith;
      }

  pub count_caps : length turned_caps ≡ nc
  count_caps = length-map (caps_of cap_list) (outward (pool_at n w)) ∙ caps_length cap_list

  -- ---- the sides as they stand

  turned_fits : turned_at n nf + 3 * nc ≤ length w
  turned_fits = let z = ready.ready.supplied.size in omega arith

  side_is : (s : ℕ) → s < 3 * nc → side s ≡ (get_or w (turned_at n nf + s) 0, get_or w (turned_at n nf + next_side s) 0)
  side_is s h =
      let l = view_length w (turned_at n nf) (3 * nc) turned_fits in
      let g = next_in (3 * nc) s (omega arith) h in
      let x = view_at w (turned_at n nf) (3 * nc) s h in
      let y = view_at w (turned_at n nf) (3 * nc) (next_side s) g in
      ap (λ (l : List (Triangle ℕ)). get_or (sides l) s (0, 0)) (sym ready.ready.turned)
      ∙ side_at_lem (view w (turned_at n nf) (3 * nc)) s (omega arith) (omega arith)
      ∙ (λ t. (x t, y t))

  pair_is : (s : ℕ) → pair_at n nf k cap_list w (k + s) ≡ side s
  unfolding pair_at
  pair_is s =
      let e : k + s - k ≡ s = omega arith in
      cond_false (ltb (k + s) k) _ (get_or (sides (turned_in n nf nc w)) (k + s - k) (0, 0)) (get_or (sides (turned_in n nf nc w)) s (0, 0)) (le-ltb (k + s) k (omega arith))
      (ap (λ (x : ℕ). get_or (sides (turned_in n nf nc w)) x (0, 0)) e)
      ∙ ap (λ (l : List (Triangle ℕ)). get_or (sides l) s (0, 0)) ready.ready.turned

  pub numbers_same : (s t : ℕ) → s < 3 * nc → t < 3 * nc → eqb (side_number n nf nc k w s) (side_number n nf nc k w t) ≡ same_pair (side s) (side t)
  numbers_same s t h g =
      let a = number_is s in
      let b = number_is t in
      let p = pair_is s in
      let q = pair_is t in
      (λ i. eqb (sym a i) (sym b i)) ∙ known.numbers.same (k + s) (k + t) (omega arith) (omega arith) ∙ (λ i. same_pair (p i) (q i))

  -- ---- corners differ

  good : (i : ℕ) → i < nc → GoodCap (count_at w) (pool_at n w) (cap_at turned_caps i)
  good i h =
      subst (GoodCap (count_at w) (pool_at n w)) (sym (outward_at (pool_at n w) (caps_of cap_list) i (let e = caps_length cap_list in omega arith)))
      (good_turned n nf cap_list w ready.ready i h)

  pub side_of_lem : (i a : ℕ) → i < nc → a < 3 → side (i * 3 + a) ≡ get_or (edges (cap_at turned_caps i).corners) a (0, 0)
  side_of_lem i a h g = let e = count_caps in sides_at turned_caps i a (omega arith) g

  differs : (s : ℕ) → s < 3 * nc → (side s).0 ≡ (side s).1 → ⊥
  differs s h e =
      let z : s / 3 * 3 + s % 3 ≡ s = omega arith in
      let r = ap (λ (x : ℕ). side x) (sym z) ∙ side_of_lem (s / 3) (s % 3) (omega arith) (omega arith) in
      go (s % 3) (omega arith) (subst (λ (p : ℕ × ℕ). p.0 ≡ p.1) r e)
    where
      g : GoodCap (count_at w) (pool_at n w) (cap_at turned_caps (s / 3))
      g = good (s / 3) (omega arith)

      go : (a : ℕ) → a < 3 → (get_or (edges (cap_at turned_caps (s / 3)).corners) a (0, 0)).0 ≡ (get_or (edges (cap_at turned_caps (s / 3)).corners) a (0, 0)).1 → ⊥
      go zero l q = g.ab q
      go (suc zero) l q = g.bc q
      go (suc (suc zero)) l q = g.ca q
      go (suc (suc (suc a))) l q = absurd (omega arith)

  -- ---- what is known of a side's pair

  abbrev runs_up : ℕ × ℕ → ℕ → OpenEdge → Bool
  runs_up p f e = eqb e.face f && (same_pair p (e.from, e.to) && ltb e.from e.to)

  abbrev runs_down : ℕ × ℕ → ℕ → OpenEdge → Bool
  runs_down p f e = eqb e.face f && (same_pair p (e.from, e.to) && ltb e.to e.from)

  module _ (s : ℕ) (h : s < 3 * nc) where
    abbrev up : ℕ
    up = get_or w (up_at n nf nc + side_number n nf nc k w s) 0

    abbrev down : ℕ
    down = get_or w (down_at n nf nc + side_number n nf nc k w s) 0

    abbrev x : ℕ
    x = get_or w (turned_at n nf + s) 0

    abbrev y : ℕ
    y = get_or w (turned_at n nf + next_side s) 0

    up_is : get_or w (up_at n nf nc + number_in n nf k cap_list w (k + s)) 0 ≡ up
    up_is = ap (λ (x : ℕ). get_or w (up_at n nf nc + x) 0) (number_is s)

    down_is : get_or w (down_at n nf nc + number_in n nf k cap_list w (k + s)) 0 ≡ down
    down_is = ap (λ (x : ℕ). get_or w (down_at n nf nc + x) 0) (number_is s)

    up_known : (f : ℕ) → f < 6 → has_bit up f ≡ some (runs_up (side s) f) boundary
    up_known f l =
        ap (λ (m : ℕ). has_bit m f) (sym up_is) ∙ known.up (k + s) f (omega arith) l ∙ ap (λ (p : ℕ × ℕ). some (runs_up p f) boundary) (pair_is s)

    down_known : (f : ℕ) → f < 6 → has_bit down f ≡ some (runs_down (side s) f) boundary
    down_known f l =
        ap (λ (m : ℕ). has_bit m f) (sym down_is) ∙ known.down (k + s) f (omega arith) l ∙ ap (λ (p : ℕ × ℕ). some (runs_down p f) boundary) (pair_is s)

    up_small : up < 64
    up_small = let e = up_is in let l = known.up_small (k + s) (omega arith) in omega arith

    down_small : down < 64
    down_small = let e = down_is in let l = known.down_small (k + s) (omega arith) in omega arith

    -- a face of either word is that of an open edge with the pair
    of_entry : (f : ℕ) (way : OpenEdge → Bool) → some (λ e. eqb e.face f && (same_pair (side s) (e.from, e.to) && way e)) boundary ≡ true → is_open_pair boundary (side s) ≡ true
    unfolding is_open_pair
    of_entry f way e =
        let r = of_some (λ e. eqb e.face f && (same_pair (side s) (e.from, e.to) && way e)) boundary (yes e) in
        let q = (and_parts (eqb r.0.face f) (same_pair (side s) (r.0.from, r.0.to) && way r.0) r.2).1 in
        is_true _ (some_of (λ e. same_pair (side s) (e.from, e.to)) r.1 (and_parts (same_pair (side s) (r.0.from, r.0.to)) (way r.0) q).0)

    -- an open edge with the pair has its face in one of the words
    to_entry : (e : OpenEdge) (way : OpenEdge → Bool) → Memᴰ e boundary → same_pair (side s) (e.from, e.to) ≡ true → way e ≡ true
        → some (λ d. eqb d.face e.face && (same_pair (side s) (d.from, d.to) && way d)) boundary ≡ true
    to_entry e way m p q =
        is_true _ (some_of (λ d. eqb d.face e.face && (same_pair (side s) (d.from, d.to) && way d)) m
        (and_of (eqb e.face e.face) (same_pair (side s) (e.from, e.to) && way e) (eqb_refl e.face)
        (and_of (same_pair (side s) (e.from, e.to)) (way e) (yes p) (yes q))))

    not_zero : (m f : ℕ) → f < 6 → has_bit m f ≡ true → m ≡ 0 → ⊥
    not_zero m f l b z = never (has_bit m f) b (ap (λ (x : ℕ). has_bit x f) z ∙ no_bit f l)

    up_opens : (up ≡ 0 → ⊥) → open_in n nf nc w (side_number n nf nc k w s) ≡ true
    unfolding open_in
    up_opens z = or_stop (not (eqb up 0)) (not (eqb down 0)) (ap not (ne_eqb up 0 z))

    down_opens : (down ≡ 0 → ⊥) → open_in n nf nc w (side_number n nf nc k w s) ≡ true
    unfolding open_in
    down_opens z = last (not (eqb up 0)) (not (eqb down 0)) (ap not (ne_eqb down 0 z))
      where
        last : (a b : Bool) → b ≡ true → (a || b) ≡ true
        last true b e = refl
        last false b e = e

    opens_some : open_in n nf nc w (side_number n nf nc k w s) ≡ true → is_open_pair boundary (side s) ≡ true
    unfolding open_in
    opens_some e =
        ⊎_elim
        (λ (z : eqb up 0 ≡ true).
        ⊎_elim
        (λ (y : eqb down 0 ≡ true). absurd (never _ e (or_next (not (eqb up 0)) (not (eqb down 0)) false (ap not z) (ap not y))))
        (λ (y : eqb down 0 ≡ false).
        let b = word_bit down down_small (eqb-false down 0 y) in
        of_entry b.0 (λ e. ltb e.to e.from) (sym (down_known b.0 b.1) ∙ b.2))
        (cases (eqb down 0)))
        (λ (z : eqb up 0 ≡ false).
        let b = word_bit up up_small (eqb-false up 0 z) in
        of_entry b.0 (λ e. ltb e.from e.to) (sym (up_known b.0 b.1) ∙ b.2))
        (cases (eqb up 0))

    some_opens : is_open_pair boundary (side s) ≡ true → open_in n nf nc w (side_number n nf nc k w s) ≡ true
    unfolding is_open_pair
    some_opens o =
        let r = of_some (λ e. same_pair (side s) (e.from, e.to)) boundary (yes o) in
        let e = r.0 in
        let p = is_true _ r.2 in
        let l = entry_face w (open_edges_at n nf) k r.1 in
        ⊎_elim
        (λ (q : ltb e.from e.to ≡ true). up_opens (not_zero up e.face l (up_known e.face l ∙ to_entry e (λ e. ltb e.from e.to) r.1 p q)))
        (λ (q : ltb e.from e.to ≡ false).
        let d = differs s h in
        let c = apart (side s).0 (side s).1 e.from e.to d (ltb-false e.from e.to q) (same_pair_lem (side s) (e.from, e.to) p) in
        down_opens (not_zero down e.face l (down_known e.face l ∙ to_entry e (λ e. ltb e.to e.from) r.1 p (lt-ltb e.to e.from c))))
        (cases (ltb e.from e.to))
      where
        apart : (x y b c : ℕ) → (x ≡ y → ⊥) → c ≤ b → ((x ≡ b) × (y ≡ c)) ⊎ ((x ≡ c) × (y ≡ b)) → c < b
        apart x y b c d l (inl u) = let p = u.0 in let q = u.1 in omega arith
        apart x y b c d l (inr u) = let p = u.0 in let q = u.1 in omega arith

    pub open_known : open_in n nf nc w (side_number n nf nc k w s) ≡ is_open_pair boundary (side s)
    open_known = both_ways (open_in n nf nc w (side_number n nf nc k w s)) (is_open_pair boundary (side s)) opens_some some_opens

    pub against_known : (f : ℕ) → f < 6 → against_in n nf nc k w s f ≡ some (against f (side s)) boundary
    unfolding against_in
    against_known f l =
        ⊎_elim
        (λ (q : ltb x y ≡ true).
        cond_true (ltb x y) (has_bit down f) (has_bit up f) (has_bit down f) q refl
        ∙ down_known f l
        ∙ some_same (runs_down (side s) f) (against f (side s)) boundary
        (λ e m. ap (λ (b : Bool). eqb e.face f && b) (down_against (side s).0 (side s).1 e.from e.to
        (let u = first in let v = second in let t = ltb-true x y q in omega arith))))
        (λ (q : ltb x y ≡ false).
        cond_false (ltb x y) (has_bit down f) (has_bit up f) (has_bit up f) q refl
        ∙ up_known f l
        ∙ some_same (runs_up (side s) f) (against f (side s)) boundary
        (λ e m. ap (λ (b : Bool). eqb e.face f && b) (up_against (side s).0 (side s).1 e.from e.to
        (let u = first in let v = second in let t = ltb-false x y q in let d = differs s h in omega arith))))
        (cases (ltb x y))
      where
        first : (side s).0 ≡ x
        first = ap (λ (p : ℕ × ℕ). p.0) (side_is s h)

        second : (side s).1 ≡ y
        second = ap (λ (p : ℕ × ℕ). p.1) (side_is s h)

  -- ---- seeds

  pub face_is : (i : ℕ) → i < nc → (cap_at turned_caps i).face ≡ get_or cap_list (4 * i) 0
  unfolding outward
  face_is i h =
      ap (λ (t : Cap). t.face) (outward_at (pool_at n w) (caps_of cap_list) i (let e = caps_length cap_list in omega arith)) ∙ ap (λ (t : Cap). t.face) (cap_at_lem cap_list i h)

  pub faces_low : (i : ℕ) → i < nc → get_or cap_list (4 * i) 0 < 6
  faces_low i h = let e = face_is i h in let g = (good i h).face in omega arith

  against_side : (i a s : ℕ) → i < nc → a < 3 → s ≡ i * 3 + a
      → against_in n nf nc k w s (get_or cap_list (4 * i) 0) ≡ some (against (cap_at turned_caps i).face (get_or (edges (cap_at turned_caps i).corners) a (0, 0))) boundary
  against_side i a s h g e =
      let p = ap (λ (x : ℕ). side x) e ∙ side_of_lem i a h g in
      let f = face_is i h in
      against_known s (omega arith) (get_or cap_list (4 * i) 0) (faces_low i h) ∙ (λ t. some (against (sym f t) (p t)) boundary)

  pub seed_known : (i : ℕ) → i < nc → seed_in n nf nc k w i (get_or cap_list (4 * i) 0) ≡ is_seed boundary turned_caps i
  unfolding seed_in is_seed
  seed_known i h =
      let a = against_side i 0 (3 * i) h (omega arith) (omega arith) in
      let b = against_side i 1 (3 * i + 1) h (omega arith) (omega arith) in
      let c = against_side i 2 (3 * i + 2) h (omega arith) (omega arith) in
      (λ t. a t || (b t || c t)) ∙ sym (seed_parts boundary (cap_at turned_caps i).face (cap_at turned_caps i).corners)
