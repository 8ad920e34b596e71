-- The pair of each open edge and of each side, as pair_at has it. Assumes nothing.
--   pair_edge, pair_listed     an open edge's, and one that has a face
--   pair_side                  a side's
--   pair_kept                  nothing of it is written
--   some_face                  a word of faces that is not 0 has a face
--   word_low, word_small, edge_ends, pair_small     candidates fit the packing
--   tables_for                 there is room for the tables
use Prim.Native.Nat.{ℕ, zero, suc, ◌+◌, ◌*◌, ◌-◌, ◌/◌, ◌%◌, ◌≤◌, ◌<◌}
use mathlib.Core.Bool.{Bool, true, false, cond}
use mathlib.Core.List.{List, Memᴰ}
use mathlib.Core.Logic.{⊎_elim}
use mathlib.Core.Path.{◌≡◌, refl, sym, ap, subst, ◌∙◌}
use native.Mathlib.Omega.{arith}
use borrow.Author.Tests.{lt-ltb, le-ltb, eqb-false, ltb-true, ltb-false, ne_eqb}
use lib.Dec.{eqb, ltb}
use lib.ListN.{length, get_or}
use Rattle.lists.specs.Lists.{up_from}
use Rattle.lists.specs.Regions.{view, Above}
use Rattle.lists.proofs.Orders.{cases}
use Rattle.lists.proofs.Places.{of_up}
use Rattle.lists.proofs.Regions.{view_at, view_length}
use Rattle.geometry.specs.Boxes.{faces}
use Rattle.geometry.specs.Triangles.{Triangle, threes}
use Rattle.box_faces.specs.Faces.{has_bit}
use Rattle.edges.specs.Edges.{sides}
use Rattle.edges.specs.Table.{next_side}
use Rattle.edges.proofs.Sides.{Small, next_in, side_at_lem}
use Rattle.candidate_pool.specs.Offsets.{open_edges_at}
use Rattle.candidate_pool.specs.Standing.{count_at, pool_at}
use Rattle.candidate_pool.proofs.Masking.{word_bit}
use Rattle.candidate_pool.proofs.Reading.{pool_count}
use Rattle.candidate_pool.proofs.Tidying.{has_low}
use Rattle.cap_triangles.specs.Room.{turned_at, pair_records_at, turned_in, CapReady}
use Rattle.cap_triangles.proofs.Kept.{turned_in_kept}
use Rattle.cap_triangles.proofs.Good.{turned_low}
use Rattle.cap_pairs.specs.Pairs.{edge_pair, pair_count, pair_at}
use Rattle.cap_pairs.specs.Steps.{SmallEdge, side_words, TablesFor}

pub three : (n : ℕ) → 3 * n % 3 ≡ 0
three n = omega arith

module _ (n nf k : ℕ) (cap_list w : List ℕ) where
  abbrev nc : ℕ
  nc = length cap_list / 4

  abbrev low : ℕ
  low = turned_at n nf

  abbrev part : List ℕ
  part = view w low (3 * nc)

  abbrev row : ℕ → ℕ
  row q = open_edges_at n nf + 3 * q

  pub pair_edge : (q : ℕ) → q < k → pair_at n nf k cap_list w q ≡ edge_pair w (row q)
  unfolding pair_at
  pair_edge q h = ap (λ (b : Bool). cond b (edge_pair w (row q)) (get_or (sides (turned_in n nf nc w)) (q - k) (0, 0))) (lt-ltb q k h)

  pub pair_listed : (q : ℕ) → q < k → (get_or w (row q + 2) 0 ≡ 0 → ⊥) → pair_at n nf k cap_list w q ≡ (get_or w (row q) 0, get_or w (row q + 1) 0)
  pair_listed q h m =
      pair_edge q h ∙ ap (λ (b : Bool). cond b (0, 0) (get_or w (row q) 0, get_or w (row q + 1) 0)) (ne_eqb (get_or w (row q + 2) 0) 0 m)

  pub pair_side : low + 3 * nc ≤ length w → (s : ℕ) → s < 3 * nc → pair_at n nf k cap_list w (k + s) ≡ side_words w low s
  unfolding pair_at
  pair_side size s h =
      let long : length part ≡ 3 * nc = view_length w low (3 * nc) size in
      let whole : length part % 3 ≡ 0 = ap (λ (x : ℕ). x % 3) long ∙ three nc in
      let e = view_at w low (3 * nc) s h in
      let f = view_at w low (3 * nc) (next_side s) (next_in (3 * nc) s (three nc) h) in
      ap (λ (b : Bool). cond b (edge_pair w (row (k + s))) (get_or (sides (turned_in n nf nc w)) (k + s - k) (0, 0))) (le-ltb (k + s) k (omega arith))
      ∙ ap (λ (x : ℕ). get_or (sides (threes part)) x (0, 0)) (back k s)
      ∙ side_at_lem part s whole (omega (arith, long))
      ∙ (λ t. (e t, f t))
    where
      back : (k s : ℕ) → k + s - k ≡ s
      back k s = omega arith

  pub pair_kept : (b : ℕ) (w' : List ℕ) → Above b w w' → pair_records_at n nf nc ≤ b → k ≤ 3 * nf → (q : ℕ) → pair_at n nf k cap_list w' q ≡ pair_at n nf k cap_list w q
  unfolding pair_at
  pair_kept b w' above end few q =
      ⊎_elim
      (λ (l : ltb q k ≡ true).
      let h = ltb-true q k l in
      let x = above.below (row q) (omega arith) in
      let y = above.below (row q + 1) (omega arith) in
      let z = above.below (row q + 2) (omega arith) in
      (λ t. cond (l t) (edge_pair w' (row q)) (get_or (sides (turned_in n nf nc w')) (q - k) (0, 0)))
      ∙ (λ t. cond (eqb (z t) 0) (0, 0) (x t, y t))
      ∙ (λ t. cond (sym l t) (edge_pair w (row q)) (get_or (sides (turned_in n nf nc w)) (q - k) (0, 0))))
      (λ (l : ltb q k ≡ false).
      (λ t. cond (l t) (edge_pair w' (row q)) (get_or (sides (turned_in n nf nc w')) (q - k) (0, 0)))
      ∙ ap (λ (s : List (Triangle ℕ)). get_or (sides s) (q - k) (0, 0)) (turned_in_kept b w w' above n nf nc end)
      ∙ (λ t. cond (sym l t) (edge_pair w (row q)) (get_or (sides (turned_in n nf nc w)) (q - k) (0, 0))))
      (cases (ltb q k))

-- ---- a word of faces
pub record SomeFace (mask : ℕ) : Type 0 where
  pub face : ℕ
  pub is : face < 6
  pub on : has_bit mask face ≡ true

pub face_low : {f : ℕ} → Memᴰ f faces → f < 6
unfolding up_from
face_low m = let u = (of_up 0 6 m).1 in omega arith

pub some_face : (mask : ℕ) → mask < 64 → (mask ≡ 0 → ⊥) → SomeFace mask
some_face mask h n = let r = word_bit mask h n in record { face = r.0; is = r.1; on = r.2 }

-- ---- sizes
module _ (n nf k : ℕ) (cap_list w : List ℕ) (r : CapReady n nf k cap_list w) where
  pub tables_for : TablesFor n nf (length cap_list / 4) w k
  tables_for =
      let s = r.ready.supplied in
      record { small = omega (arith, s.small); few = s.few; caps = omega (arith, s.caps); edges = r.edges; size = s.size }

  low_end : (c : ℕ) → c < count_at w → c < 4294967296
  low_end c h = omega (arith, r.ready.supplied.small, r.ready.supplied.pooled.few)

  pub word_low : (x : ℕ) → x < 3 * (length cap_list / 4) → get_or w (turned_at n nf + x) 0 < count_at w
  word_low x h = go (x % 3) refl (turned_low n nf cap_list w r.ready (x / 3) (omega arith))
    where
      moved : (a b : ℕ) → a ≡ b → get_or w a 0 < count_at w → get_or w b 0 < count_at w
      moved a b e l = subst (λ (y : ℕ). get_or w y 0 < count_at w) e l

      go : (m : ℕ) → x % 3 ≡ m
          → (get_or w (turned_at n nf + 3 * (x / 3)) 0 < count_at w) × (get_or w (turned_at n nf + 3 * (x / 3) + 1) 0 < count_at w) ×
          (get_or w (turned_at n nf + 3 * (x / 3) + 2) 0 < count_at w)
          → get_or w (turned_at n nf + x) 0 < count_at w
      go zero e l = moved (turned_at n nf + 3 * (x / 3)) (turned_at n nf + x) (omega arith) l.0
      go (suc zero) e l = moved (turned_at n nf + 3 * (x / 3) + 1) (turned_at n nf + x) (omega arith) l.1
      go (suc (suc zero)) e l = moved (turned_at n nf + 3 * (x / 3) + 2) (turned_at n nf + x) (omega arith) l.2
      go (suc (suc (suc m))) e l = absurd (omega arith)

  pub word_small : (x : ℕ) → x < 3 * (length cap_list / 4) → get_or w (turned_at n nf + x) 0 < 4294967296
  word_small x h = low_end (get_or w (turned_at n nf + x) 0) (word_low x h)

  pub edge_ends : (i : ℕ) → i < k → SmallEdge w (open_edges_at n nf + 3 * i)
  edge_ends i h m =
      let f = some_face (get_or w (open_edges_at n nf + 3 * i + 2) 0) (r.held.masks i h) m in
      let t = r.ready.supplied.pooled.tidy in
      let a = has_low (pool_at n w) t f.face (get_or w (open_edges_at n nf + 3 * i) 0) f.is (r.held.from i f.face h f.is f.on) in
      let b = has_low (pool_at n w) t f.face (get_or w (open_edges_at n nf + 3 * i + 1) 0) f.is (r.held.to i f.face h f.is f.on) in
      let c = pool_count n w in
      (low_end (get_or w (open_edges_at n nf + 3 * i) 0) (omega (arith, a, c)), low_end (get_or w (open_edges_at n nf + 3 * i + 1) 0) (omega (arith, b, c)))

  edge_pair_small : (i : ℕ) → i < k → Small (edge_pair w (open_edges_at n nf + 3 * i))
  edge_pair_small i h = go (eqb (get_or w (open_edges_at n nf + 3 * i + 2) 0) 0) refl
    where
      go : (b : Bool) → eqb (get_or w (open_edges_at n nf + 3 * i + 2) 0) 0 ≡ b → Small (cond b (0, 0) (get_or w (open_edges_at n nf + 3 * i) 0, get_or w (open_edges_at n nf + 3 * i + 1) 0))
      go true e = (omega arith, omega arith)
      go false e = edge_ends i h (eqb-false (get_or w (open_edges_at n nf + 3 * i + 2) 0) 0 e)

  pub pair_small : (q : ℕ) → q < pair_count n nf k cap_list → Small (pair_at n nf k cap_list w q)
  pair_small q h =
      ⊎_elim
      (λ (l : ltb q k ≡ true). let m = ltb-true q k l in subst Small (sym (pair_edge n nf k cap_list w q m)) (edge_pair_small q m))
      (λ (l : ltb q k ≡ false).
      let m = ltb-false q k l in
      let s : q - k < 3 * (length cap_list / 4) = omega arith in
      subst Small (sym (ap (pair_at n nf k cap_list w) (whole q k m) ∙ pair_side n nf k cap_list w (omega (arith, r.ready.supplied.size)) (q - k) s))
      (word_small (q - k) s, word_small (next_side (q - k)) (next_in (3 * (length cap_list / 4)) (q - k) (three (length cap_list / 4)) s)))
      (cases (ltb q k))
    where
      whole : (q k : ℕ) → k ≤ q → q ≡ k + (q - k)
      whole q k h = omega arith
