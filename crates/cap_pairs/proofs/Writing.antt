-- The records of open edges and of sides, written one after the other. Assumes nothing.
--   edge_asks, edge_turn, edge_end     an open edge: what edge_word asks, one turn, the end
--   side_asks, side_turn, side_end     a side
use Prim.Native.Nat.{ℕ, ◌+◌, ◌*◌, ◌%◌, ◌≤◌, ◌<◌}
use mathlib.Core.Bool.{cond}
use mathlib.Core.List.{List}
use mathlib.Core.Path.{◌≡◌, sym, ap, subst, ◌∙◌}
use native.Mathlib.Omega.{arith}
use lib.Dec.{eqb}
use lib.ListN.{length, get_or}
use Rattle.lists.specs.Regions.{Above}
use Rattle.words.specs.Packed.{edge}
use Rattle.records.specs.Buffer.{put_record}
use Rattle.edges.specs.Table.{edge_key, next_side}
use Rattle.edges.proofs.Sides.{next_in}
use Rattle.cap_triangles.specs.Room.{turned_at, pair_records_at}
use Rattle.cap_pairs.specs.Pairs.{edge_pair}
use Rattle.cap_pairs.specs.Steps.{SmallEdge, side_words, Recorded, TablesFor}
use Rattle.cap_pairs.proofs.Recording.{recording_turn}
use Rattle.candidate_pool.specs.Offsets.{open_edges_at}

-- ---- an open edge's three words, where nothing below b changed
module _ (w₀ w : List ℕ) (b at : ℕ) (above : Above b w₀ w) (end : at + 2 < b) where
  edge_same : edge_pair w at ≡ edge_pair w₀ at
  edge_same =
      let x = above.below at (omega arith) in
      let y = above.below (at + 1) (omega arith) in
      let z = above.below (at + 2) (omega arith) in
      λ t. cond (eqb (z t) 0) (0, 0) (x t, y t)

  edge_small : SmallEdge w₀ at → SmallEdge w at
  edge_small s f =
      let x = above.below at (omega arith) in
      let y = above.below (at + 1) (omega arith) in
      let z = above.below (at + 2) (omega arith) in
      let r = s (λ q. f (z ∙ q)) in
      (omega (arith, r.0), omega (arith, r.1))

module _ (w₀ w : List ℕ) (n nf nc k edges records i : ℕ) (tables : TablesFor n nf nc w₀ k) (e : edges ≡ open_edges_at n nf) (r : records ≡ pair_records_at n nf nc)
    (inv : Recorded (λ j. edge_pair w₀ (edges + 3 * j)) w₀ w records 0 i) where
  pub edge_asks : i < k → ((j : ℕ) → j < k → SmallEdge w₀ (open_edges_at n nf + 3 * j)) → (edges + 3 * i + 2 < length w) × SmallEdge w (edges + 3 * i)
  edge_asks h s = (
    omega (arith, tables.edges, tables.size, inv.above.long),
    edge_small w₀ w records (edges + 3 * i) inv.above (omega (arith, tables.edges))
        (subst (λ (x : ℕ). SmallEdge w₀ (x + 3 * i)) (sym e) (s i h)),
  )

  pub edge_turn : i < k → (key : ℕ) → key ≡ edge_key (edge_pair w (edges + 3 * i)) → Recorded (λ j. edge_pair w₀ (edges + 3 * j)) w₀ (put_record w (records + 2 * i) (key, i)) records 0
      (i + 1)
  edge_turn h key q =
      recording_turn (λ j. edge_pair w₀ (edges + 3 * j)) w₀ records 0 w i inv (omega (arith, tables.edges, tables.size)) key i
      (q ∙ ap edge_key (edge_same w₀ w records (edges + 3 * i) inv.above (omega (arith, tables.edges)))) (omega arith)

  pub edge_end : i ≤ k → k ≤ i → Recorded (λ j. edge_pair w₀ (open_edges_at n nf + 3 * j)) w₀ w (pair_records_at n nf nc) 0 k
  edge_end a b =
      subst (λ (x : ℕ). Recorded (λ j. edge_pair w₀ (x + 3 * j)) w₀ w (pair_records_at n nf nc) 0 k) e
      (subst (λ (x : ℕ). Recorded (λ j. edge_pair w₀ (edges + 3 * j)) w₀ w x 0 k) r
      (subst (λ (x : ℕ). Recorded (λ j. edge_pair w₀ (edges + 3 * j)) w₀ w records 0 x) (same i k a b) inv))
    where
      same : (i k : ℕ) → i ≤ k → k ≤ i → i ≡ k
      same i k a b = omega arith

-- ---- a side
module _ (w₀ w : List ℕ) (n nf nc k turned records s : ℕ) (tables : TablesFor n nf nc w₀ k) (e : turned ≡ turned_at n nf) (r : records ≡ pair_records_at n nf nc + 2 * k)
    (inv : Recorded (side_words w₀ turned) w₀ w records k s) where
  module _ (h : s < 3 * nc) where
    next_low : next_side s < 3 * nc
    next_low = next_in (3 * nc) s (three nc) h
      where
        three : (n : ℕ) → 3 * n % 3 ≡ 0
        three n = omega arith

    same_from : get_or w (turned + s) 0 ≡ get_or w₀ (turned + s) 0
    same_from = inv.above.below (turned + s) (omega arith)

    same_to : get_or w (turned + next_side s) 0 ≡ get_or w₀ (turned + next_side s) 0
    same_to = inv.above.below (turned + next_side s) (let l = next_low in omega arith)

    pub side_room : (next : ℕ) → next ≡ next_side s → turned + next < length w
    side_room next q = let l = next_low in omega (arith, tables.size, inv.above.long)

    pub side_asks : (next : ℕ) → next ≡ next_side s → ((x : ℕ) → x < 3 * nc → get_or w₀ (turned_at n nf + x) 0 < 4294967296)
        → (get_or w (turned + s) 0 < 4294967296) × (get_or w (turned + next) 0 < 4294967296)
    side_asks next q f =
        let a = f s h in
        let b = f (next_side s) next_low in
        let x : get_or w (turned + s) 0 ≡ get_or w₀ (turned_at n nf + s) 0 = same_from ∙ ap (λ (y : ℕ). get_or w₀ (y + s) 0) e in
        let z : get_or w (turned + next) 0 ≡ get_or w₀ (turned_at n nf + next_side s) 0 = ap (λ (y : ℕ). get_or w (turned + y) 0) q ∙ same_to ∙ ap (λ (y : ℕ). get_or w₀ (y + next_side s) 0) e
        in
        (omega (arith, a, x), omega (arith, b, z))

    pub side_turn : (next key which : ℕ) → next ≡ next_side s → key ≡ edge (get_or w (turned + s) 0) (get_or w (turned + next) 0) → which ≡ k + s
        → Recorded (side_words w₀ turned) w₀ (put_record w (records + 2 * s) (key, which)) records k (s + 1)
    side_turn next key which q g o =
        recording_turn (side_words w₀ turned) w₀ records k w s inv (omega (arith, tables.edges, tables.size)) key which
        (g ∙ ap (λ (y : ℕ). edge (get_or w (turned + s) 0) (get_or w (turned + y) 0)) q ∙ (λ t. edge (same_from t) (same_to t))) o

  pub side_end : s ≤ 3 * nc → 3 * nc ≤ s → Recorded (side_words w₀ (turned_at n nf)) w₀ w (pair_records_at n nf nc + 2 * k) k (3 * nc)
  side_end a b =
      subst (λ (x : ℕ). Recorded (side_words w₀ x) w₀ w (pair_records_at n nf nc + 2 * k) k (3 * nc)) e
      (subst (λ (x : ℕ). Recorded (side_words w₀ turned) w₀ w x k (3 * nc)) r
      (subst (λ (x : ℕ). Recorded (side_words w₀ turned) w₀ w records k x) (same s (3 * nc) a b) inv))
    where
      same : (i k : ℕ) → i ≤ k → k ≤ i → i ≡ k
      same i k a b = omega arith
