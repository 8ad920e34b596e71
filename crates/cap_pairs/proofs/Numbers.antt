-- The steps of number_pairs, put together. Assumes nothing.
--   records_all     after put_edges and put_sides there is a record for each edge and side
--   numbered        sorted and numbered, they have one number exactly if they have the same two candidates
use Prim.Native.Nat.{ℕ, ◌+◌, ◌*◌, ◌-◌, ◌/◌, ◌≤◌, ◌<◌}
use mathlib.Core.Bool.{true, false}
use mathlib.Core.List.{List}
use mathlib.Core.Logic.{⊎_elim}
use mathlib.Core.Path.{◌≡◌, sym, ap, subst, ◌∙◌}
use native.Mathlib.Omega.{arith}
use borrow.Author.Tests.{ltb-true, ltb-false}
use lib.Dec.{eqb, ltb}
use lib.ListN.{length, get_or}
use lib.Seq.{get_or-take}
use Rattle.lists.specs.Regions.{Above}
use Rattle.lists.proofs.Orders.{cases}
use Rattle.records.specs.Buffer.{record_of}
use Rattle.lists.proofs.Regions.{above_more, above_less}
use Rattle.sorting.proofs.Sorting.{SortedPart}
use Rattle.edges.specs.Edges.{same_pair}
use Rattle.edges.specs.Table.{edge_key, next_side}
use Rattle.edges.proofs.Keys.{same_pair_key}
use Rattle.edges.proofs.Sides.{next_in}
use Rattle.cap_triangles.specs.Room.{turned_at, pair_records_at, numbers_at, CapReady}
use Rattle.cap_pairs.specs.Pairs.{edge_pair, pair_at, Numbered}
use Rattle.cap_pairs.specs.Steps.{side_words, Recorded, FirstsPut, TablesFor}
use Rattle.cap_pairs.proofs.Ends.{pair_edge, pair_side, pair_kept, pair_small, word_small, three}
use Rattle.cap_pairs.proofs.Ordering as ordering
use Rattle.candidate_pool.specs.Offsets.{open_edges_at}
use Rattle.sorting.specs.Sorting.{SortedPlaces}
use Rattle.sorting.proofs.Places.{sorted_places}

module _ (n nf k : ℕ) (cap_list w w1 : List ℕ) (r : CapReady n nf k cap_list w)
    (r1 : Recorded (λ i. edge_pair w (open_edges_at n nf + 3 * i)) w w1 (pair_records_at n nf (length cap_list / 4)) 0 k) where
  abbrev nc : ℕ
  nc = length cap_list / 4

  abbrev at : ℕ
  at = pair_records_at n nf nc

  abbrev p : ℕ
  p = k + 3 * nc

  abbrev P : ℕ → ℕ × ℕ
  P = pair_at n nf k cap_list w

  abbrev K : ℕ → ℕ
  K q = edge_key (P q)

  pub tables_then : TablesFor n nf nc w1 k
  tables_then =
      let s = r.ready.supplied in
      record { small = omega (arith, s.small); few = s.few; caps = omega (arith, s.caps); edges = r.edges; size = omega (arith, s.size, r1.above.long) }

  pub words_then : (x : ℕ) → x < 3 * nc → get_or w1 (turned_at n nf + x) 0 < 4294967296
  words_then x h = let a = r1.above.below (turned_at n nf + x) (omega arith) in let b = word_small n nf k cap_list w r x h in omega arith

  module _ (w2 : List ℕ) (r2 : Recorded (side_words w1 (turned_at n nf)) w1 w2 (at + 2 * k) k (3 * nc)) where
    above2 : Above at w w2
    above2 = above_more at w w1 w2 r1.above (above_less at (at + 2 * k) w1 w2 (omega arith) r2.above)

    side_words_lem : (s : ℕ) → s < 3 * nc → side_words w1 (turned_at n nf) s ≡ P (k + s)
    side_words_lem s h =
        let l = next_in (3 * nc) s (three nc) h in
        let x = r1.above.below (turned_at n nf + s) (omega arith) in
        let y = r1.above.below (turned_at n nf + next_side s) (omega arith) in
        (λ t. (x t, y t)) ∙ sym (pair_side n nf k cap_list w (omega (arith, r.ready.supplied.size)) s h)

    of_edge : (q : ℕ) → q < k → record_of w2 (at + 2 * q) ≡ (K q, q)
    of_edge q h =
        let x = r2.above.below (at + 2 * q) (omega arith) in
        let y = r2.above.below (at + 2 * q + 1) (omega arith) in
        (λ t. (x t, y t)) ∙ r1.done q h ∙ (λ t. (edge_key (sym (pair_edge n nf k cap_list w q h) t), start q t))
      where
        start : (q : ℕ) → 0 + q ≡ q
        start q = omega arith

    of_side : (s : ℕ) → s < 3 * nc → record_of w2 (at + 2 * (k + s)) ≡ (K (k + s), k + s)
    of_side s h = ap (record_of w2) (spread at k s) ∙ r2.done s h ∙ (λ t. (edge_key (side_words_lem s h t), k + s))
      where
        spread : (a k s : ℕ) → a + 2 * (k + s) ≡ a + 2 * k + 2 * s
        spread a k s = omega arith

    pub records_all : (q : ℕ) → q < p → record_of w2 (at + 2 * q) ≡ (K q, q)
    records_all q h =
        ⊎_elim (λ (l : ltb q k ≡ true). of_edge q (ltb-true q k l))
        (λ (l : ltb q k ≡ false).
        let m = ltb-false q k l in
        subst (λ (x : ℕ). record_of w2 (at + 2 * x) ≡ (K x, x)) (whole q k m) (of_side (q - k) (omega arith)))
        (cases (ltb q k))
      where
        whole : (q k : ℕ) → k ≤ q → k + (q - k) ≡ q
        whole q k h = omega arith

    module _ (a : ℕ) (ea : a ≡ at) where
      records_there : (q : ℕ) → q < p → record_of w2 (a + 2 * q) ≡ (K q, q)
      records_there q h = ap (λ (x : ℕ). record_of w2 (x + 2 * q)) ea ∙ records_all q h

      pub sort_room : a + 4 * p ≤ length w2
      sort_room = omega (arith, r.ready.supplied.size, r.edges, above2.long)

      module _ (w3 : List ℕ) (s : SortedPart w2 w3 a p) where
        pub sorted_there : SortedPlaces w3 a p
        sorted_there = sorted_places K w2 w3 a p sort_room records_there s

        pub numbers_room : (numbers : ℕ) → numbers ≡ numbers_at n nf nc → (a + 2 * p ≤ numbers) × (numbers + p ≤ length w3)
        numbers_room numbers en = (omega (arith, r.edges), omega (arith, r.ready.supplied.size, r.edges, above2.long, s.same))

        above3 : Above at w2 w3
        above3 =
            record {
              long = s.same;
              below = λ x h.
                  let l : x < a = omega arith in
                  sym (get_or-take a w3 x 0 l) ∙ ap (λ (l : List ℕ). get_or l x 0) s.before ∙ get_or-take a w2 x 0 l;
            }

        module _ (numbers : ℕ) (en : numbers ≡ numbers_at n nf nc) (w4 : List ℕ) (f : FirstsPut w3 w4 a numbers p) where
          above4 : Above at w w4
          above4 =
              above_more at w w3 w4 (above_more at w w2 w3 above2 above3) (above_less at numbers w3 w4 (omega arith) f.above)

          kept : (q : ℕ) → pair_at n nf k cap_list w4 q ≡ P q
          kept = pair_kept n nf k cap_list w at w4 above4 (omega arith) r.edges

          number_is : (q : ℕ) → get_or w4 (numbers_at n nf nc + q) 0 ≡ get_or w4 (numbers + q) 0
          number_is q = ap (λ (x : ℕ). get_or w4 (x + q) 0) (sym en)

          pub numbered : Numbered n nf k cap_list w w4
          numbered =
              record {
                above = above4;
                numbers = record {
                  low = λ q h. let e = number_is q in let l = ordering.number_low K w2 w3 a p sort_room records_there s w4 numbers f q h in omega arith;
                  same = λ q t hq ht.
                      (λ i. eqb (number_is q i) (number_is t i)) ∙ ordering.number_same K w2 w3 a p sort_room records_there s w4 numbers f q t hq ht
                      ∙ sym (same_pair_key (P q) (P t) (pair_small n nf k cap_list w r q hq) (pair_small n nf k cap_list w r t ht))
                      ∙ (λ i. same_pair (sym (kept q) i) (sym (kept t) i));
                };
              }
