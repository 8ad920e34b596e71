-- Test 11 over the rows of open edges: the loop of missing_place. Assumes nothing.
--   list_long       a face's list is as long as the room says
--   row_place       of one open edge, the place of the first face that is missing
--   RowWalk         none of the edges before i is missing, and `found` is how many entries they have
--   row_start, row_stop, row_more, row_end
use Prim.Native.Nat.{ℕ, suc, ◌+◌, ◌*◌, ◌-◌, ◌/◌, ◌≤◌, ◌<◌, min}
use mathlib.Core.Bool.{Bool, true, not, ◌&&◌}
use mathlib.Core.List.{List, ◌++◌, flat_map}
use mathlib.Core.Path.{◌≡◌, refl, sym, ap, ◌∙◌}
use native.Mathlib.Omega.{arith}
use lib.Dec.{eqb, leb}
use lib.ListN.{length, get_or, length-append, length-take, length-drop, length-map, drop}
use Rattle.lists.specs.Lists.{some, place, up_from}
use Rattle.lists.proofs.Counts.{count_le}
use Rattle.lists.proofs.Members.{of_keep}
use Rattle.lists.proofs.Stores.{up_from_cons}
use Rattle.lists.proofs.Sequences.{some_same}
use Rattle.lists.proofs.Bools.{is_true}
use Rattle.geometry.specs.Boxes.{faces}
use Rattle.geometry.specs.Triangles.{edges}
use Rattle.box_faces.specs.Faces.{has_bit, bit_count}
use Rattle.edges.specs.Edges.{same_pair}
use Rattle.candidate_pool.specs.OpenEdges.{OpenEdge, open_edge}
use Rattle.candidate_pool.specs.Offsets.{lists_at, list_at, pool_end, open_edges_at}
use Rattle.candidate_pool.specs.Pool.{Pool, face_list}
use Rattle.candidate_pool.specs.Standing.{faces_in, pool_at, edge_at, edges_at}
use Rattle.candidate_pool.proofs.Reading.{pool_list, list_in, list_few}
use Rattle.cap_triangles.specs.Selection.{Cap, caps_of, outward}
use Rattle.cap_triangles.specs.Listed.{missing_edge, missing_place}
use Rattle.cap_triangles.specs.Room.{numbers_at, held_at, Pooled, CapReady}
use Rattle.cap_pairs.specs.Pairs.{pair_at, number_in, PairsKnown}
use Rattle.cap_pairs.specs.Steps.{missing_face}
use Rattle.cap_pairs.proofs.Sums.{some_map, place_stops, place_goes, place_map, place_same}
use Rattle.cap_pairs.proofs.Ends.{face_low}
use Rattle.cap_pairs.proofs.Known.{listed, turned_edges}

pub list_long : (n : ℕ) (w : List ℕ) → Pooled n w → pool_end n < length w → (f : ℕ) → f < 6 → length (face_list (pool_at n w) f) ≡ get_or w f 0
list_long n w p size f h =
    let a = list_few n w p.few p.tidy f h in
    let b : length (face_list (pool_at n w) f) ≡ min (get_or w f 0) (length w - (list_at n f)) =
    ap length (pool_list n w f h) ∙ length-take (get_or w f 0) (drop (list_at n f) w) ∙ ap (min (get_or w f 0)) (length-drop (list_at n f) w) in
    let c : f * n ≤ 5 * n = omega (arith, list_in n f h) in
    whole (length (face_list (pool_at n w) f)) (get_or w f 0) (length w) n (f * n) a b c size
  where
    whole : (l v s n m : ℕ) → l ≤ n → l ≡ min v (s - (lists_at n + m)) → m ≤ 5 * n → pool_end n < s → l ≡ v
    whole l v s n m a b c d = omega arith

face_kept : (pool : Pool) (t : Cap) → (outward pool t).face ≡ t.face
unfolding outward
face_kept pool t = refl

pub record RowWalk (n nf k : ℕ) (cap_list w : List ℕ) (found i : ℕ) : Type 0 where
  pub within : i ≤ k
  pub few : found ≤ 6 * i
  pub so : missing_place (pool_at n w) (caps_of cap_list) (edges_at w (open_edges_at n nf) k)
      ≡ found + place (missing_edge (pool_at n w) (caps_of cap_list)) (flat_map (λ j. edge_at w (open_edges_at n nf + 3 * j)) (up_from i (k - i)))
  pub long : length (edges_at w (open_edges_at n nf) k) ≡ found + length (flat_map (λ j. edge_at w (open_edges_at n nf + 3 * j)) (up_from i (k - i)))

module _ (n nf k : ℕ) (cap_list w : List ℕ) (ready : CapReady n nf k cap_list w) (K : PairsKnown n nf k cap_list w) where
  abbrev nc : ℕ
  nc = length cap_list / 4

  abbrev pool : Pool
  pool = pool_at n w

  abbrev caps : List Cap
  caps = caps_of cap_list

  abbrev at : ℕ
  at = open_edges_at n nf

  abbrev Q : OpenEdge → Bool
  Q = missing_edge pool caps

  abbrev part : ℕ → List OpenEdge
  part i = edge_at w (at + 3 * i)

  abbrev mask : ℕ → ℕ
  mask i = get_or w (at + 3 * i + 2) 0

  abbrev held : ℕ → ℕ
  held i = get_or w (held_at n nf nc + number_in n nf k cap_list w i) 0

  -- ---- one row
  module _ (i : ℕ) (h : i < k) where
    abbrev A : ℕ
    A = get_or w (at + 3 * i) 0

    abbrev B : ℕ
    B = get_or w (at + 3 * i + 1) 0

    held_is : (f : ℕ) → f < 6 → has_bit (mask i) f ≡ true → some (λ t. eqb t.face f && some (same_pair (A, B)) (edges t.corners)) caps ≡ has_bit (held i) f
    held_is f l on =
        sym (K.held i f (omega arith) l
        ∙ some_map (λ t. eqb t.face f && some (same_pair (pair_at n nf k cap_list w i)) (edges t.corners)) (outward pool) caps
        ∙ some_same (λ t. eqb (outward pool t).face f && some (same_pair (pair_at n nf k cap_list w i)) (edges (outward pool t).corners))
        (λ t. eqb t.face f && some (same_pair (A, B)) (edges t.corners)) caps (λ t m.
        (λ j. eqb (face_kept pool t j) f && some (same_pair (listed n nf k cap_list w ready K.numbers i f (omega arith) l i h on j)) (edges (outward pool t).corners))
        ∙ ap (λ (b : Bool). eqb t.face f && b) (turned_edges pool t (A, B))))

    test_is : (f : ℕ) → f < 6 → has_bit (mask i) f ≡ true → Q (open_edge f A B) ≡ missing_face w (held i) f
    unfolding missing_edge
    test_is f l on =
        let a = list_long n w ready.ready.supplied.pooled (omega (arith, ready.ready.supplied.size)) f l in
        let b = held_is f l on in
        λ t. leb 3 (a t) && not (b t)

    pub row_place : place Q (part i) ≡ place (missing_face w (held i)) (faces_in (mask i))
    row_place =
        place_map Q (λ f. open_edge f A B) (faces_in (mask i))
        ∙ place_same (λ f. Q (open_edge f A B)) (missing_face w (held i)) (faces_in (mask i)) (λ f m.
        let r = of_keep (has_bit (mask i)) faces m in
        test_is f (face_low r.0) (is_true (has_bit (mask i) f) r.1))

    row_long : length (part i) ≡ length (faces_in (mask i))
    row_long = length-map (faces_in (mask i)) (λ f. open_edge f A B)

  -- ---- all rows
  pub held_in : (i helds numbers : ℕ) → i < k → helds ≡ held_at n nf nc → numbers ≡ numbers_at n nf nc → helds + get_or w (numbers + i) 0 < length w
  held_in i helds numbers h e m =
      let a = K.numbers.low i (omega arith) in
      let b = ap (λ (x : ℕ). get_or w (x + i) 0) m in
      omega (arith, ready.edges, ready.ready.supplied.size)

  pub held_fits : (i helds numbers : ℕ) → i < k → helds ≡ held_at n nf nc → numbers ≡ numbers_at n nf nc → (helds + get_or w (numbers + i) 0) * 8 < 18446744073709551616
  held_fits i helds numbers h e m =
      let a = K.numbers.low i (omega arith) in
      let b = ap (λ (x : ℕ). get_or w (x + i) 0) m in
      let s = ready.ready.supplied in
      omega (arith, ready.edges, s.small, s.few, s.caps)

  pub row_start : RowWalk n nf k cap_list w 0 0
  unfolding missing_place edges_at
  row_start =
      record {
        within = omega arith;
        few = omega arith;
        so = ap (λ (l : List ℕ). place Q (flat_map part l)) (ap (up_from 0) (less k)) ∙ omega arith;
        long = ap (λ (l : List ℕ). length (flat_map part l)) (ap (up_from 0) (less k)) ∙ omega arith;
      }
    where
      less : (k : ℕ) → k ≡ k - 0
      less k = omega arith

  module _ (found i : ℕ) (s : RowWalk n nf k cap_list w found i) where
    module _ (h : i < k) (edges numbers helds : ℕ) (ee : edges ≡ at) (en : numbers ≡ numbers_at n nf nc) (eh : helds ≡ held_at n nf nc) (before count : ℕ)
        (found_before : before ≡ place (missing_face w (get_or w (helds + get_or w (numbers + i) 0) 0)) (faces_in (get_or w (edges + 3 * i + 2) 0)))
        (counted : count ≡ bit_count (get_or w (edges + 3 * i + 2) 0)) where
      e : before ≡ place (missing_face w (held i)) (faces_in (mask i))
      e = found_before ∙ (λ t. place (missing_face w (get_or w (eh t + get_or w (en t + i) 0) 0)) (faces_in (get_or w (ee t + 3 * i + 2) 0)))

      c : count ≡ bit_count (mask i)
      c = counted ∙ ap (λ (x : ℕ). bit_count (get_or w (x + 3 * i + 2) 0)) ee

      more : flat_map part (up_from i (k - i)) ≡ part i ++ flat_map part (up_from (i + 1) (k - (i + 1)))
      unfolding flat_map
      more = ap (flat_map part) (up_from_cons i (k - i) (k - (i + 1)) (omega arith)) ∙ ap (λ (x : ℕ). part i ++ flat_map part (up_from x (k - (i + 1)))) (next i)
        where
          next : (i : ℕ) → suc i ≡ i + 1
          next i = omega arith

      more_long : length (flat_map part (up_from i (k - i))) ≡ length (part i) + length (flat_map part (up_from (i + 1) (k - (i + 1))))
      more_long = ap length more ∙ length-append (part i) (flat_map part (up_from (i + 1) (k - (i + 1))))

      long : length (part i) ≡ count
      unfolding bit_count
      long = row_long i h ∙ sym c

      here : before ≡ place Q (part i)
      here = e ∙ sym (row_place i h)

      count_low : count ≤ 6
      unfolding bit_count
      count_low = let a = count_le (has_bit (mask i)) faces in omega (arith, c)

      pub row_fits : found + count < 18446744073709551616
      row_fits = let b = count_low in bounded (found + count) i k nf (omega (arith, s.few)) h ready.edges ready.ready.supplied.few
        where
          bounded : (x i k nf : ℕ) → x ≤ 6 * (i + 1) → i < k → k ≤ 3 * nf → nf < 268435456 → x < 18446744073709551616
          bounded x i k nf a b c d = omega arith

      pub row_stop : before < count → (found + before ≡ missing_place pool caps (edges_at w at k)) × (found + before < length (edges_at w at k))
      row_stop l =
          let a = here in
          let b = long in
          let d = place_stops Q (part i) (flat_map part (up_from (i + 1) (k - (i + 1)))) (omega arith) in
          let f = ap (place Q) more in
          let g = more_long in
          (omega (arith, s.so), omega (arith, s.long))

      pub row_more : before ≡ count → RowWalk n nf k cap_list w (found + count) (i + 1)
      row_more l =
          let b = long in
          record {
            within = omega arith;
            few = let c = count_low in omega (arith, s.few);
            so =
                let a = here in
                let d = place_goes Q (part i) (flat_map part (up_from (i + 1) (k - (i + 1)))) (omega arith) in
                let f = ap (place Q) more in
                omega (arith, s.so);
            long = let g = more_long in omega (arith, s.long);
          }

    pub row_end : k ≤ i → (found ≡ missing_place pool caps (edges_at w at k)) × (missing_place pool caps (edges_at w at k) ≡ length (edges_at w at k))
    unfolding place flat_map up_from
    row_end h =
        let z : k - i ≡ 0 = omega arith in
        let e : place Q (flat_map part (up_from i (k - i))) ≡ 0 = ap (λ (m : ℕ). place Q (flat_map part (up_from i m))) z in
        let l : length (flat_map part (up_from i (k - i))) ≡ 0 = ap (λ (m : ℕ). length (flat_map part (up_from i m))) z in
        (omega (arith, s.so), omega (arith, s.so, s.long))
