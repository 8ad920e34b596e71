-- The records of one pair stand together in the edge table: a run. A caller that walks the table knows of a run what its loop saw: that the key
-- is the same from place i up to, not including, e, and another one just before and at e. Assumes nothing.
--   length_bearing           as many sides bear a pair as `bearers` says
--   keys_ascend, run_list    of any sorted list of records: the run from i to e holds all records of its key
--   row_key, row_number      the record at place i of the table: its key is the pair of its side, which is one of the facets' sides
--   sides_in_order           the table holds all sides in ascending order of their pair, those of one pair in the order of the facets
--   run_sides, run_long      the run from i to e holds the numbers of all sides that bear the pair, ascending, and so e - i sides bear it
use Prim.Native.Nat.{ℕ, zero, suc, ◌+◌, ◌*◌, ◌-◌, ◌%◌, ◌≤◌, ◌<◌}
use mathlib.Core.Bool.{Bool, true, false}
use mathlib.Core.List.{List, [], ◌++◌, map, append-nil}
use mathlib.Core.Path.{◌≡◌, refl, sym, ap, subst, ◌∙◌}
use native.Mathlib.Omega.{arith}
use borrow.Author.Tests.{eq-eqb, ne_eqb}
use lib.Dec.{eqb}
use lib.ListN.{length, get_or, take, drop, length-take, length-drop, length-map, take-append-drop}
use lib.Seq.{ext_get_or, get_or-take, get_or-drop, length-take-le}
use Rattle.lists.specs.Lists.{keep, sort_by, up_to}
use Rattle.lists.specs.Order.{Ascending}
use Rattle.lists.proofs.Counts.{keep_append, count_places}
use Rattle.lists.proofs.Mapped.{Each, each_places, each_at, keep_all, keep_none}
use Rattle.lists.proofs.Orders.{ascending_at}
use Rattle.lists.proofs.Places.{length_up, at_up}
use Rattle.records.specs.Buffer.{records_at}
use Rattle.records.specs.Records.{records, record_before}
use Rattle.records.proofs.Comparing.{record_order, at_most_key}
use Rattle.records.proofs.Records.{length_records_at, records_at_get, length_records, records_get}
use Rattle.geometry.specs.Triangles.{threes}
use Rattle.edges.specs.Edges.{sides, same_pair, bearers, pair_before}
use Rattle.edges.specs.Table.{edge_key, side_of, bearing, EdgeTable}
use Rattle.edges.proofs.Sides.{Small, length_sides, sides_small}
use Rattle.edges.proofs.Rows.{Row, table_rows, table_ascends, table_sides, table_bearing}

pub length_bearing : (l : List (ℕ × ℕ)) (s : ℕ × ℕ) → length (bearing l s) ≡ bearers l s
length_bearing l s =
    count_places (λ i. same_pair s (get_or l i (0, 0))) (same_pair s) 0 (0, 0) (up_to (length l)) l (length_up 0 (length l)) (λ i h.
    ap (λ (n : ℕ). same_pair s (get_or l n (0, 0))) (at_up 0 (length l) i (omega (arith, length_up 0 (length l))) ∙ start i))
  where
    start : (i : ℕ) → 0 + i ≡ i
    start i = omega arith

-- ---- in a list
pub keys_ascend : (R : List (ℕ × ℕ)) → Ascending record_before R → (p q : ℕ) → p ≤ q → q < length R → (get_or R p (0, 0)).0 ≤ (get_or R q (0, 0)).0
keys_ascend R a p q h k = at_most_key (get_or R p (0, 0)) (get_or R q (0, 0)) (ascending_at record_before record_order R p q (0, 0) a h k)

-- some places of a list, the only ones with a key
module _ (R : List (ℕ × ℕ)) (key i e : ℕ) (ie : i ≤ e) (eR : e ≤ length R)
    (before : (j : ℕ) → j < i → (get_or R j (0, 0)).0 ≡ key → ⊥)
    (within : (j : ℕ) → i ≤ j → j < e → (get_or R j (0, 0)).0 ≡ key)
    (after : (j : ℕ) → e ≤ j → j < length R → (get_or R j (0, 0)).0 ≡ key → ⊥) where
  abbrev test : ℕ × ℕ → Bool
  test r = eqb key r.0

  abbrev m : ℕ
  m = e - i

  front : keep test (take i R) ≡ []
  front =
      keep_none test (take i R) (each_places (λ r. test r ≡ false) (0, 0) (take i R) (λ j h.
      let j<i : j < i = omega (arith, length-take i R) in
      ne_eqb key (get_or (take i R) j (0, 0)).0 (λ q. before j j<i (ap (λ (r : ℕ × ℕ). r.0) (sym (get_or-take i R j (0, 0) j<i)) ∙ sym q))))

  middle : keep test (take m (drop i R)) ≡ take m (drop i R)
  middle =
      keep_all test (take m (drop i R)) (each_places (λ r. test r ≡ true) (0, 0) (take m (drop i R)) (λ j h.
      let j<m : j < m = omega (arith, length-take m (drop i R)) in
      eq-eqb key (get_or (take m (drop i R)) j (0, 0)).0
      (sym (ap (λ (r : ℕ × ℕ). r.0) (get_or-take m (drop i R) j (0, 0) j<m ∙ get_or-drop i R j (0, 0)) ∙ within (i + j) (omega arith) (omega arith)))))

  back : keep test (drop m (drop i R)) ≡ []
  back =
      keep_none test (drop m (drop i R)) (each_places (λ r. test r ≡ false) (0, 0) (drop m (drop i R)) (λ j h.
      ne_eqb key (get_or (drop m (drop i R)) j (0, 0)).0 (λ q.
      after (i + (m + j)) (omega arith) (omega (arith, length-drop m (drop i R), length-drop i R))
      (ap (λ (r : ℕ × ℕ). r.0) (sym (get_or-drop m (drop i R) j (0, 0) ∙ get_or-drop i R (m + j) (0, 0))) ∙ sym q))))

  only_places : take (e - i) (drop i R) ≡ keep (λ r. eqb key r.0) R
  only_places =
      sym (ap (keep test) (sym (take-append-drop i R)) ∙ keep_append test (take i R) (drop i R) ∙ ap (λ (l : List (ℕ × ℕ)). l ++ keep test (drop i R)) front
      ∙ ap (keep test) (sym (take-append-drop m (drop i R))) ∙ keep_append test (take m (drop i R)) (drop m (drop i R))
      ∙ (λ t. middle t ++ back t) ∙ append-nil (take m (drop i R)))

module _ (R : List (ℕ × ℕ)) (a : Ascending record_before R) (key i e : ℕ) (ie : i < e) (eR : e ≤ length R)
    (first : (j : ℕ) → suc j ≡ i → (get_or R j (0, 0)).0 ≡ key → ⊥)
    (within : (j : ℕ) → i ≤ j → j < e → (get_or R j (0, 0)).0 ≡ key)
    (last : e < length R → (get_or R e (0, 0)).0 ≡ key → ⊥) where
  pub run_list : take (e - i) (drop i R) ≡ keep (λ r. eqb key r.0) R
  run_list = only_places R key i e (omega arith) eR earlier within later
    where
      at_start : (get_or R i (0, 0)).0 ≡ key
      at_start = within i (omega arith) ie

      before_it : (i : ℕ) → ((j : ℕ) → suc j ≡ i → (get_or R j (0, 0)).0 ≡ key → ⊥) → (get_or R i (0, 0)).0 ≡ key → i < length R → (j : ℕ) → j < i
          → (get_or R j (0, 0)).0 ≡ key → ⊥
      before_it zero f s l j h q = omega arith
      before_it (suc i) f s l j h q =
          f i refl (between (get_or R j (0, 0)).0 (get_or R i (0, 0)).0 (get_or R (suc i) (0, 0)).0 key q s (keys_ascend R a j i (omega arith) (omega arith))
          (keys_ascend R a i (suc i) (omega arith) l))
        where
          between : (x y z k : ℕ) → x ≡ k → z ≡ k → x ≤ y → y ≤ z → y ≡ k
          between x y z k p q g h = omega arith

      earlier : (j : ℕ) → j < i → (get_or R j (0, 0)).0 ≡ key → ⊥
      earlier = before_it i first at_start (omega arith)

      later : (j : ℕ) → e ≤ j → j < length R → (get_or R j (0, 0)).0 ≡ key → ⊥
      later j h k q =
          let x = keys_ascend R a i e (omega arith) (omega arith) in
          let y = keys_ascend R a e j h k in
          last (omega arith) (omega (arith, x, y, q, at_start))

-- ---- in the words that `sort_sides` leaves
module _ (f w w' : List ℕ) (whole : length f % 3 ≡ 0) (bound : (i : ℕ) → get_or f i 0 < 4294967296) (room : 2 * length f ≤ length w') (t : EdgeTable f w w') where
  abbrev S : List (ℕ × ℕ)
  S = sides (threes f)

  abbrev R : List (ℕ × ℕ)
  R = records (take (2 * length f) w')

  small : (i : ℕ) → Small (get_or S i (0, 0))
  small = sides_small f whole bound

  many : length R ≡ length f
  many = length_records w' (length f) room

  at : (i : ℕ) → i < length f → get_or R i (0, 0) ≡ (get_or w' (2 * i) 0, get_or w' (2 * i + 1) 0)
  at i h = records_get w' (length f) i room h

  row : (i : ℕ) → i < length f → Row S small 0 (get_or w' (2 * i) 0, get_or w' (2 * i + 1) 0)
  row i h =
      subst (Row S small 0) (at i h)
      (each_at (Row S small 0) (0, 0) R i (subst (Each (Row S small 0)) (sym t.table) (table_rows S small)) (omega (arith, many)))

  pub row_key : (i : ℕ) → i < length f → get_or w' (2 * i) 0 ≡ edge_key (get_or S (get_or w' (2 * i + 1) 0) (0, 0))
  row_key i h = (row i h).key

  pub row_number : (i : ℕ) → i < length f → get_or w' (2 * i + 1) 0 < length f
  row_number i h = omega (arith, (row i h).within, length_sides f whole)

  pub sides_in_order : map (side_of S) R ≡ sort_by pair_before S
  sides_in_order = ap (map (side_of S)) t.table ∙ table_sides S small

  module _ (i e : ℕ) (ie : i < e) (en : e ≤ length f)
      (first : (j : ℕ) → suc j ≡ i → get_or w' (2 * j) 0 ≡ get_or w' (2 * i) 0 → ⊥)
      (within : (j : ℕ) → i ≤ j → j < e → get_or w' (2 * j) 0 ≡ get_or w' (2 * i) 0)
      (last : e < length f → get_or w' (2 * e) 0 ≡ get_or w' (2 * i) 0 → ⊥) where
    -- the side whose record stands first
    abbrev s : ℕ × ℕ
    s = get_or S (get_or w' (2 * i + 1) 0) (0, 0)

    key_at : (j : ℕ) → j < length f → (get_or R j (0, 0)).0 ≡ get_or w' (2 * j) 0
    key_at j h = ap (λ (r : ℕ × ℕ). r.0) (at j h)

    run : take (e - i) (drop i R) ≡ keep (λ r. eqb (get_or w' (2 * i) 0) r.0) R
    run =
        run_list R (subst (Ascending record_before) (sym t.table) (table_ascends S small)) (get_or w' (2 * i) 0) i e ie (omega (arith, many))
        (λ j q k. first j q (sym (key_at j (omega arith)) ∙ k))
        (λ j h k. key_at j (omega arith) ∙ within j h k)
        (λ h k. last (omega (arith, many)) (sym (key_at e (omega (arith, many))) ∙ k))

    part : take (e - i) (drop i R) ≡ records_at w' (2 * i) (e - i)
    part =
        ext_get_or (0, 0) (take (e - i) (drop i R)) (records_at w' (2 * i) (e - i)) (long ∙ sym (length_records_at w' (2 * i) (e - i))) (λ j h.
        let j<m : j < e - i = omega (arith, long) in
        get_or-take (e - i) (drop i R) j (0, 0) j<m ∙ get_or-drop i R j (0, 0) ∙ at (i + j) (omega arith)
        ∙ (λ u. (get_or w' (twice i j u) 0, get_or w' (twice i j u + 1) 0)) ∙ sym (records_at_get w' (2 * i) (e - i) j j<m))
      where
        long : length (take (e - i) (drop i R)) ≡ e - i
        long = length-take-le (e - i) (drop i R) (omega (arith, length-drop i R, many))

        twice : (i j : ℕ) → 2 * (i + j) ≡ 2 * i + 2 * j
        twice i j = omega arith

    pub run_sides : map (λ (r : ℕ × ℕ). r.1) (records_at w' (2 * i) (e - i)) ≡ bearing S s
    run_sides =
        ap (map (λ (r : ℕ × ℕ). r.1))
        (sym part ∙ run ∙ (λ u. keep (λ r. eqb (row_key i (omega arith) u) r.0) (t.table u)))
        ∙ table_bearing S small s (small (get_or w' (2 * i + 1) 0))

    pub run_long : e - i ≡ bearers S s
    run_long =
        sym (length_records_at w' (2 * i) (e - i)) ∙ sym (length-map (records_at w' (2 * i) (e - i)) (λ (r : ℕ × ℕ). r.1))
        ∙ ap (length {A = ℕ}) run_sides ∙ length_bearing S s
