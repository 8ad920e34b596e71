-- The records of sides, and the edge table: these records sorted. S stands for the list of all sides, whose ends are below 2^32. Assumes nothing.
--   Row                          what a record says: which side it is of, and its key
--   length_records_from, records_from_at, numbers_from, sides_from   of the records in the order of the sides
--   row_order                    of two records the later is before the earlier exactly if its pair is
--   table_length, table_rows, table_ascends
--   table_sides                  the edge table holds the sides in ascending order of their sorted pair, those of one pair in their order
--   table_bearing                the records of one pair are those of the sides that bear it, in their order
--   table_open                   the records whose key stands once are those of the open edges, in order
use Prim.Native.Nat.{ℕ, zero, suc, ◌+◌, ◌≤◌, ◌<◌}
use mathlib.Core.Bool.{Bool}
use mathlib.Core.List.{List, [], ◌∷◌, map}
use mathlib.Core.Path.{◌≡◌, refl, sym, ap, ◌∙◌}
use native.Mathlib.Omega.{arith}
use borrow.Author.Tests.{le-ltb}
use lib.Dec.{T, eqb, ltb, eqb→eq}
use lib.ListN.{length, get_or, length-map}
use Rattle.lists.specs.Lists.{keep, count, sort_by, up_from}
use Rattle.lists.specs.Order.{AtMostAll, Ascending}
use Rattle.lists.proofs.Counts.{keep_same}
use Rattle.lists.proofs.Mapped.{Each, Pairwise, Agree, each_of, each_map, each_sort_by, each_keep, pairwise_keep, map_keep, map_sort_by}
use Rattle.lists.proofs.Members.{of_keep}
use Rattle.lists.proofs.Multiplicity.{count_sort_by, keep_sort_by}
use Rattle.lists.proofs.SortBy.{length_sort_by, ascending_sort_by, sort_by_ascending}
use Rattle.lists.proofs.Bools.{last_false}
use Rattle.records.specs.Records.{record_before}
use Rattle.records.proofs.Comparing.{record_order}
use Rattle.edges.specs.Edges.{same_pair, is_open, pair_before}
use Rattle.edges.specs.Table.{edge_key, records_from, side_records, edge_table, side_of, bearing, same_record_key, open_records}
use Rattle.edges.proofs.Sides.{Small}
use Rattle.edges.proofs.Keys.{same_pair_key, pair_before_key}

-- ---- records in the order of the sides
pub length_records_from : (k : ℕ) (l : List (ℕ × ℕ)) → length (records_from k l) ≡ length l
unfolding records_from
length_records_from k [] = refl
length_records_from k (s ∷ l) = ap suc (length_records_from (suc k) l)

pub records_from_at : (k : ℕ) (l : List (ℕ × ℕ)) (i : ℕ) → i < length l → get_or (records_from k l) i (0, 0) ≡ (edge_key (get_or l i (0, 0)), k + i)
unfolding records_from
records_from_at k [] i h = absurd (omega arith)
records_from_at k (s ∷ l) zero h = λ t. (edge_key s, start k t)
  where
    start : (k : ℕ) → k ≡ k + 0
    start k = omega arith
records_from_at k (s ∷ l) (suc i) h = records_from_at (suc k) l i (omega arith) ∙ (λ t. (edge_key (get_or l i (0, 0)), next k i t))
  where
    next : (k i : ℕ) → suc k + i ≡ k + suc i
    next k i = omega arith

pub numbers_from : (k : ℕ) (l : List (ℕ × ℕ)) → map (λ (r : ℕ × ℕ). r.1) (records_from k l) ≡ up_from k (length l)
unfolding records_from up_from
numbers_from k [] = refl
numbers_from k (s ∷ l) = ap (λ (m : List ℕ). k ∷ m) (numbers_from (suc k) l)

module _ (S : List (ℕ × ℕ)) (small : (i : ℕ) → Small (get_or S i (0, 0))) where
  -- the record of a side numbered k or above
  pub record Row (k : ℕ) (r : ℕ × ℕ) : Type 0 where
    pub above : k ≤ r.1
    pub within : r.1 < length S
    pub key : r.0 ≡ edge_key (side_of S r)

  -- the sides from number k on
  abbrev From : ℕ → List (ℕ × ℕ) → Type 0
  From k l = (k + length l ≡ length S) × ((j : ℕ) → j < length l → get_or S (k + j) (0, 0) ≡ get_or l j (0, 0))

  from_all : From 0 S
  from_all = (omega arith, λ j h. ap (λ (n : ℕ). get_or S n (0, 0)) (start j))
    where
      start : (j : ℕ) → 0 + j ≡ j
      start j = omega arith

  from_head : (k : ℕ) (s : ℕ × ℕ) (l : List (ℕ × ℕ)) → From k (s ∷ l) → get_or S k (0, 0) ≡ s
  from_head k s l f = ap (λ (n : ℕ). get_or S n (0, 0)) (start k) ∙ f.1 0 (omega arith)
    where
      start : (j : ℕ) → j ≡ j + 0
      start j = omega arith

  from_tail : (k : ℕ) (s : ℕ × ℕ) (l : List (ℕ × ℕ)) → From k (s ∷ l) → From (suc k) l
  from_tail k s l f = (omega (arith, f.0), λ j h. ap (λ (n : ℕ). get_or S n (0, 0)) (next k j) ∙ f.1 (suc j) (omega arith))
    where
      next : (k j : ℕ) → suc k + j ≡ k + suc j
      next k j = omega arith

  row_later : (k : ℕ) (r : ℕ × ℕ) → Row (suc k) r → Row k r
  row_later k r w = record { above = omega (arith, w.above); within = w.within; key = w.key }

  rows_from : (k : ℕ) (l : List (ℕ × ℕ)) → From k l → Each (Row k) (records_from k l)
  unfolding records_from
  rows_from k [] f = tt
  rows_from k (s ∷ l) f = (
    record { above = omega arith; within = omega (arith, f.0); key = ap edge_key (sym (from_head k s l f)) },
    each_map (Row (suc k)) (Row k) (row_later k) (records_from (suc k) l) (rows_from (suc k) l (from_tail k s l f)),
  )

  pub rows : Each (Row 0) (side_records S)
  rows = rows_from 0 S from_all

  sides_from : (k : ℕ) (l : List (ℕ × ℕ)) → From k l → map (side_of S) (records_from k l) ≡ l
  unfolding records_from
  sides_from k [] f = refl
  sides_from k (s ∷ l) f = λ t. from_head k s l f t ∷ sides_from (suc k) l (from_tail k s l f) t

  -- ---- their order

  row_order : (k : ℕ) (x y : ℕ × ℕ) → x.1 ≡ k → Row 0 x → Row (suc k) y → Agree (side_of S) record_before pair_before x y
  row_order k x y e u v =
      last_false (ltb y.0 x.0) (eqb y.0 x.0) (ltb y.1 x.1) (le-ltb y.1 x.1 (omega (arith, v.above)))
      ∙ (λ t. ltb (v.key t) (u.key t)) ∙ sym (pair_before_key (side_of S y) (side_of S x) (small y.1) (small x.1))

  agree_from : (k : ℕ) (l : List (ℕ × ℕ)) → From k l → Pairwise (Agree (side_of S) record_before pair_before) (records_from k l)
  unfolding records_from
  agree_from k [] f = tt
  agree_from k (s ∷ l) f =
      let x : Row 0 (edge_key s, k) = record { above = omega arith; within = omega (arith, f.0); key = ap edge_key (sym (from_head k s l f)) } in (
        each_map (Row (suc k)) (Agree (side_of S) record_before pair_before (edge_key s, k)) (λ y v. row_order k (edge_key s, k) y refl x v) (records_from (suc k) l)
            (rows_from (suc k) l (from_tail k s l f)),
        agree_from (suc k) l (from_tail k s l f),
      )

  agree : Pairwise (Agree (side_of S) record_before pair_before) (side_records S)
  agree = agree_from 0 S from_all

  -- ---- the table
  pub table_length : length (edge_table S) ≡ length S
  table_length = length_sort_by record_before (side_records S) ∙ length_records_from 0 S

  pub table_rows : Each (Row 0) (edge_table S)
  table_rows = each_sort_by record_before (Row 0) (side_records S) rows

  pub table_ascends : Ascending record_before (edge_table S)
  table_ascends = ascending_sort_by record_before record_order (side_records S)

  pub table_sides : map (side_of S) (edge_table S) ≡ sort_by pair_before S
  table_sides = map_sort_by (side_of S) record_before pair_before (side_records S) agree ∙ ap (sort_by pair_before) (sides_from 0 S from_all)

  -- ---- the records of one pair
  key_pair : (s : ℕ × ℕ) (k : ℕ) → Small s → (q : ℕ × ℕ) → Row k q → eqb (edge_key s) q.0 ≡ same_pair s (side_of S q)
  key_pair s k h q w = ap (eqb (edge_key s)) w.key ∙ sym (same_pair_key s (side_of S q) h (small q.1))

  numbered : (k : ℕ) (l : List (ℕ × ℕ)) → From k l → Pairwise (λ x y. x.1 < y.1) (records_from k l)
  unfolding records_from
  numbered k [] f = tt
  numbered k (s ∷ l) f =
      (each_map (Row (suc k)) (λ y. k < y.1) (λ y v. v.above) (records_from (suc k) l) (rows_from (suc k) l (from_tail k s l f)), numbered (suc k) l (from_tail k s l f))

  -- records of one key, in the order of their numbers, ascend
  one_key_all : (key : ℕ) (x : ℕ × ℕ) (l : List (ℕ × ℕ)) → x.0 ≡ key → Each (λ r. r.0 ≡ key) l → Each (λ y. x.1 < y.1) l → AtMostAll record_before x l
  one_key_all key x [] e k h = tt
  one_key_all key x (y ∷ l) e k h = (
    last_false (ltb y.0 x.0) (eqb y.0 x.0) (ltb y.1 x.1) (le-ltb y.1 x.1 (omega (arith, h.0)))
        ∙ le-ltb y.0 x.0 (omega (arith, e, k.0)),
    one_key_all key x l e k.1 h.1,
  )

  one_key : (key : ℕ) (l : List (ℕ × ℕ)) → Each (λ r. r.0 ≡ key) l → Pairwise (λ x y. x.1 < y.1) l → Ascending record_before l
  one_key key [] k h = tt
  one_key key (x ∷ l) k h = (one_key_all key x l k.0 k.1 h.0, one_key key l k.1 h.1)

  keys_kept : (key : ℕ) (l : List (ℕ × ℕ)) → Each (λ r. r.0 ≡ key) (keep (λ r. eqb key r.0) l)
  keys_kept key l =
      each_of (λ r. r.0 ≡ key) (keep (λ r. eqb key r.0) l) (λ r m. sym (of_test (of_keep (λ r. eqb key r.0) l m).1))
    where
      of_test : {a b : ℕ} → T (eqb a b) → a ≡ b
      of_test {a} {b} t = eqb→eq a b t

  pub table_bearing : (s : ℕ × ℕ) → Small s → map (λ (r : ℕ × ℕ). r.1) (keep (λ r. eqb (edge_key s) r.0) (edge_table S)) ≡ bearing S s
  table_bearing s h =
      let p : ℕ × ℕ → Bool = λ r. eqb (edge_key s) r.0 in
      ap (map (λ (r : ℕ × ℕ). r.1))
      (keep_sort_by record_before record_order p (side_records S)
      ∙ sort_by_ascending record_before (keep p (side_records S))
      (one_key (edge_key s) (keep p (side_records S)) (keys_kept (edge_key s) (side_records S)) (pairwise_keep p (λ x y. x.1 < y.1) (side_records S) (numbered 0 S from_all))))
      ∙ map_keep (λ (r : ℕ × ℕ). r.1) p (λ i. same_pair s (get_or S i (0, 0))) (side_records S)
      (each_map (Row 0) (λ r. p r ≡ same_pair s (side_of S r)) (key_pair s 0 h) (side_records S) rows)
      ∙ ap (keep (λ i. same_pair s (get_or S i (0, 0)))) (numbers_from 0 S)

  -- ---- those that stand once
  bearers_records : (r : ℕ × ℕ) → Row 0 r → count (same_record_key r) (side_records S) ≡ count (same_pair (side_of S r)) S
  bearers_records r u =
      sym (length-map (keep (same_record_key r) (side_records S)) (side_of S))
      ∙ ap (length {A = ℕ × ℕ}) (map_keep (side_of S) (same_record_key r) (same_pair (side_of S r)) (side_records S)
      (each_map (Row 0) (λ q. same_record_key r q ≡ same_pair (side_of S r) (side_of S q))
      (λ q w. ap (λ (n : ℕ). eqb n q.0) u.key ∙ key_pair (side_of S r) 0 (small r.1) q w) (side_records S) rows))
      ∙ ap (count (same_pair (side_of S r))) (sides_from 0 S from_all)

  pub table_open : map (side_of S) (open_records (edge_table S)) ≡ sort_by pair_before (keep (is_open S) S)
  unfolding open_records
  table_open =
      let p : ℕ × ℕ → Bool = λ r. eqb (count (same_record_key r) (side_records S)) 1 in
      ap (map (side_of S))
      (keep_same (λ (r : ℕ × ℕ). eqb (count (same_record_key r) (edge_table S)) 1) p (edge_table S)
      (λ r m. ap (λ (n : ℕ). eqb n 1) (count_sort_by record_before (same_record_key r) (side_records S)))
      ∙ keep_sort_by record_before record_order p (side_records S))
      ∙ map_sort_by (side_of S) record_before pair_before (keep p (side_records S)) (pairwise_keep p (Agree (side_of S) record_before pair_before) (side_records S) agree)
      ∙ ap (sort_by pair_before)
      (map_keep (side_of S) p (is_open S) (side_records S)
      (each_map (Row 0) (λ r. p r ≡ is_open S (side_of S r)) (λ r u. ap (λ (n : ℕ). eqb n 1) (bearers_records r u)) (side_records S) rows)
      ∙ ap (keep (is_open S)) (sides_from 0 S from_all))

  pub open_rows : Each (Row 0) (open_records (edge_table S))
  unfolding open_records
  open_rows = each_keep (λ r. eqb (count (same_record_key r) (edge_table S)) 1) (Row 0) (edge_table S) table_rows
