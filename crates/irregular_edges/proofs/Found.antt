-- The irregular edges are the pairs of the irregular runs of the edge table. S is the list of all sides, with ends below 2^32. Assumes nothing.
--   found             the pairs of the irregular runs, unpacked from their keys
--   table_irregular   of the edge table these are the irregular edges
use Prim.Native.Nat.{ℕ}
use mathlib.Core.Bool.{Bool, true, ◌&&◌, ◌||◌}
use mathlib.Core.List.{List, map}
use mathlib.Core.Logic.{inl, ⊎_elim}
use mathlib.Core.Path.{◌≡◌, sym, ap, ◌∙◌}
use borrow.Author.Tests.{eqb-true, eq-eqb}
use lib.Dec.{eqb, ltb}
use lib.ListN.{length, get_or, length-map}
use Rattle.lists.specs.Lists.{keep, count, sort_by, distinct}
use Rattle.lists.proofs.Bools.{and_left, and_right, and_next, both_ways}
use Rattle.lists.proofs.Mapped.{Each, each_map, each_keep, map_keep}
use Rattle.lists.proofs.Multiplicity.{count_sort_by}
use Rattle.records.specs.Runs.{runs, first_key}
use Rattle.records.specs.Records.{record_before}
use Rattle.records.proofs.ByRuns.{runs_distinct}
use Rattle.edges.specs.Edges.{sorted_pair, same_pair, pair_before}
use Rattle.edges.specs.Table.{edge_table, side_of, same_record_key}
use Rattle.edges.proofs.Sides.{Small}
use Rattle.edges.proofs.Keys.{same_pair_lem, pair_same}
use Rattle.edges.proofs.Rows.{Row, table_rows, table_ascends, table_sides}
use Rattle.irregular_edges.specs.Irregular.{same_side, is_irregular}
use Rattle.irregular_edges.specs.Listed.{irregular_run}
use Rattle.irregular_edges.proofs.Exchange.{ascending_keep, keep_by_pair}
use Rattle.irregular_edges.proofs.Groups.{same_way, irregular_in, runs_keep}
use Rattle.irregular_edges.proofs.Pairs.{unpacked, same_key_lem, distinct_pairs}

-- two sides of one pair run the same way exactly if they begin at the same end
pub same_side_lem : (s t : ℕ × ℕ) → (same_pair s t && eqb s.0 t.0) ≡ same_side s t
unfolding same_side
same_side_lem s t =
    both_ways (same_pair s t && eqb s.0 t.0) (eqb s.0 t.0 && eqb s.1 t.1)
    (λ h. let q = eqb-true s.0 t.0 (and_right (same_pair s t) (eqb s.0 t.0) h) in
    and_next (eqb s.0 t.0) (eqb s.1 t.1) true (eq-eqb s.0 t.0 q) (eq-eqb s.1 t.1
    (⊎_elim (λ (e : (s.0 ≡ t.0) × (s.1 ≡ t.1)). e.1) (λ (e : (s.0 ≡ t.1) × (s.1 ≡ t.0)). e.1 ∙ sym q ∙ e.0)
    (same_pair_lem s t (and_left (same_pair s t) (eqb s.0 t.0) h)))))
    (λ h. let a = and_left (eqb s.0 t.0) (eqb s.1 t.1) h in
    let b = and_right (eqb s.0 t.0) (eqb s.1 t.1) h in
    and_next (same_pair s t) (eqb s.0 t.0) true (pair_same s t (inl (eqb-true s.0 t.0 a, eqb-true s.1 t.1 b))) a)

unfoldable pub found : List (ℕ × ℕ) → List (List (ℕ × ℕ)) → List (ℕ × ℕ)
found S l = map unpacked (map first_key (keep (irregular_run S) l))

module _ (S : List (ℕ × ℕ)) (small : (i : ℕ) → Small (get_or S i (0, 0))) where
  abbrev table : List (ℕ × ℕ)
  table = edge_table S

  -- how many records pass is how many sides do
  counts : (p q : ℕ × ℕ → Bool) → Each (λ r. p r ≡ q (side_of S r)) table → count p table ≡ count q S
  counts p q h =
      sym (length-map (keep p table) (side_of S)) ∙ ap (length {A = ℕ × ℕ}) (map_keep (side_of S) p q table h) ∙ ap (count q) (table_sides S small)
      ∙ count_sort_by pair_before q S

  irregular_row : (r : ℕ × ℕ) → Row S small 0 r → irregular_in S table r ≡ is_irregular S (side_of S r)
  unfolding irregular_in is_irregular
  irregular_row r u =
      λ t. ltb 2 (counts (same_record_key r) (same_pair (side_of S r))
      (each_map (Row S small 0) (λ q. same_record_key r q ≡ same_pair (side_of S r) (side_of S q)) pair table (table_rows S small)) t)
      || ltb 1 (counts (same_way S r) (same_side (side_of S r)) (each_map (Row S small 0) (λ q. same_way S r q ≡ same_side (side_of S r) (side_of S q)) way table (table_rows S small)) t)
    where
      pair : (q : ℕ × ℕ) → Row S small 0 q → same_record_key r q ≡ same_pair (side_of S r) (side_of S q)
      pair q v = sym (same_key_lem S small r q u v)

      way : (q : ℕ × ℕ) → Row S small 0 q → same_way S r q ≡ same_side (side_of S r) (side_of S q)
      way q v = ap (λ (b : Bool). b && eqb (side_of S r).0 (side_of S q).0) (pair q v) ∙ same_side_lem (side_of S r) (side_of S q)

  pub table_irregular : found S (runs table) ≡ map sorted_pair (distinct same_pair (sort_by pair_before (keep (is_irregular S) S)))
  unfolding found
  table_irregular =
      ap (map unpacked)
      (ap (map first_key) (sym (runs_keep S table (table_ascends S small)))
      ∙ runs_distinct (keep (irregular_in S table) table) (ascending_keep record_before (irregular_in S table) table (table_ascends S small)))
      ∙ sym (distinct_pairs S small (keep (irregular_in S table) table) (each_keep (irregular_in S table) (Row S small 0) table (table_rows S small)))
      ∙ ap (λ (l : List (ℕ × ℕ)). map sorted_pair (distinct same_pair l))
      (map_keep (side_of S) (irregular_in S table) (is_irregular S) table
      (each_map (Row S small 0) (λ r. irregular_in S table r ≡ is_irregular S (side_of S r)) irregular_row table (table_rows S small))
      ∙ ap (keep (is_irregular S)) (table_sides S small) ∙ keep_by_pair (is_irregular S) S)
