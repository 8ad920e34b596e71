use Prim.Native.Nat.{ℕ, ◌+◌, ◌*◌, ◌/◌, ◌≤◌, ◌<◌}
use native.Mathlib.Omega.{arith}
use mathlib.Core.Path.{◌≡◌, sym, ap, subst, ◌∙◌}
use mathlib.Core.List.{List, ◌++◌, map}
use lib.Dec.{eqb}
use lib.ListN.{get_or, length, take, drop, length-drop, length-append, get_or-append}
use lib.Seq.{length-take-le, get_or-take}
use Rattle.lists.specs.Lists.{count, up_to}
use Rattle.records.specs.Buffer.{records_at}
use Rattle.records.specs.Records.{sorted}
use Rattle.components.specs.Table.{ComponentNumbers}
use Rattle.boundary_groups.specs.Staged.{edge_in, pair_at, PairsPut}
use Rattle.boundary_groups.proofs.Listed.{numbered}
use Rattle.boundary_groups.proofs.Grouping.{
  ends_put,
  ends_low,
  ends_asked,
  numbers_sorted,
  payload_low,
  edges_words,
  counts_words,
  groups_counted,
  edges_in_room,
  counts_in_room,
  between_kept,
}
use Rattle.boundary_groups.proofs.group_edges.Goals.{After-put_ends, After-sort_records}
use Rattle.boundary_groups.proofs.group_edges.Goals as goal

module _ (c : After-put_ends) where
  ends_long : length c.put_ends.new.ends ≡ 2 * c.args.k
  ends_long =
      let e = c.split_at_mut-ends.ensures.front_len in
      c.put_ends.auto.ends ∙ length-take-le (2 * c.args.k) c.split_at_mut-ends.result.0.now (omega (arith, c.requires.few))

  ends_are : PairsPut (edge_in c.args.w.now) c.put_ends.new.ends c.args.k
  ends_are =
      ends_put c.args.w.now c.split_at_mut-front.result.0.now c.put_ends.new.ends c.args.k c.args.at _ c.split_at_mut-front.ensures.front (omega (arith, c.requires.few, c.requires.front))
      (omega (arith, ends_long, c.put_ends.auto.ends)) c.put_ends.ensures

  low : (i : ℕ) → i < length c.put_ends.new.ends → get_or c.put_ends.new.ends i 0 < c.args.m
  low = ends_low c.args.k c.args.n c.args.m c.args.at c.args.w.now c.requires c.put_ends.new.ends ends_long ends_are

pub components-requires-clause-item_labels : goal.components-requires-clause-item_labels
components-requires-clause-item_labels c =
    let p = (goal.at.components-requires-clause-item_labels c).After-put_ends in
    ends_asked c.args.k c.args.n c.args.m c.args.at c.args.w.now c.requires c.put_ends.new.ends (ends_long p) (ends_are p)

pub tally-requires-clause-low : goal.tally-requires-clause-low
tally-requires-clause-low c =
    let p = (goal.at.tally-requires-clause-low c).After-put_ends in
    let e = c.zero.auto.w in
    let d = c.split_at_mut-degrees.ensures.front_len in
    λ i h. omega (arith, low p i h)

pub put_components-requires-clause-degrees_of : goal.put_components-requires-clause-degrees_of
put_components-requires-clause-degrees_of c =
    let p = (goal.at.put_components-requires-clause-degrees_of c).After-put_ends in
    let t = c.tally.auto.sizes in
    let e = c.zero.auto.w in
    let d = c.split_at_mut-degrees.ensures.front_len in
    λ i h. omega (arith, low p i h)

-- the components' numbers
abbrev numbers : After-sort_records → List ℕ
numbers c = take c.args.k c.components.new.table

module _ (c : After-sort_records) where
  few : c.args.k ≤ c.args.n
  few = c.requires.few

  all_ends : length c.put_ends.new.ends ≡ 2 * c.args.k
  all_ends =
      let e = c.split_at_mut-ends.ensures.front_len in
      c.put_ends.auto.ends ∙ length-take-le (2 * c.args.k) c.split_at_mut-ends.result.0.now (omega (arith, few))

  ends_by_edge : PairsPut (edge_in c.args.w.now) c.put_ends.new.ends c.args.k
  ends_by_edge =
      ends_put c.args.w.now c.split_at_mut-front.result.0.now c.put_ends.new.ends c.args.k c.args.at _ c.split_at_mut-front.ensures.front (omega (arith, few, c.requires.front))
      (omega (arith, all_ends, c.put_ends.auto.ends)) c.put_ends.ensures

  numbers_of : ComponentNumbers c.put_ends.new.ends c.args.k 2 (numbers c)
  numbers_of =
      let e : length c.put_ends.new.ends / 2 ≡ c.args.k = omega (arith, all_ends) in
      subst (λ (x : ℕ). ComponentNumbers c.put_ends.new.ends x 2 (take x c.components.new.table)) e c.components.ensures.numbers

  tallied : (v : ℕ) → v < c.args.m → get_or c.tally.new.sizes v 0 ≡ count (eqb v) c.put_ends.new.ends
  tallied v h = let e = c.zero.auto.w in let d = c.split_at_mut-degrees.ensures.front_len in c.tally.ensures.sizes v (omega arith)

  numbers_long : length (numbers c) ≡ c.args.k
  numbers_long =
      let t = c.components.ensures.long in
      let e = c.split_at_mut-numbers.ensures.front_len in
      length-take-le c.args.k c.components.new.table (omega (arith, few))

  put_long : length c.number_records.new.records ≡ 2 * c.args.k
  put_long =
      let e = c.split_at_mut-front.ensures.front_len in
      c.number_records.auto.records ∙ length-take-le (2 * c.args.k) c.split_at_mut-front.result.0.now (omega (arith, few, c.requires.front))

  records_long : length (take (2 * c.args.k) c.sort_records.new.m) ≡ 2 * c.args.k
  records_long =
      let e = c.split_at_mut-front.ensures.front_len in
      let d = length-drop (2 * c.args.k) c.split_at_mut-front.result.0.now in
      length-take-le (2 * c.args.k) c.sort_records.new.m (rw c.sort_records.ensures.same (simp length-append (omega (arith, few, c.requires.front, put_long))))

  ordered : records_at (take (2 * c.args.k) c.sort_records.new.m) 0 c.args.k ≡ sorted (map (numbered (λ i. get_or (numbers c) i 0)) (up_to c.args.k))
  ordered =
      let e = c.split_at_mut-front.ensures.front_len in
      let d = length-drop (2 * c.args.k) c.split_at_mut-front.result.0.now in
      numbers_sorted c.args.k (λ i. get_or (numbers c) i 0) c.number_records.new.records _ c.sort_records.new.m put_long (omega (arith, few, c.requires.front, put_long))
      (subst (λ (x : ℕ). PairsPut (numbered (λ i. get_or (numbers c) i 0)) c.number_records.new.records x) numbers_long c.number_records.ensures) c.sort_records.ensures

  payload_in : (j : ℕ) → j < c.args.k → get_or (take (2 * c.args.k) c.sort_records.new.m) (2 * j + 1) 0 < c.args.k
  payload_in = payload_low c.args.k c.args.n c.args.m c.args.at c.args.w.now c.requires c.put_ends.new.ends all_ends ends_by_edge (numbers c) numbers_of c.tally.new.sizes tallied _
      records_long ordered

pub put_grouped-requires-clause-by_index : goal.put_grouped-requires-clause-by_index
put_grouped-requires-clause-by_index c =
    let p = (goal.at.put_grouped-requires-clause-by_index c).After-sort_records in
    let e = c.split_at_mut-edges.ensures.front_len in
    let d = length-take-le (2 * c.args.k) c.split_at_mut-edges.result.0.now (omega (arith, few p)) in
    λ j h. omega (arith, all_ends p, payload_in p j (omega arith), get_or-take (2 * c.args.k) c.sort_records.new.m (2 * j + 1) 0 (omega arith))

pub put_components-requires-clause-low : goal.put_components-requires-clause-low
put_components-requires-clause-low c =
    let p = (goal.at.put_components-requires-clause-low c).After-sort_records in
    λ j h. omega (arith, all_ends p, payload_in p j (omega (arith, records_long p)))

pub returns : goal.returns
returns c =
    let a = c.args in
    let p = (goal.at.returns c).After-sort_records in
    let f = c.split_at_mut-front.ensures in
    let s = c.split_at_mut-ends.ensures in
    let t = c.split_at_mut-numbers.ensures in
    let d = c.split_at_mut-degrees.ensures in
    let e = c.split_at_mut-edges.ensures in
    let taken = length-take-le (2 * a.k) c.split_at_mut-edges.result.0.now (omega (arith, few p, e.front_len)) in
    let out : length c.put_grouped.new.edges ≡ 2 * a.k = c.put_grouped.auto.edges ∙ taken in
    let half : length (take (2 * a.k) c.split_at_mut-edges.result.0.now) / 2 ≡ a.k = omega (arith, taken) in
    let half_records : (j : ℕ) → j < a.k → get_or c.sort_records.new.m (2 * j + 1) 0 ≡ get_or (take (2 * a.k) c.sort_records.new.m) (2 * j + 1) 0 =
    λ j h. sym (get_or-take (2 * a.k) c.sort_records.new.m (2 * j + 1) 0 (omega arith)) in
    let put : PairsPut (λ (j : ℕ). pair_at c.put_ends.new.ends (get_or (take (2 * a.k) c.sort_records.new.m) (2 * j + 1) 0)) c.put_grouped.new.edges a.k = record {
      first = λ j h. c.put_grouped.ensures.first j (omega arith) ∙ ap (λ (x : ℕ). (pair_at c.put_ends.new.ends x).0) (half_records j h);
      second = λ j h. c.put_grouped.ensures.second j (omega arith) ∙ ap (λ (x : ℕ). (pair_at c.put_ends.new.ends x).1) (half_records j h);
    } in
    let before : length c.sort_records.new.m ≡ a.at =
    c.sort_records.ensures.same ∙ simp (length-append, length-drop) (omega (arith, few p, c.requires.front, put_long p, f.front_len)) in
    let ends : length (c.put_ends.new.ends ++ drop (2 * a.k) c.split_at_mut-ends.result.0.now) ≡ 2 * a.n =
    simp (length-append, length-drop) (omega (arith, few p, all_ends p, s.front_len)) in
    let table : length c.components.new.table ≡ 2 * a.n + a.m = c.components.ensures.long ∙ t.front_len in
    let degrees : length c.tally.new.sizes ≡ a.m = c.tally.ensures.long ∙ c.zero.auto.w ∙ d.front_len in
    let edges : length (c.put_grouped.new.edges ++ drop (2 * a.k) c.split_at_mut-edges.result.0.now) ≡ 2 * a.n =
    simp (length-append, length-drop) (omega (arith, few p, out, e.front_len)) in
    let counts = c.put_components.auto.counts in
    record {
      long = simp (length-append, length-drop) (omega
          (arith, before, few p, all_ends p, s.front_len, table, degrees, out, counts, f.front_len, f.back_len, s.back_len, t.back_len, d.back_len, e.front_len, e.back_len, c.requires.room));
      count = groups_counted a.k a.n a.m a.at a.w.now c.requires c.put_ends.new.ends (all_ends p) (ends_by_edge p) (numbers p) (numbers_of p) c.tally.new.sizes (tallied p) _
          (records_long p) (ordered p) c.put_components.new.counts c.put_components.result c.put_components.ensures
          (omega (arith, counts, few p, f.back_len, s.back_len, t.back_len, d.back_len, e.back_len, c.requires.room));
      few = omega (arith, c.put_components.ensures.few, records_long p);
      edges = edges_in_room a.k a.n a.m a.at (few p) _ _ _ _ _ _ _ before ends table degrees out edges
          ∙ edges_words a.k a.n a.m a.at a.w.now c.requires c.put_ends.new.ends (all_ends p) (ends_by_edge p) (numbers p) (numbers_of p) c.tally.new.sizes (tallied p) _
          (records_long p) (ordered p) c.put_grouped.new.edges out put;
      components = counts_in_room a.k a.n a.m a.at (few p) _ _ _ _ _ _ _ before ends table degrees out edges c.put_components.result
          ∙ counts_words a.k a.n a.m a.at a.w.now c.requires c.put_ends.new.ends (all_ends p) (ends_by_edge p) (numbers p) (numbers_of p) c.tally.new.sizes (tallied p) _
          (records_long p) (ordered p) c.put_components.new.counts c.put_components.result c.put_components.ensures;
      between = λ x lo hi. get_or-append c.sort_records.new.m _ 0 x (omega (arith, before))
          ∙ between_kept a.w.now c.split_at_mut-front.result.0.now c.number_records.new.records c.sort_records.new.m a.k a.at f.front (put_long p) (omega (arith, few p, c.requires.front))
          c.sort_records.ensures.beyond x (omega (arith, few p)) hi;
    }
