use Rattle.boundary_groups.specs.Staged.{edge_in, PairsPut}
use Rattle.boundary_groups.proofs.put_ends.Given as goal

-- `put_ends`. The loop's invariant: the ends of the edges before i are put.
abbrev pub invariant-loop-i : goal.invariant-loop-i
invariant-loop-i l = PairsPut (edge_in l.records) l.ends l.i
