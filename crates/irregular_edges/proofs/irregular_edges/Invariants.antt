use Rattle.irregular_edges.proofs.Walking.{Writing}
use lib.ListN.{length}
use Prim.Native.Nat.{◌-◌}
use Rattle.irregular_edges.proofs.irregular_edges.Given as goal

-- `irregular_edges` meets its contract: the pairs of the irregular runs before i are written. Assumes nothing.
abbrev pub invariant-loop-i : goal.invariant-loop-i
invariant-loop-i l = Writing l.facets l.initial.w l.at l.w l.q l.i

abbrev pub decreases-loop-i : goal.decreases-loop-i
decreases-loop-i l = length l.facets - l.i
