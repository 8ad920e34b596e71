use Prim.Native.Nat.{◌/◌, ◌-◌}
use lib.ListN.{length}
use Rattle.boundary_groups.proofs.Walks.{Putting}
use Rattle.boundary_groups.proofs.put_components.Given as goal

-- `put_components`. The loop's invariant: the words of the runs before record i are put.
abbrev pub invariant-loop-i : goal.invariant-loop-i
invariant-loop-i l = Putting l.ends l.degrees l.records l.counts l.c l.i

abbrev pub decreases-loop-i : goal.decreases-loop-i
decreases-loop-i l = length l.records / 2 - l.i
