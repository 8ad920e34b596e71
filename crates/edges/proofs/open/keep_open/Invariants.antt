use Rattle.edges.proofs.Running.{Keeping}
use Prim.Native.Nat.{◌-◌}
use Rattle.edges.proofs.open.keep_open.Given as goal

-- `keep_open` meets its contract: of the runs before i those of one record are at the front. Assumes nothing.
abbrev pub invariant-loop-i : goal.invariant-loop-i
invariant-loop-i l = Keeping l.initial.w l.n l.w l.k l.i

abbrev pub decreases-loop-i : goal.decreases-loop-i
decreases-loop-i l = l.n - l.i
