use Prim.Native.Nat.{◌-◌}
use Rattle.cap_closing.proofs.Marks.{Marking}
use Rattle.cap_closing.proofs.firsts.mark_firsts.Given as goal

-- `mark_firsts` meets its contract: the runs before i are marked. Assumes nothing.
abbrev pub invariant-loop-i : goal.invariant-loop-i
invariant-loop-i l = Marking l.initial.w l.records l.firsts l.left l.w l.count l.i

abbrev pub decreases-loop-i : goal.decreases-loop-i
decreases-loop-i l = l.left - l.i
