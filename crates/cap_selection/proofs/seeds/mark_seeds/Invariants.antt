use Prim.Native.Nat.{◌/◌}
use lib.ListN.{length}
use Rattle.cap_selection.proofs.Marking.{Marking}
use Rattle.cap_selection.proofs.seeds.mark_seeds.Given as goal

-- `seeds::mark_seeds`. The loop's invariant: of the triangles before i the seeds' components are marked. The measure is what is left. Assumes nothing.
abbrev pub invariant-loop-i : goal.invariant-loop-i
invariant-loop-i l = Marking l.fn.caps.n l.fn.caps.nf (length l.fn.caps.list.now / 4) l.fn.caps.k l.fn.caps.list.now l.initial.w l.w l.i
