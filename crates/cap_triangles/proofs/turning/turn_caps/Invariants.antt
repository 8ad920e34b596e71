use Rattle.cap_triangles.proofs.Turns.{Turning}
use Rattle.cap_triangles.proofs.turning.turn_caps.Given as goal

-- `turn_caps` meets its contract. The invariant: the first i triangles stand turned in the room. Assumes nothing.
abbrev pub invariant-loop-i : goal.invariant-loop-i
invariant-loop-i l = Turning l.fn.caps.n l.fn.caps.nf l.fn.caps.list.now l.initial.w l.w l.i
