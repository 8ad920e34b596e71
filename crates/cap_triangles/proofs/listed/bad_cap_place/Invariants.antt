use Rattle.cap_triangles.proofs.Passing.{Passed}
use Rattle.cap_triangles.proofs.listed.bad_cap_place.Given as goal

-- `bad_cap_place` meets its contract. The invariant: none of the first i triangles is bad. Assumes nothing.
abbrev pub invariant-loop-i : goal.invariant-loop-i
invariant-loop-i l = Passed l.fn.caps.n l.w l.fn.caps.list.now l.i l.last
