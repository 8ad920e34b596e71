use Rattle.candidate_constraints.proofs.Siding.{Siding}
use Rattle.geometry.specs.Boxes.{face_of}
use Rattle.candidate_constraints.proofs.side.push_sides.Given as goal

-- `push_sides` meets its contract: after k turns the pairs are those of the first k sides. Assumes nothing.
abbrev pub invariant-loop-side : goal.invariant-loop-side
invariant-loop-side l = Siding l.fn.clip.extents l.clip.eps l.room.n (face_of l.face) l.initial.w l.w l.c l.side-index
