use Rattle.geometry.specs.Boxes.{face_of}
use Rattle.candidate_grids.proofs.Gathering.{Gathering}
use Rattle.candidate_grids.proofs.grids.gather_segments.Given as goal

-- `candidate_grids::grids::gather_segments` meets its contract. The loop's invariant: `Gathering`. Assumes nothing.
abbrev pub invariant-loop-i : goal.invariant-loop-i
invariant-loop-i l = Gathering l.fn.room.n l.fn.room.nf l.k (face_of l.face) l.tolerance l.initial.w l.w l.count l.i
