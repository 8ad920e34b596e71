use Rattle.candidate_constraints.proofs.Listing.{Faced}
use Rattle.candidate_constraints.proofs.constraints.all_constraints.Given as goal

-- `all_constraints` meets its contract: after some turns the constraints are those of as many faces. Assumes nothing.
abbrev pub invariant-loop-face : goal.invariant-loop-face
invariant-loop-face l = Faced l.clip.extents l.clip.eps l.fn.room.n l.fn.room.nf l.fn.k l.initial.w l.w l.total l.face-index
