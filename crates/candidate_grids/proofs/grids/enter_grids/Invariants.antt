use Rattle.candidate_grids.proofs.Gridding.{Gridding}
use Rattle.candidate_grids.proofs.grids.enter_grids.Given as goal

abbrev pub invariant-loop-face : goal.invariant-loop-face
invariant-loop-face l = Gridding l.cuts.grid.extents l.cuts.grid.eps l.cuts.grid.resolution l.skip l.room.n l.room.nf l.k l.initial.w l.w l.face-index
