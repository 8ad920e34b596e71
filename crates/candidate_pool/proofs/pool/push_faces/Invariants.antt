use Rattle.candidate_pool.proofs.Adding.{Adding}
use Rattle.candidate_pool.proofs.pool.push_faces.Given as goal

-- `push_faces` meets its contract: before face k those of the mask below k were added. Assumes nothing.
abbrev pub invariant-loop-face : goal.invariant-loop-face
invariant-loop-face l = Adding l.eps l.room.n l.id.0 l.mask.0 l.face-index l.initial.w l.w
