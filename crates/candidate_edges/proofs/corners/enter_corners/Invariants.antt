use Rattle.candidate_edges.proofs.Passes.{CornersGoing}
use Rattle.candidate_edges.proofs.corners.enter_corners.Given as goal

-- `enter_corners` meets its contract. The invariant: the pool has the vertices below v that are on two or more faces (`CornersGoing`). Assumes nothing.
abbrev pub invariant-loop-v : goal.invariant-loop-v
invariant-loop-v l = CornersGoing l.vertices l.clip.extents l.clip.eps l.room.n l.v l.initial.w l.w
