use Prim.Native.Nat.{◌≤◌, ◌+◌}
use lib.ListN.{get_or}
use Rattle.candidate_outputs.specs.Written.{face_words}
use Rattle.lists.proofs.Blocks.{BlocksStored}
use Rattle.candidate_outputs.proofs.outputs.write_edge.Given as goal

abbrev pub invariant-loop-face : goal.invariant-loop-face
invariant-loop-face l = (l.face-index ≤ 6) × BlocksStored (face_words l.mask.0 (get_or l.w l.edge 0) (get_or l.w (l.edge + 1) 0)) l.initial.out l.out l.at l.face-index l.o
