use Prim.Native.Nat.{◌≤◌}
use Rattle.candidate_outputs.proofs.Blocks.{list_block}
use Rattle.lists.proofs.Blocks.{BlocksStored}
use Rattle.candidate_outputs.proofs.outputs.write_face_lists.Given as goal

abbrev pub invariant-loop-face : goal.invariant-loop-face
invariant-loop-face l = (l.face-index ≤ 6) × BlocksStored (list_block l.room.n l.w) l.initial.out l.out 6 l.face-index l.at
