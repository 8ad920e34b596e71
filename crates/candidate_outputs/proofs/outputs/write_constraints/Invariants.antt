use Prim.Native.Nat.{◌≤◌}
use lib.ListN.{length}
use Rattle.candidate_outputs.proofs.Blocks.{key_block}
use Rattle.lists.proofs.Blocks.{BlocksStored}
use Rattle.candidate_outputs.proofs.outputs.write_constraints.Given as goal

abbrev pub invariant-loop-i : goal.invariant-loop-i
invariant-loop-i l = (l.i ≤ length l.keys) × BlocksStored (key_block l.keys) l.initial.out l.out 0 l.i l.o
