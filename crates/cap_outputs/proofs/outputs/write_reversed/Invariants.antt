use Rattle.lists.proofs.Blocks.{BlocksStored}
use Rattle.cap_outputs.proofs.Blocks.{reversed_block}
use lib.ListN.{length}
use Prim.Native.Nat.{◌*◌, ◌/◌, ◌≤◌}
use Rattle.cap_outputs.proofs.outputs.write_reversed.Given as goal

abbrev pub invariant-loop-i : goal.invariant-loop-i
invariant-loop-i l = (l.i ≤ length l.facets / 3) × BlocksStored (reversed_block l.facets) l.initial.out l.out 0 l.i (3 * l.i)
