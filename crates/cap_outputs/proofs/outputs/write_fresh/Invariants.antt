use Rattle.lists.proofs.Blocks.{BlocksStored}
use Rattle.cap_outputs.proofs.Blocks.{fresh_block}
use lib.ListN.{length}
use Prim.Native.Nat.{◌+◌, ◌*◌, ◌≤◌}
use Rattle.cap_outputs.proofs.outputs.write_fresh.Given as goal

abbrev pub invariant-loop-i : goal.invariant-loop-i
invariant-loop-i l = (l.i ≤ length l.fresh) × BlocksStored (fresh_block l.w l.fresh) l.initial.out l.out l.at l.i (l.at + 3 * l.i)
