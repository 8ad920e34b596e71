use Prim.Native.Nat.{◌≤◌}
use Rattle.lists.proofs.Blocks.{BlocksStored}
use Rattle.cap_outputs.proofs.Blocks.{cap_block}
use Rattle.cap_outputs.proofs.outputs.write_caps.Given as goal

abbrev pub invariant-loop-i : goal.invariant-loop-i
invariant-loop-i l = (l.i ≤ l.left) × BlocksStored (cap_block l.w l.facets l.firsts) l.initial.out l.out l.at l.i l.o
