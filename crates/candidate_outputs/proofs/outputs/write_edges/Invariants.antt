use Prim.Native.Nat.{◌≤◌}
use Rattle.candidate_outputs.proofs.Blocks.{edge_block}
use Rattle.lists.proofs.Blocks.{BlocksStored}
use Rattle.candidate_outputs.proofs.outputs.write_edges.Given as goal

abbrev pub invariant-loop-i : goal.invariant-loop-i
invariant-loop-i l = (l.i ≤ l.k) × BlocksStored (edge_block l.w l.edges) l.initial.out l.out 0 l.i l.o
