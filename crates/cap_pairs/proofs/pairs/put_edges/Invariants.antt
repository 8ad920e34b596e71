use Rattle.cap_pairs.specs.Steps.{Recorded}
use Rattle.cap_pairs.specs.Pairs.{edge_pair}
use Prim.Native.Nat.{◌+◌, ◌*◌, ◌≤◌}
use Rattle.cap_pairs.proofs.pairs.put_edges.Given as goal

-- `put_edges` meets its contract: after some turns the records of as many open edges are written. Assumes nothing.
abbrev pub invariant-loop-i : goal.invariant-loop-i
invariant-loop-i l = Recorded (λ j. edge_pair l.initial.w (l.edges + 3 * j)) l.initial.w l.w l.records 0 l.i × (l.i ≤ l.fn.room.k)
