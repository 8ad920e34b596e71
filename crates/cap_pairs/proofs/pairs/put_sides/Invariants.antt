use Rattle.cap_pairs.specs.Steps.{Recorded, side_words}
use Prim.Native.Nat.{◌*◌, ◌≤◌}
use Rattle.cap_pairs.proofs.pairs.put_sides.Given as goal

-- `put_sides` meets its contract: after some turns the records of as many sides are written behind those of the open edges. Assumes nothing.
abbrev pub invariant-loop-s : goal.invariant-loop-s
invariant-loop-s l = Recorded (side_words l.initial.w l.turned) l.initial.w l.w l.records l.fn.room.k l.s × (l.s ≤ 3 * l.fn.room.nc)
