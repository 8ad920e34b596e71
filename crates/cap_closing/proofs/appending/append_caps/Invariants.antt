use Prim.Native.Nat.{◌≤◌}
use Rattle.cap_triangles.specs.Room.{closing_at}
use Rattle.cap_closing.specs.Steps.{Appending}
use Rattle.cap_closing.proofs.appending.append_caps.Given as goal

-- `append_caps` meets its contract: one triangle more (`appending_turn`). Assumes nothing.
abbrev pub invariant-loop-i : goal.invariant-loop-i
invariant-loop-i l = Appending l.vertices (closing_at l.room.n l.room.nf l.room.nc) l.room.n l.room.nf l.room.nc l.positive l.i l.left l.initial.w l.w × (l.i ≤ l.room.nc)
