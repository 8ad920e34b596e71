use Prim.Native.Nat.{◌+◌, ◌≤◌}
use Rattle.candidate_pool.specs.Offsets.{entry_at}
use lib.ListN.{get_or}
use Rattle.lists.proofs.Regions.{Filled}
use Rattle.cap_triangles.specs.Room.{closing_at}
use Rattle.cap_closing.proofs.entering.start_entering.Given as goal

-- `start_entering` meets its contract: the copy goes on from candidate to candidate (`copy_more`). Assumes nothing.
abbrev pub invariant-loop-c : goal.invariant-loop-c
invariant-loop-c l = Filled (λ j. get_or l.initial.w (entry_at j + 3) 0) l.initial.w l.w (closing_at l.fn.room.n l.fn.room.nf l.fn.room.nc) l.c × (l.c ≤ l.count)
