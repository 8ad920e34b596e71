use Rattle.mesh_weld.proofs.Searching.{meets_at}
use Rattle.chains.proofs.Walking.{Walk, left}
use Prim.Native.Nat.{◌*◌}
use Rattle.mesh_weld.proofs.search.Kept.search_cell.Given as goal

abbrev pub invariant-loop-here : goal.invariant-loop-here
invariant-loop-here l =
    Walk l.self.room.now 0 (4 * l.self.n) l.self.count l.b (meets_at l.self.vertices.now l.self.eps l.self.n l.self.room.now l.c l.p) l.here

abbrev pub decreases-loop-here : goal.decreases-loop-here
decreases-loop-here l = left l.self.count l.here
