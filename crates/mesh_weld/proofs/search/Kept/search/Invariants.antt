use Rattle.mesh_weld.specs.Room.{found_in, block}
use Rattle.mesh_weld.proofs.Words.{from_cell}
use Prim.Native.Nat.{◌+◌, ◌*◌}
use mathlib.Core.Path.{◌≡◌}
use Rattle.mesh_weld.proofs.search.Kept.search.Given as goal

-- nothing was found in the cells that were searched
abbrev pub invariant-loop-x : goal.invariant-loop-x
invariant-loop-x l =
    found_in l.self.vertices.now l.self.eps l.self.n l.self.count l.self.room.now l.p (block l.corner)
    ≡ found_in l.self.vertices.now l.self.eps l.self.n l.self.count l.self.room.now l.p (from_cell l.corner (9 * l.x))

abbrev pub invariant-loop-y : goal.invariant-loop-y
invariant-loop-y l =
    found_in l.self.vertices.now l.self.eps l.self.n l.self.count l.self.room.now l.p (block l.corner)
    ≡ found_in l.self.vertices.now l.self.eps l.self.n l.self.count l.self.room.now l.p (from_cell l.corner (9 * l.x + 3 * l.y))

abbrev pub invariant-loop-z : goal.invariant-loop-z
invariant-loop-z l =
    found_in l.self.vertices.now l.self.eps l.self.n l.self.count l.self.room.now l.p (block l.corner)
    ≡ found_in l.self.vertices.now l.self.eps l.self.n l.self.count l.self.room.now l.p (from_cell l.corner (9 * l.x + 3 * l.y + l.z))
