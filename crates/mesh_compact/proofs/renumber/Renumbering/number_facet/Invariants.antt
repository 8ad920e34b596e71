use Rattle.geometry.specs.Triangles.{vertices, corners_at}
use Rattle.mesh_compact.specs.Room.{Faceted}
use lib.ListN.{length, take}
use Prim.Native.Nat.{◌+◌, ◌*◌}
use mathlib.Core.Path.{◌≡◌}
use Rattle.mesh_compact.proofs.renumber.Renumbering.number_facet.Given as goal

-- j corners are numbered
abbrev pub invariant-loop-j : goal.invariant-loop-j
invariant-loop-j l =
    Faceted l.self.kept l.self.at l.self.n l.self.k (take l.j (vertices (corners_at l.fn.m (l.self.facets + 3 * l.i)))) l.fn.w l.w l.fn.m l.m
    × (length l.m ≡ length l.fn.m)
