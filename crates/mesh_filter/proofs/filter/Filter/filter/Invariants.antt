use Rattle.mesh_filter.specs.Room.{points_in_room, facets_in_room, FacetFiltered}
use lib.ListN.{length}
use mathlib.Core.Path.{◌≡◌}
use Rattle.mesh_filter.proofs.filter.Filter.filter.Given as goal

abbrev pub invariant-loop-f : goal.invariant-loop-f
invariant-loop-f l =
    FacetFiltered l.self.eps (points_in_room l.self.welded l.self.mesh.vertices.now l.fn.m) (facets_in_room l.self.welded l.self.mesh.vertices.now l.self.mesh.facets.now l.fn.m)
    l.self.at l.self.n l.f l.count l.fn.m l.m × (length l.m ≡ length l.fn.m)
