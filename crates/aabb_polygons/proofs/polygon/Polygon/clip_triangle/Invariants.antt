use Rattle.std.proofs.Common.{[], ◌∷◌}
use Rattle.aabb_polygons.proofs.Walks.{Cut}
use Rattle.aabb_polygons.proofs.polygon.Polygon.clip_triangle.Given as goal

abbrev pub invariant-loop-plane : goal.invariant-loop-plane
invariant-loop-plane l = Cut l.clip.extents l.clip.eps (l.fn.facet.a ∷ l.fn.facet.b ∷ l.fn.facet.c ∷ []) l.self l.plane-index
