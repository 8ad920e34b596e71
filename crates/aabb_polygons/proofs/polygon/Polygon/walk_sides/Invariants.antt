use mathlib.Core.Path.{◌≡◌}
use Rattle.geometry.specs.Boxes.{face_of}
use Rattle.aabb_planes.specs.Planes.{inside}
use Rattle.aabb_polygons.proofs.Walks.{Walked}
use Rattle.aabb_polygons.proofs.polygon.Polygon.walk_sides.Given as goal

abbrev pub invariant-loop-curr : goal.invariant-loop-curr
invariant-loop-curr l =
    record {
      walked : Walked l.clip.extents l.clip.eps (face_of l.plane) l.corners l.out l.prev l.curr-index;
      known : l.prev_inside ≡ inside l.clip.extents l.clip.eps (face_of l.plane) l.prev;
    }
