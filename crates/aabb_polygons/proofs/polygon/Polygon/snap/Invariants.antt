use Rattle.std.proofs.Common.{◌≡◌}
use mathlib.Core.List.{map, ◌++◌}
use lib.ListN.{take, drop}
use Rattle.aabb_planes.specs.Planes.{snapped}
use Rattle.aabb_polygons.proofs.polygon.Polygon.snap.Given as goal

abbrev pub invariant-loop-p : goal.invariant-loop-p
invariant-loop-p l = l.p-items ≡ map (snapped l.clip.extents l.clip.eps) (take l.p-index l.initial.p-items) ++ drop l.p-index l.initial.p-items
