use Rattle.std.proofs.Common.{◌≡◌}
use lib.ListN.{take}
use Rattle.aabb_polygons.proofs.polygon.Polygon.copy_from.Given as goal

abbrev pub invariant-loop-p : goal.invariant-loop-p
invariant-loop-p l = l.self ≡ take l.p-index l.corners
