use Rattle.std.proofs.Common.{arith}
use mathlib.Core.Path.{sym}
use mathlib.Core.List.{append-nil}
use Rattle.aabb_polygons.specs.Polygons.{crossed}
use Rattle.aabb_polygons.proofs.polygon.Polygon.add_crossing.Goals as goal

pub push-requires : goal.push-requires
unfolding crossed
push-requires c = let h = rw (← c.in-Some.ensures) at c.requires in omega arith

pub returns-in-Some : goal.returns-in-Some
unfolding crossed
returns-in-Some c = rw (← c.in-Some.ensures) (simp (c.push.ensures, c.snap_near_bbox.ensures, c.snap_to_plane-crossed.ensures, c.interpolate_points.ensures))

pub returns-in_default : goal.returns-in_default
unfolding crossed
returns-in_default c = rw (← c.in_default.ensures) (sym (append-nil _))
