use Rattle.std.proofs.Common.{arith}
use mathlib.Core.List.{List}
use mathlib.Core.Path.{refl, ap, ◌∙◌}
use lib.ListN.{length, drop_of_length-le}
use Rattle.geometry.specs.declared.point.Point.{Point}
use Rattle.geometry.specs.Boxes.{face_of}
use Rattle.aabb_polygons.specs.Steps.{clip_unsnapped}
use Rattle.aabb_polygons.proofs.Walks.{walked_start, walked_room, walked_more, walked_end}
use Rattle.aabb_polygons.proofs.polygon.Polygon.walk_sides.Goals as goal

pub loop-curr-init : goal.loop-curr-init
loop-curr-init c =
    let some = c.requires.0 in
    record {
      walked = rw c.clear.ensures (walked_start _ _ _ _ _ _ (omega (arith, ap length c.corners-corners.ensures.all)) refl);
      known = c.point_inside_plane-prev_inside.ensures;
    }

pub add_side-prev_inside-requires-clause-room : goal.add_side-prev_inside-requires-clause-room
add_side-prev_inside-requires-clause-room c =
    let few = c.requires in
    walked_room _ _ _ _ _ _ _ c.loop-curr.invariant.walked _ _ refl c.loop-curr-test.true (omega (arith, ap length c.corners-corners.ensures.all))

pub loop-curr-preserved : goal.loop-curr-preserved
loop-curr-preserved c =
    let side = c.add_side-prev_inside in
    record {
      walked = walked_more _ _ _ _ _ _ _ c.loop-curr.invariant.walked _ _ refl c.loop-curr-test.true _ side.ensures.corners;
      known = side.ensures.curr;
    }

pub returns : goal.returns
returns c =
    walked_end _ _ _ _ _ _ _ c.loop-curr.invariant.walked (drop_of_length-le _ {i = c.loop-curr.curr-index} (omega arith))
    ∙ ap (λ (l : List Point). clip_unsnapped c.args.clip.extents c.args.clip.eps (face_of c.args.plane) l) c.corners-corners.ensures.all
