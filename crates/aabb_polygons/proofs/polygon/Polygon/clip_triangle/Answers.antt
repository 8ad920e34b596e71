use Rattle.std.proofs.Common.{arith, ◌+◌}
use mathlib.Core.List.{List, map}
use mathlib.Core.Path.{ap, ◌∙◌}
use lib.ListN.{length, drop_of_length-le}
use Rattle.geometry.specs.declared.point.Point.{Point}
use Rattle.geometry.specs.Boxes.{faces}
use Rattle.aabb_planes.specs.Planes.{snapped}
use Rattle.aabb_polygons.specs.Polygons.{clip_to_plane}
use Rattle.aabb_polygons.proofs.Planes.{unsnapped_snapped}
use Rattle.aabb_polygons.proofs.Walks.{cut_start, cut_stop, cut_room, cut_more, cut_end, other_at, pushed, few}
use Rattle.aabb_polygons.proofs.polygon.Polygon.clip_triangle.Goals as goal

pub loop-plane-init : goal.loop-plane-init
loop-plane-init c =
    let box = c.args.clip.extents in
    let eps = c.args.clip.eps in
    cut_start box eps _ _ (omega arith)
    (c.snap.ensures ∙ ap (λ (l : List Point). map (snapped box eps) l) c.clip_to_plane.ensures.unsnapped ∙ unsnapped_snapped box eps 0 _
    ∙ ap (λ (l : List Point). clip_to_plane box eps l 0) (pushed _ _ _ _ _ _ _ c.clear.ensures c.push.ensures c.push-2.ensures c.push-3.ensures))

pub returns-then-len-lt3-clause-clipped : goal.returns-then-len-lt3-clause-clipped
returns-then-len-lt3-clause-clipped c = cut_stop _ _ _ _ _ c.loop-plane.invariant (omega arith)

pub returns-then-len-lt3-clause-at_most : goal.returns-then-len-lt3-clause-at_most
returns-then-len-lt3-clause-at_most c =
    let t = c.args.facet in
    omega (arith, few t.a t.b t.c c.args.clip.extents c.args.clip.eps, ap length (returns-then-len-lt3-clause-clipped c))

pub clip_to_plane-requires-in-loop-plane : goal.clip_to_plane-requires-in-loop-plane
clip_to_plane-requires-in-loop-plane c = (omega arith, cut_room _ _ _ _ _ c.loop-plane.invariant c.loop-plane-test.true)

pub loop-plane-preserved : goal.loop-plane-preserved
loop-plane-preserved c =
    cut_more _ _ _ _ _ c.loop-plane.invariant _ _ (other_at c.loop-plane.plane-index _ c.loop-plane-test.true) (omega arith)
    (c.clip_to_plane-in-loop-plane.ensures.if_snapped c.loop-plane.invariant.snapped)

pub returns-clause-clipped : goal.returns-clause-clipped
returns-clause-clipped c = cut_end _ _ _ _ _ c.loop-plane.invariant (drop_of_length-le faces {i = c.loop-plane.plane-index + 1} (omega arith))

pub returns-clause-at_most : goal.returns-clause-at_most
returns-clause-at_most c =
    let t = c.args.facet in
    omega (arith, few t.a t.b t.c c.args.clip.extents c.args.clip.eps, ap length (returns-clause-clipped c))
