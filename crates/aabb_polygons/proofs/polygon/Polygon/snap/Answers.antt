use mathlib.Core.Path.{ap, ◌∙◌}
use lib.ListN.{take, set}
use Rattle.std.proofs.Common.{arith}
use Rattle.std.proofs.lemmas.List.{get_or_default}
use Rattle.std.proofs.lemmas.List.Edits.{map_over_more}
use Rattle.aabb_planes.specs.Planes.{snapped}
use Rattle.aabb_polygons.proofs.polygon.Polygon.snap.Goals as goal

pub loop-p-preserved : goal.loop-p-preserved
loop-p-preserved c =
    let at = c.loop-p.p-index in
    let items = c.loop-p.p-items in
    ap (set items at) c.snap_near_bbox.ensures
    ∙ map_over_more (snapped c.args.clip.extents c.args.clip.eps) (take c.self.inside.count c.self.inside.corners) items at _ c.loop-p-test.true c.loop-p.invariant
    (get_or_default items at _ _ (omega arith))
