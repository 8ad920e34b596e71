use mathlib.Core.Path.{◌∙◌}
use Rattle.box_faces.specs.Segments.{on_segment_by}
use Rattle.candidate_grids.specs.Steps.{hit_at}
use Rattle.candidate_grids.proofs.grids.is_on_segment.Goals as goal

pub returns : goal.returns
unfolding hit_at
returns c =
    let e = c.read-s.ensures in
    c.point_on_segment2.ensures ∙ (λ i. on_segment_by (e.2 i) c.args.tolerance c.args.p (e.0 i) (e.1 i))
