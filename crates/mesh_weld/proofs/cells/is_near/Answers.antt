use Rattle.mesh_weld.specs.Cells.{near}
use Rattle.geometry.specs.Points.{norm2}
use Rattle.geometry.specs.declared.point.Point.{Point}
use lib.Ieee.{Float, binary64, le, mul}
use mathlib.Core.Path.{ap, ◌∙◌}
use Rattle.mesh_weld.proofs.cells.is_near.Goals as goal

pub returns : goal.returns
unfolding near
returns c =
    ap (λ (d : Float). le d (mul binary64 c.args.eps c.args.eps))
    (c.norm2.ensures ∙ ap (λ (d : Point). norm2 d) c.sub.ensures)
