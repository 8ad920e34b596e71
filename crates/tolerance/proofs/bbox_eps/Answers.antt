use Rattle.tolerance.proofs.Admitted.{refused, tolerated}
use Rattle.tolerance.proofs.Replies.{sides_rootable, reply_bad_number, reply_bad_box}
use Rattle.tolerance.specs.Tolerance.{tolerance}
use Rattle.geometry.specs.Points.{norm, norm2}
use Rattle.geometry.specs.declared.point.Point.{Point}
use Rattle.root.specs.Root.{rootable}
use Rattle.root.specs.Doubles.{◌⊗◌, 1e-10, one_f, larger}
use lib.Ieee.{Float}
use lib.Dec.{T}
use mathlib.Core.Path.{sym, ap, ◌∙◌, subst⁻¹}
use Rattle.tolerance.proofs.bbox_eps.Goals as goal

pub returns-then-not-box_in_range : goal.returns-then-not-box_in_range
returns-then-not-box_in_range c = refused _ _ (reply_bad_number _ (sym c.box_in_range.ensures ∙ c.if-not-box_in_range.true))

pub returns-then-is_bad_box : goal.returns-then-is_bad_box
returns-then-is_bad_box c =
    refused _ _ (reply_bad_box _ (sym c.box_in_range.ensures ∙ c.if-not-box_in_range.false)
    (sym c.is_bad_box.ensures ∙ c.if-is_bad_box.true))

pub norm-diag-requires : goal.norm-diag-requires
norm-diag-requires c =
    subst⁻¹ (λ (q : Point). T (rootable (norm2 q))) c.sides.ensures
    (sides_rootable _ (sym c.box_in_range.ensures ∙ c.if-not-box_in_range.false))

pub returns : goal.returns
unfolding tolerance
returns c =
    tolerated _ _ (ap (λ (d : Float). 1e-10 ⊗ d) (c.max.ensures ∙ ap (λ (d : Float). larger d one_f) (c.norm-diag.ensures ∙ ap norm c.sides.ensures)))
    (sym c.box_in_range.ensures ∙ c.if-not-box_in_range.false)
    (sym c.is_bad_box.ensures ∙ c.if-is_bad_box.false)
