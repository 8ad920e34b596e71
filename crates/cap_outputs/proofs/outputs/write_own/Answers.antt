use Rattle.cap_outputs.proofs.Blocks.{own_positive, own_negative}
use Rattle.words.proofs.Overlay.{sets_overlay}
use lib.Seq.{sets}
use mathlib.Core.Path.{sym, ap, ◌∙◌}
use Rattle.cap_outputs.proofs.outputs.write_own.Goals as goal

pub returns-then-positive : goal.returns-then-positive
returns-then-positive c =
    let a = c.args in
    c.copy_front.ensures ∙ sym (sets_overlay a.facets.now a.out.now c.requires.1) ∙ ap
    (sets a.out.now 0) (own_positive a.facets.now c.requires.0 a.positive
    c.if-positive.true)

pub returns-else-positive : goal.returns-else-positive
returns-else-positive c =
    let a = c.args in
    c.write_reversed.ensures ∙ ap (sets a.out.now 0)
    (own_negative a.facets.now c.requires.0 a.positive c.if-positive.false)
