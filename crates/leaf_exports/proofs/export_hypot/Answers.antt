use mathlib.Core.Path.{sym, ap, ap₂, ◌∙◌}
use mathlib.Core.Bool.{Bool, ◌&&◌}
use Rattle.leaf_exports.specs.Exports.{in_reach}
use Rattle.leaf_exports.proofs.Tests.{reaches, length_found, length_other}
use Rattle.leaf_exports.proofs.export_hypot.Goals as goal

pub returns-then-in_reach-2 : goal.returns-then-in_reach-2
returns-then-in_reach-2 c =
    let a = c in
    length_found a.args.x a.args.y (sym a.in_reach.ensures ∙ c.if-in_reach.true)
    (sym c.in_reach-then-in_reach.ensures ∙ c.if-in_reach-2.true) c.hypot.ensures

pub returns-else-in_reach-2 : goal.returns-else-in_reach-2
returns-else-in_reach-2 c =
    let a = c in
    length_other a.args.x a.args.y
    (ap₂ ◌&&◌ (sym a.in_reach.ensures ∙ c.if-in_reach.true) (sym c.in_reach-then-in_reach.ensures ∙ c.if-in_reach-2.false))

pub returns-else-in_reach : goal.returns-else-in_reach
returns-else-in_reach c =
    let a = c in
    length_other a.args.x a.args.y (ap (λ (b : Bool). b && in_reach a.args.y) (sym c.in_reach.ensures ∙ c.if-in_reach.false))

pub hypot-requires : goal.hypot-requires
hypot-requires c =
    let a = c in
    (reaches a.args.x (sym a.in_reach.ensures ∙ c.if-in_reach.true), reaches a.args.y (sym c.in_reach-then-in_reach.ensures ∙ c.if-in_reach-2.true))
