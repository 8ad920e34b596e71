use mathlib.Core.Path.{sym, ap, ◌∙◌}
use mathlib.Core.Bool.{Bool, ◌&&◌}
use lib.Ieee.{le, nan_bits}
use Rattle.root.specs.Doubles.{bits}
use Rattle.leaf_exports.specs.Exports.{in_reach}
use Rattle.leaf_exports.proofs.in_reach.Goals as goal

pub float_from_bits-bound : goal.float_from_bits-bound
unfolding nan_bits
float_from_bits-bound c = tt

pub returns-then-bound-x : goal.returns-then-bound-x
unfolding in_reach
returns-then-bound-x c = sym (ap (λ (b : Bool). b && le c.args.x (bits 0x7fc0_0000_0000_0000)) c.if-bound-x.true)

pub returns-else-bound-x : goal.returns-else-bound-x
unfolding in_reach
returns-else-bound-x c = c.if-bound-x.false ∙ sym (ap (λ (b : Bool). b && le c.args.x (bits 0x7fc0_0000_0000_0000)) c.if-bound-x.false)
