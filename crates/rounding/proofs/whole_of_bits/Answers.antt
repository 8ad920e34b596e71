use Prim.Native.Nat.{◌/◌, ◌^◌}
use native.Mathlib.Omega.{arith}
use Rattle.rounding.proofs.Whole.{none, weight_small, some, all}
use Rattle.rounding.proofs.whole_of_bits.Goals as goal

pub overflow_add-result : goal.overflow_add-result
overflow_add-result c = omega (arith, weight_small (c.args.b / 2 ^ 52) c.if-e-lt1022.false)

pub returns-then-e-lt1022 : goal.returns-then-e-lt1022
returns-then-e-lt1022 c = none c.args.b c.if-e-lt1022.true

pub returns-then-e-lt1075 : goal.returns-then-e-lt1075
returns-then-e-lt1075 c = some c.args.b c.if-e-lt1022.false c.if-e-lt1075.true

pub returns-else-e-lt1075 : goal.returns-else-e-lt1075
returns-else-e-lt1075 c = all c.args.b c.requires c.if-e-lt1075.false
