use native.Mathlib.Omega.{arith}
use Rattle.root.proofs.Scaling.{few}
use Rattle.root.proofs.root_small.Goals as goal

pub overflow_sub-up : goal.overflow_sub-up
overflow_sub-up c = omega (arith, few c.args.t c.ilog2.result c.requires.1 c.ilog2.ensures.power_le c.ilog2.ensures.next_power_gt)
