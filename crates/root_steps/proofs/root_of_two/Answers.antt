use lib.Ieee.{of_bits}
use Rattle.root.proofs.Patterns.{no_nan}
use Rattle.root_steps.proofs.root_of_two.Goals as goal

pub sqrt-requires : goal.sqrt-requires
unfolding of_bits
sqrt-requires c = tt

pub float_to_bits-result : goal.float_to_bits-result
float_to_bits-result c = no_nan c.sqrt.result c.sqrt.ensures.nearest.is_finite
