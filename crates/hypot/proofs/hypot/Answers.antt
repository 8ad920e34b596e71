use Rattle.hypot.proofs.Length.{plain_length}
use Rattle.hypot.proofs.Computed.{hypot_meets}
use Rattle.hypot.proofs.hypot.Goals as goal

pub float_from_bits-result : goal.float_from_bits-result
float_from_bits-result c = plain_length c.hypot_bits.ensures

pub returns : goal.returns
returns c = hypot_meets c.args.x c.args.y c.well_formed.0.1 c.well_formed.1.0.1 c.requires.0 c.requires.1 (rw (c.max.ensures, c.min.ensures) at c.hypot_bits.ensures)
