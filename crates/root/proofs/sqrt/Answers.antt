use Rattle.root.proofs.RootAt.{plain_root}
use Rattle.root.proofs.Computed.{sqrt_zero, sqrt_bits}
use Rattle.root.proofs.sqrt.Goals as goal

pub returns-then-x : goal.returns-then-x
returns-then-x c = sqrt_zero c.args.x c.well_formed.0.1 c.requires c.if-x.true

pub float_from_bits-result : goal.float_from_bits-result
float_from_bits-result c = plain_root c.root_of_bits.ensures

pub returns : goal.returns
returns c = sqrt_bits c.args.x c.well_formed.0.1 c.requires c.if-x.false c.root_of_bits.ensures
