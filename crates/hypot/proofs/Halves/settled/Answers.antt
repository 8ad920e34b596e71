use Rattle.hypot.proofs.Rounding.{placed_half}
use Rattle.hypot.proofs.Halves.settled.Goals as goal

pub returns : goal.returns
returns c = placed_half c.placed-2.ensures
