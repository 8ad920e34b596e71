use Rattle.hypot.proofs.Sums.{root_of}
use Rattle.hypot.proofs.Squares.root.Goals as goal

pub returns : goal.returns
returns c = root_of c.sum-t.ensures c.bring_down-upper.ensures c.bring_down-lower.ensures
