use Rattle.hypot.proofs.Products.{summed}
use Rattle.hypot.proofs.Squares.sum.Goals as goal

pub returns : goal.returns
returns c = summed c.square-a.ensures c.square-b.ensures c.divided-c.ensures
