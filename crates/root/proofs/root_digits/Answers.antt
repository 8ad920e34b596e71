use Rattle.root.proofs.Digits.{root_digits}
use Rattle.root.proofs.root_digits.Goals as goal

pub returns : goal.returns
returns c = root_digits c.requires.0 c.bring_down-upper.ensures c.bring_down-lower.ensures
