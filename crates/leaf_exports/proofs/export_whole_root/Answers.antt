use Rattle.root.proofs.Digits.{from_nothing}
use Rattle.leaf_exports.proofs.export_whole_root.Goals as goal

pub returns : goal.returns
returns c = (from_nothing c.bring_down-drawing.ensures).largest
