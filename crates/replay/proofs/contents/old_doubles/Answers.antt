use native.Mathlib.Omega.{arith}
use lib.Ieee.{nan}
use Rattle.replay.specs.Contents.{old_double}
use Rattle.replay.proofs.Filling.{table_is}
use Rattle.replay.proofs.contents.old_doubles.Goals as goal

pub returns : goal.returns
returns c = table_is old_double c.loop-x.output nan _ (omega arith) (λ k h. c.loop-x.invariant.1 k nan (omega arith))
