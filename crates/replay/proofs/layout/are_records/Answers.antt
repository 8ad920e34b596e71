use native.Mathlib.Omega.{arith}
use Rattle.replay.proofs.Tallying.{walking_more, walking_stuck, walking_end}
use Rattle.replay.proofs.layout.are_records.Goals as goal

pub returns-in-None : goal.returns-in-None
returns-in-None c = walking_stuck _ _ _ _ c.loop.invariant c.loop-test.true c.in-None.ensures

pub loop-preserved : goal.loop-preserved
loop-preserved c = walking_more _ _ _ _ c.loop.invariant _ _ c.in-Some.ensures

pub returns : goal.returns
returns c = walking_end _ _ _ _ c.loop.invariant _ (omega arith) c.is_empty.ensures
