use native.Mathlib.Omega.{arith}
use Rattle.replay.proofs.Loading.{loading_turn}
use Rattle.replay.proofs.file.load.Goals as goal

pub loop-i-preserved : goal.loop-i-preserved
loop-i-preserved c =
    loading_turn c.args.file.now c.loop-i.words _ _ c.min-n.result c.loop-i.i c.from_le_bytes.result _ c.as_chunks.ensures.front (omega arith) c.loop-i.invariant
    c.loop-i-test.true c.from_le_bytes.ensures
