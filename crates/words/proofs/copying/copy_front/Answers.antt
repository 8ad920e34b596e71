use Rattle.std.proofs.Common.{arith}
use Rattle.words.proofs.Overlay.{writing_turn_at}
use Rattle.words.proofs.copying.copy_front.Goals as goal

pub loop-i-preserved : goal.loop-i-preserved
loop-i-preserved g c =
    writing_turn_at c.args.from.now c.args.to.now c.loop-i.to c.loop-i.i _ _ _ c.loop-i.invariant (omega arith) (omega arith) c.index-from-i.is
