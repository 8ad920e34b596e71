use Rattle.root.proofs.Digits.{down_start, down_step}
use Rattle.root.proofs.Drawing.bring_down.Goals as goal

pub loop-left-init : goal.loop-left-init
loop-left-init c = down_start c.args.self.root c.args.self.rest c.requires.1

pub loop-left-preserved : goal.loop-left-preserved
loop-left-preserved c = down_step c.loop-left.invariant c.loop-left-test.true c.draw-drawing.ensures
