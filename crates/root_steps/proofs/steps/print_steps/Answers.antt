use Rattle.root.proofs.Digits.{down_start, down_step}
use Rattle.root_steps.proofs.steps.print_steps.Goals as goal

pub loop-left-init : goal.loop-left-init
loop-left-init o c = down_start c.args.s.root c.args.s.rest c.requires.1

pub loop-left-preserved : goal.loop-left-preserved
loop-left-preserved o c = down_step c.loop-left.invariant c.loop-left-test.true c.draw-next.ensures
