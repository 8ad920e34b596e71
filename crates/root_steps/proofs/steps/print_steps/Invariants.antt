use Rattle.root.proofs.Digits.{Down}
use Rattle.root_steps.proofs.steps.print_steps.Given as goal

abbrev pub invariant-loop-left : goal.invariant-loop-left
invariant-loop-left o l = Down l.initial.drawing.root l.initial.drawing.rest l.word l.pairs l.left l.drawing.root l.drawing.rest
