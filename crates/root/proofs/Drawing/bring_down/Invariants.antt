use Rattle.root.proofs.Digits.{Down}
use Rattle.root.proofs.Drawing.bring_down.Given as goal

abbrev pub invariant-loop-left : goal.invariant-loop-left
invariant-loop-left l = Down l.initial.drawing.root l.initial.drawing.rest l.word l.pairs l.left l.drawing.root l.drawing.rest
