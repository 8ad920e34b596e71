use Rattle.words.proofs.Overlay.{Writing}
use Rattle.words.proofs.copying.copy_front.Given as goal

-- `copy_front` meets its contract: the elements before i are written. Assumes nothing.
abbrev pub invariant-loop-i : goal.invariant-loop-i
invariant-loop-i g l = Writing l.from l.initial.to l.to l.i
