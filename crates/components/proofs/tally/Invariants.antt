use Rattle.components.proofs.Counting.{Counting}
use Rattle.components.proofs.tally.Given as goal

-- `components::tally`. The loop's invariant: the numbers before this one are counted.
abbrev pub invariant-loop-number : goal.invariant-loop-number
invariant-loop-number l = Counting l.numbers l.initial.sizes l.sizes l.number-index
