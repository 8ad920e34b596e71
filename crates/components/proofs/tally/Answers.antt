use native.Mathlib.Omega.{arith}
use lib.ListN.{get_or}
use Rattle.components.proofs.Counting.{counting_low}
use Rattle.components.proofs.tally.Goals as goal

pub overflow_add-sizes : goal.overflow_add-sizes
overflow_add-sizes c =
    let l = c.loop-number in
    let s = c.args in
    let a = c.requires.low l.number-index (omega arith) in
    let d = counting_low s.numbers.now s.sizes.now l.sizes l.number-index (omega arith) l.invariant (get_or s.numbers.now l.number-index 0) (omega arith) in
    omega arith
