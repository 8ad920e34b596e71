use Rattle.replay.proofs.Tallying.{Walking}
use Rattle.replay.proofs.layout.are_records.Given as goal

abbrev pub invariant-loop : goal.invariant-loop
invariant-loop l = Walking l.records l.count l.left l.counter
