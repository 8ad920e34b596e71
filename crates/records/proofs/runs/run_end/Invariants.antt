use Rattle.records.proofs.ByRuns.{Same}
use Rattle.records.proofs.runs.run_end.Given as goal

-- `run_end` meets its contract: the records from i up to e have one key. Assumes nothing.
abbrev pub invariant-loop-e : goal.invariant-loop-e
invariant-loop-e l = Same l.m l.at l.n l.i l.e
