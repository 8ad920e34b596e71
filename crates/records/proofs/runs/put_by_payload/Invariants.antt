use Rattle.records.specs.Runs.{PayloadsPut}
use Rattle.records.proofs.runs.put_by_payload.Given as goal

-- `put_by_payload` meets its contract: the word stands by the payload of each record before j. Assumes nothing.
abbrev pub invariant-loop-j : goal.invariant-loop-j
invariant-loop-j l = PayloadsPut l.initial.m l.m l.at l.to l.i l.j l.x
