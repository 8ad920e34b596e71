use Rattle.edges.proofs.Running.{Listing}
use Rattle.edges.proofs.table.side_records.Given as goal

-- `side_records` meets its contract: after some turns the records of as many sides are written. Assumes nothing.
abbrev pub invariant-loop-side : goal.invariant-loop-side
invariant-loop-side l = Listing l.facets l.initial.w l.w l.side
