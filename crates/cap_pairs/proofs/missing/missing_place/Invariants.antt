use Rattle.cap_pairs.proofs.Rows.{RowWalk}
use Rattle.cap_pairs.proofs.missing.missing_place.Given as goal

-- `missing_place` meets its contract: none of the first i open edges is missing, and `place` is how many entries they have. Assumes nothing.
abbrev pub invariant-loop-i : goal.invariant-loop-i
invariant-loop-i l = RowWalk l.fn.caps.n l.fn.caps.nf l.fn.caps.k l.fn.caps.list.now l.w l.place l.i
