use Prim.Native.Nat.{◌-◌}
use Rattle.cap_pairs.proofs.Recording.{Numbering}
use Rattle.cap_pairs.proofs.pairs.number_records.Given as goal

-- `number_records` meets its contract: the runs before i have their number. Assumes nothing.
abbrev pub invariant-loop-i : goal.invariant-loop-i
invariant-loop-i l = Numbering l.initial.w l.records l.numbers l.p l.w l.i

abbrev pub decreases-loop-i : goal.decreases-loop-i
decreases-loop-i l = l.p - l.i
