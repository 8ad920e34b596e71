use Rattle.candidate_constraints.proofs.Once.{Keeping}
use Prim.Native.Nat.{◌-◌}
use mathlib.Core.Path.{◌≡◌}
use Rattle.candidate_pool.specs.Offsets.{pairs_at, constraints_at}
use Rattle.candidate_constraints.proofs.distinct.keep_distinct.Given as goal

-- `keep_distinct` meets its contract: of the runs before i the keys are listed. Assumes nothing.
abbrev pub invariant-loop-i : goal.invariant-loop-i
invariant-loop-i l = Keeping l.fn.room.n l.fn.room.nf l.c l.total l.initial.w l.w l.t l.i × (l.pairs ≡ pairs_at l.fn.room.n) × (l.at ≡ constraints_at l.fn.room.n l.fn.room.nf)

abbrev pub decreases-loop-i : goal.decreases-loop-i
decreases-loop-i l = l.c - l.i
