use Prim.Native.Nat.{ℕ}
use lib.ListN.{get_or}
use Rattle.boundary_groups.specs.Staged.{PairsPut}
use Rattle.boundary_groups.proofs.number_records.Given as goal

-- `number_records`. The loop's invariant: the records before i are stored.
abbrev pub invariant-loop-i : goal.invariant-loop-i
invariant-loop-i l = PairsPut (λ (i : ℕ). (get_or l.numbers i 0, i)) l.records l.i
