use Prim.Native.Nat.{ℕ, ◌+◌, ◌*◌}
use lib.ListN.{get_or}
use Rattle.boundary_groups.specs.Staged.{pair_at, PairsPut}
use Rattle.boundary_groups.proofs.put_grouped.Given as goal

-- `put_grouped`. The loop's invariant: the ends of the edges of the records before j are put.
abbrev pub invariant-loop-j : goal.invariant-loop-j
invariant-loop-j l = PairsPut (λ (j : ℕ). pair_at l.ends (get_or l.records (2 * j + 1) 0)) l.edges l.j
