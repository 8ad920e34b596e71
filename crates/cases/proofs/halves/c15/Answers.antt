use Prim.Native.Nat.{ℕ}
use mathlib.Core.List.{List, [], ◌∷◌}
use Rattle.cases.specs.Comparing.{has_lengths}
use Rattle.cases.specs.Halves.{closes_both}
use Rattle.cases.proofs.Lists.{listed_done}
use Rattle.cases.proofs.halves.c15.Goals as goal

pub returns-then-has_lengths : goal.returns-then-has_lengths
returns-then-has_lengths c =
    listed_done 8192 60 c.asked_of_cube.ensures c.list_candidates-reply.ensures (λ (r : List ℕ). has_lengths r (60 ∷ [])) closes_both
    c.has_lengths.ensures c.if-has_lengths.true c.closes_both.ensures
