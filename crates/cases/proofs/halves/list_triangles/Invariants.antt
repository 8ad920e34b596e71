use Prim.Native.Nat.{ℕ, ◌<◌}
use mathlib.Core.Path.{◌≡◌}
use lib.ListN.{length, get_or}
use Rattle.cases.specs.Halves.{cap_word}
use Rattle.cases.proofs.halves.list_triangles.Given as goal

abbrev pub invariant-loop-i : goal.invariant-loop-i
invariant-loop-i l = (length l.list ≡ 80) × ((k : ℕ) → k < l.i → get_or l.list k 0 ≡ cap_word l.candidates k)
