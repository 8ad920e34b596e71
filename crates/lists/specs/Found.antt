-- What a search through a list answers. Assumes nothing.
--   found    the place of the first that passes, or none, as the code answers it
use Rattle.std.specs.Prelude.{ℕ, Bool, cond, List, eqb, length, Option, Some, None}
use Rattle.lists.specs.Lists.{place}

unfoldable pub found : {A : Type 0} → (A → Bool) → List A → Option ℕ
found p l = let k = place p l in cond (eqb k (length l)) None (Some k)
