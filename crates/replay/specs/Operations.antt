-- The operations' numbers in a stored request (README.md of this crate), and their names. Assumes nothing.
--   number_of   the number of an operation
--   name_of     its name, as it is printed
--   Names       what a number is read as: the operation that has it, and nothing where none has
use lib.Chars.{codes}
use Rattle.std.specs.Prelude.{List, ℕ, ◌≡◌, ◌≢◌, Result, MatchResult}
use Rattle.replay.specs.declared.operation.Operation.{Operation}
use Rattle.replay.specs.declared.operation.Operation.TheVariants.{Tolerance, Clip, Clean, Candidates, Caps, BoundaryComponents}

abbrev pub number_of : Operation → ℕ
number_of Tolerance = 1
number_of Clip = 2
number_of Clean = 3
number_of Candidates = 4
number_of Caps = 5
number_of BoundaryComponents = 6

abbrev pub name_of : Operation → List ℕ
name_of Tolerance = codes "tolerance"
name_of Clip = codes "clip"
name_of Clean = codes "clean"
name_of Candidates = codes "candidates"
name_of Caps = codes "caps"
name_of BoundaryComponents = codes "boundary_components"

abbrev pub Names : {E : Type 0} → ℕ → Result Operation E → Type 0
Names number r = MatchResult r (λ o. number_of o ≡ number) (λ _. (o : Operation) → number_of o ≢ number)
