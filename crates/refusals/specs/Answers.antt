-- An operation's answer (document 01, "Refusals"): its reply, and what its outputs and the work room end as. One form for every operation. Assumes nothing.
--   room_tests        12, of the lengths of the results and of the outputs
--   Output, output   the result that an output is for, what stood there before the call and what stands there after it; elements of any type
--   mesh_outputs      the two outputs of an operation that writes a mesh
--   result_lengths, output_lengths   the lengths of the results, and of the outputs as they are lent
--   AllSettled       each output ended as `settle` says
--   reply_in, reply_with   the reply as numbers to a row of tests, with 12 behind it
--   Answer           that reply was given, and the outputs ended as it says
--   Answered         the same of a whole operation: the work room ended zero too
--   Called           the same of a function that C calls, whose reply is reported as a number and four words
--   MeshesAlike      two calls that write a mesh ended alike: reply, outputs and work room
use Rattle.std.specs.Prelude.{ℕ, ◌≡◌, List, [], ◌∷◌, ◌++◌, map, ltb, length, Float}
use Rattle.geometry.specs.Triangles.{flat}
use Rattle.geometry.specs.Meshes.{Mesh, coordinates}
use Rattle.refusals.specs.declared.refusal.Refusal.TheVariants.{NoRoom}
use Rattle.refusals.specs.Refusals.{Test, reply_to, settle, Zeroed}
use Rattle.refusals.specs.Reports.{Reported}

-- 12: "an output is shorter than the result; the first short one counts": results of these lengths, outputs of those
unfoldable pub room_tests : List ℕ → List ℕ → List Test
room_tests [] outs = []
room_tests (n ∷ ns) [] = (ltb 0 n, NoRoom n) ∷ room_tests ns []
room_tests (n ∷ ns) (o ∷ outs) = (ltb o n, NoRoom n) ∷ room_tests ns outs

pub record Output : Type 1 where
  pub Element : Type 0
  pub result : List Element
  pub before : List Element
  pub after : List Element

abbrev pub output : {A : Type 0} → List A → List A → List A → Output
output {A = A} result before after = record { Element = A; result = result; before = before; after = after }

-- "vertices, facets", from v and f to v' and f'
abbrev pub mesh_outputs : Mesh → List Float → List Float → List ℕ → List ℕ → List Output
mesh_outputs m v v' f f' = output (coordinates m.points) v v' ∷ output (flat m.facets) f f' ∷ []

-- "counts returned are the lengths written"
abbrev pub result_lengths : List Output → List ℕ
result_lengths outs = map (λ o. length o.result) outs

abbrev pub output_lengths : List Output → List ℕ
output_lengths outs = map (λ o. length o.before) outs

abbrev pub AllSettled : List ℕ → List Output → Type 0
AllSettled reply [] = Unit {0}
AllSettled reply (o ∷ outs) = (o.after ≡ settle reply o.result o.before) × AllSettled reply outs

-- for results and outputs of these lengths
abbrev pub reply_in : List Test → List ℕ → List ℕ → List ℕ
reply_in tests results outs = reply_to (tests ++ room_tests results outs) results

abbrev pub reply_with : List Test → List Output → List ℕ
reply_with tests outs = reply_in tests (result_lengths outs) (output_lengths outs)

pub record Answer (tests : List Test) (outs : List Output) (reply : List ℕ) : Type 0 where
  pub replied : reply ≡ reply_with tests outs
  pub settled : AllSettled reply outs

-- from work room w to w'
pub record Answered (tests : List Test) (outs : List Output) (w w' reply : List ℕ) : Type 0 where
  pub answer : Answer tests outs reply
  pub work : Zeroed w w'

pub record Called (tests : List Test) (outs : List Output) (w w' : List ℕ) (number : ℕ) (values : List ℕ) : Type 0 where
  pub reported : Reported (reply_with tests outs) number values
  pub settled : AllSettled (reply_with tests outs) outs
  pub work : Zeroed w w'

pub record MeshesAlike (reply₁ reply₂ w₁ w₂ : List ℕ) (v₁ v₂ : List Float) (f₁ f₂ : List ℕ) : Type 0 where
  pub reply : reply₁ ≡ reply₂
  pub vertices : v₁ ≡ v₂
  pub facets : f₁ ≡ f₂
  pub work : w₁ ≡ w₂
