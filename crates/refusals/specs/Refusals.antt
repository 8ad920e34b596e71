-- Refusals, replies and outputs (document 01, "Refusals, in the order tested"). Assumes nothing.
--   documented        "this paper's number and values for each of its cases"
--   documented_reply   the same of an operation's reply: 0 and the lengths written, or the refusal's
--   Test              a row of the table: when it refuses, and as what
--   first_refusal      the first test that holds        unless    tests that are passed over
--   Passes            no test of a row holds
--   reply_to           the reply as numbers: the first refusal's, else 0 and the values of what was done
--   settle            what an output ends as           Zeroed    what the work room does
use Rattle.std.specs.Prelude.{Result, Ok, Err}
use Rattle.std.specs.Prelude.{ℕ, zero, suc, ◌≡◌, Bool, true, false, cond, List, [], ◌∷◌, length, replicate}
use Rattle.words.specs.Overlay.{overlay}
use Rattle.refusals.specs.declared.refusal.Refusal.{Refusal}
use Rattle.refusals.specs.declared.refusal.Refusal.TheVariants.{Ragged, TooMany, BadIndex, BadNumber, BadBox, GridTooFine, NoWorkRoom, KeyRange, OpenEdge, BadCap, MissingEdge, NoRoom}

unfoldable pub documented : Refusal → List ℕ
documented Ragged = 1 ∷ []
documented TooMany = 2 ∷ []
documented BadIndex = 3 ∷ []
documented BadNumber = 4 ∷ []
documented BadBox = 5 ∷ []
documented GridTooFine = 6 ∷ []
documented (NoWorkRoom need) = 7 ∷ need ∷ []
documented KeyRange = 8 ∷ []
documented (OpenEdge a b) = 9 ∷ a ∷ b ∷ []
documented (BadCap place) = 10 ∷ place ∷ []
documented (MissingEdge place) = 11 ∷ place ∷ []
documented (NoRoom need) = 12 ∷ need ∷ []

-- "counts returned are the lengths written"
unfoldable pub documented_reply : Result (List ℕ) Refusal → List ℕ
documented_reply (Ok lengths) = 0 ∷ lengths
documented_reply (Err r) = documented r

abbrev pub Test : Type 0
Test = Bool × Refusal

-- "Exactly when", "in the order tested"
unfoldable pub first_refusal : List Test → Result (Unit {0}) Refusal
first_refusal [] = Ok tt
first_refusal (t ∷ ts) = let r = first_refusal ts in cond t.0 (Err t.1) r

-- no test of the row holds
abbrev pub Passes : List Test → Type 0
Passes tests = first_refusal tests ≡ Ok tt

abbrev pub numbered : Result (Unit {0}) Refusal → List ℕ → List ℕ
numbered (Ok x) done = 0 ∷ done
numbered (Err r) done = documented r

abbrev pub reply_to : List Test → List ℕ → List ℕ
reply_to tests done = numbered (first_refusal tests) done

-- "The tests passed over are not made"
abbrev pub unless : Bool → List Test → List Test
unless b ts = cond b [] ts

-- "A refusal changes no output"; "On success an output holds the result at its front and its old contents behind"
unfoldable pub settle : {A : Type 0} → List ℕ → List A → List A → List A
settle [] result old = old
settle (zero ∷ done) result old = overlay result old
settle (suc n ∷ values) result old = old

-- "Work room ends zero, refused or done"
pub record Zeroed (old new : List ℕ) : Type 0 where
  pub ends : new ≡ replicate (length old) 0
