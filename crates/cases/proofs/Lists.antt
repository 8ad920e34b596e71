-- Laws of what candidates answers in the cases. Assumes nothing.
--   listed_reply, listed_words   reply and words of the listing, by what is asked and the work room lent
--   listed_done                  a test of the reply, and then one of the words, are the same tests of their definitions
use Prim.Native.Nat.{ℕ}
use mathlib.Core.Path.{◌≡◌, sym, ap, ◌∙◌}
use mathlib.Core.Bool.{Bool, true, ◌&&◌}
use mathlib.Core.List.{List}
use lib.ListN.{length, replicate, length-replicate}
use lib.Ieee.{Float}
use Rattle.refusals.specs.Refusals.{settle}
use Rattle.candidate_outputs.specs.Outputs.{candidate_words}
use Rattle.candidate_surface.specs.declared.asked.Asked.{Asked}
use Rattle.boundary_closure.specs.Operation.{candidates_result}
use Rattle.cases.specs.Closing.{list_reply, Listing, candidates_in}

module _ (lent n : ℕ) {vs : List Float} {fs : List ℕ} {q asked : Asked} {reply c' : List ℕ} (e : q ≡ asked)
    (h : Listing vs fs q (length (replicate {A = ℕ} lent 0)) reply (replicate n 0) c') where
  same : list_reply vs fs q (length (replicate {A = ℕ} lent 0)) (length (replicate {A = ℕ} n 0)) ≡ list_reply vs fs asked lent n
  same = (λ t. list_reply vs fs (e t) (length-replicate {A = ℕ} lent 0 t) (length-replicate {A = ℕ} n 0 t))

  pub listed_reply : reply ≡ list_reply vs fs asked lent n
  listed_reply = h.replied ∙ same

  pub listed_words : c' ≡ candidates_in vs fs asked lent n
  unfolding candidates_in
  listed_words = h.candidates ∙ (λ t. settle (same t) (candidate_words (candidates_result vs fs (e t)).all) (replicate n 0))

  -- a test p of the reply, as the code has it, and then r, a test of the words
  pub listed_done : (p d : List ℕ → Bool) {a r : Bool} → a ≡ p reply → a ≡ true → r ≡ d c' → r ≡ (p (list_reply vs fs asked lent n) && d (candidates_in vs fs asked lent n))
  listed_done p d {a} {r} i t j =
      let first : p (list_reply vs fs asked lent n) ≡ true = ap p (sym listed_reply) ∙ sym i ∙ t in
      j ∙ ap d listed_words ∙ sym (ap (λ (b : Bool). b && d (candidates_in vs fs asked lent n)) first)
