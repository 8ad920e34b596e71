-- Document 02, E2: "Where both ceilings admit a mesh the results are equal". Two calls with the same mesh, box, eps, resolution, work room and outputs, under ceilings that both
-- admit the mesh, end alike: reply, outputs and work room. Assumes nothing.
--   candidates_under_both
use Prim.Native.Nat.{ℕ}
use mathlib.Core.Path.{◌≡◌, sym, ap, ◌∙◌}
use mathlib.Core.List.{List}
use lib.ListN.{length}
use lib.Ieee.{Float}
use Rattle.refusals.specs.Refusals.{Test, settle}
use Rattle.refusals.specs.Answers.{reply_with, Answered}
use Rattle.input_tests.specs.Front.{limits, Admits}
use Rattle.candidate_pool.specs.OpenEdges.{open_edge_words}
use Rattle.candidate_constraints.specs.Constraints.{constraint_words}
use Rattle.candidate_surface.specs.declared.asked.Asked.{Asked}
use Rattle.candidate_surface.specs.Candidates.{Candidates}
use Rattle.candidate_outputs.specs.Outputs.{candidate_words, list_words, candidate_outputs}
use Rattle.closure_tests.proofs.UnderBoth.{same_tests}
use Rattle.boundary_closure.specs.Operation.{candidates_tests, candidates_result, WordsAlike}

module _ (vs : List Float) (fs : List ℕ) (q : Asked) (a b : ℕ) (ha : Admits a vs fs) (hb : Admits b vs fs) where
  abbrev result : Candidates
  result = candidates_result vs fs q

  pub candidates_under_both : (w w₁ w₂ r₁ r₂ c c₁ c₂ l l₁ l₂ k k₁ k₂ e e₁ e₂ : List ℕ)
      → Answered (candidates_tests vs fs q (limits a (length w))) (candidate_outputs result c c₁ l l₁ k k₁ e e₁) w w₁ r₁
      → Answered (candidates_tests vs fs q (limits b (length w))) (candidate_outputs result c c₂ l l₂ k k₂ e e₂) w w₂ r₂
      → WordsAlike r₁ r₂ w₁ w₂ c₁ c₂ l₁ l₂ k₁ k₂ e₁ e₂
  candidates_under_both w w₁ w₂ r₁ r₂ c c₁ c₂ l l₁ l₂ k k₁ k₂ e e₁ e₂ x y =
      let r : r₁ ≡ r₂ = x.answer.replied
      ∙ ap (λ (ts : List Test). reply_with ts (candidate_outputs result c c l l k k e e)) (same_tests vs fs q a b ha hb 0 (length w) _) ∙ sym y.answer.replied in
      record {
        reply = r;
        candidates = x.answer.settled.0 ∙ ap (λ (n : List ℕ). settle n (candidate_words result.all) c) r ∙ sym y.answer.settled.0;
        face_lists = x.answer.settled.1.0 ∙ ap (λ (n : List ℕ). settle n (list_words result.lists) l) r ∙ sym y.answer.settled.1.0;
        constraints = x.answer.settled.1.1.0 ∙ ap (λ (n : List ℕ). settle n (constraint_words result.constraints) k) r ∙ sym y.answer.settled.1.1.0;
        open_edges = x.answer.settled.1.1.1.0 ∙ ap (λ (n : List ℕ). settle n (open_edge_words result.edges) e) r ∙ sym y.answer.settled.1.1.1.0;
        work = x.work.ends ∙ sym y.work.ends;
      }
