-- The operation candidates (document 01, the table of refusals, module 5 and "Agreement"; document 02, E2): its tests in the table's order, and its result. With `Answered` of crate
-- refusals and `candidate_outputs` of crate candidate_outputs that is all it promises: the reply, and what it leaves in outputs and work room. Assumes nothing.
--   candidates_tests        1 to 9                        candidates_result   what is written
--   WordsAlike             two calls of it ended alike: reply, outputs and work room
use Rattle.std.specs.Prelude.{ℕ, ◌≡◌, cond, ◌||◌, List, ◌++◌, Float}
use Rattle.geometry.specs.Meshes.{mesh_of}
use Rattle.refusals.specs.Refusals.{Test, unless}
use Rattle.input_tests.specs.Front.{Limits}
use Rattle.candidate_surface.specs.declared.asked.Asked.{Asked}
use Rattle.candidate_surface.specs.Asked.{setting}
use Rattle.candidate_surface.specs.Candidates.{Candidates, no_candidates, candidates, no_facet, no_two_ends}
use Rattle.closure_tests.specs.Tests.{closure_tests, edge_tests}

module _ (vs : List Float) (fs : List ℕ) (q : Asked) where
  abbrev pub candidates_tests : Limits → List Test
  candidates_tests l = closure_tests vs fs q 0 l ++ unless (no_facet fs) (edge_tests vs fs q)

  -- "succeeds at the same two points with all four lengths 0"
  unfoldable pub candidates_result : Candidates
  candidates_result = cond (no_facet fs || no_two_ends vs fs q) no_candidates (candidates (setting q) (mesh_of vs fs))

pub record WordsAlike (reply₁ reply₂ w₁ w₂ c₁ c₂ l₁ l₂ k₁ k₂ e₁ e₂ : List ℕ) : Type 0 where
  pub reply : reply₁ ≡ reply₂
  pub candidates : c₁ ≡ c₂
  pub face_lists : l₁ ≡ l₂
  pub constraints : k₁ ≡ k₂
  pub open_edges : e₁ ≡ e₂
  pub work : w₁ ≡ w₂
