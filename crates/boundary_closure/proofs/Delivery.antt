-- Laws of the order of the tests, and of the two points at which the operation succeeds with nothing. Assumes nothing.
--   no_ends, some_ends         a mesh with a facet, of which no open edge keeps two ends, or one does
--   refused_before, no_facet_lem, some_facet   the tests before 8 refused, or passed a mesh with no facet, or with one
use Prim.Native.Nat.{ℕ}
use mathlib.Core.Bool.{Bool, true, false, cond, ◌||◌}
use mathlib.Core.List.{List, [], ◌∷◌, ◌++◌}
use mathlib.Core.Path.{◌≡◌, refl, sym, ap, subst, ◌∙◌}
use lib.Ieee.{Float}
use Rattle.lists.proofs.Bools.{cond_true, cond_false, or_stop, or_next}
use Rattle.geometry.specs.Meshes.{mesh_of}
use Rattle.refusals.specs.declared.refusal.Refusal.{Refusal}
use Rattle.std.specs.Prelude.{Result, Ok, Err}
use Rattle.refusals.specs.Refusals.{documented_reply, Test, first_refusal, Passes, unless}
use Rattle.refusals.specs.Answers.{Answer}
use Rattle.refusals.proofs.Refusals.{none_left, row_passed, row_refused}
use Rattle.refusals.proofs.Answers.{refused, after, behind}
use Rattle.candidate_surface.specs.declared.asked.Asked.{Asked}
use Rattle.candidate_surface.specs.Asked.{setting}
use Rattle.candidate_surface.specs.Candidates.{Candidates, no_candidates, candidates, no_facet, no_two_ends}
use Rattle.closure_tests.specs.Tests.{edge_tests}
use Rattle.candidate_outputs.specs.Outputs.{candidate_outputs}
use Rattle.candidate_outputs.proofs.Delivery.{nothing}
use Rattle.boundary_closure.specs.Operation.{candidates_result}
use Rattle.boundary_closure.specs.Steps.{surface_result}

module _ (vs : List Float) (fs : List ℕ) (q : Asked) (c c' l l' k k' e e' : List ℕ) where
  abbrev all : Candidates
  all = candidates (setting q) (mesh_of vs fs)

  abbrev result : Candidates
  result = candidates_result vs fs q

  abbrev surface : Candidates
  surface = surface_result vs fs q

  abbrev edges : List Test
  edges = edge_tests vs fs q

  abbrev Told : List Test → Candidates → Result (List ℕ) Refusal → Type 0
  Told ts r x = Answer ts (candidate_outputs r c c' l l' k k' e e') (documented_reply x)

  -- an open edge keeps two ends
  pub some_ends : no_two_ends vs fs q ≡ false → (r : Candidates) → r ≡ all → (x : Result (List ℕ) Refusal) → Told [] r x → Told [] surface x
  some_ends h r g x = subst (λ (r : Candidates). Told [] r x) (g ∙ sym (cond_false (no_two_ends vs fs q) no_candidates all all h refl))

  pub some_facet : (front : List Test) → Passes front → no_facet fs ≡ false → (x : Result (List ℕ) Refusal) → Told edges surface x → Told (front ++ unless (no_facet fs) edges) result x
  unfolding candidates_result
  some_facet front h g x d =
      let same_result : result ≡ surface = ap (λ (b : Bool). cond b no_candidates all) (or_next (no_facet fs) (no_two_ends vs fs q) (no_two_ends vs fs q) g refl) in
      let same_tests : unless (no_facet fs) edges ≡ edges = cond_false (no_facet fs) [] edges edges g refl in
      let a = after front edges (candidate_outputs surface c c' l l' k k' e e') (documented_reply x) h d in
      let b = subst (λ (ts : List Test). Told (front ++ ts) surface x) (sym same_tests) a in
      subst (λ (r : Candidates). Told (front ++ unless (no_facet fs) edges) r x) (sym same_result) b

module _ (vs : List Float) (fs : List ℕ) (q : Asked) (c l k e : List ℕ) where
  abbrev inner : List Test
  inner = unless (no_facet fs) (edge_tests vs fs q)

  -- no open edge keeps two ends
  pub no_ends : no_two_ends vs fs q ≡ true → Answer [] (candidate_outputs (surface_result vs fs q) c c l l k k e e) (documented_reply (Ok (0 ∷ 0 ∷ 0 ∷ 0 ∷ [])))
  no_ends h =
      nothing (surface_result vs fs q) c l k e
      (cond_true (no_two_ends vs fs q) no_candidates (candidates (setting q) (mesh_of vs fs)) no_candidates h refl)

  pub refused_before : (front : List Test) (x : Refusal) → first_refusal front ≡ Err x
      → Answer (front ++ inner) (candidate_outputs (candidates_result vs fs q) c c l l k k e e) (documented_reply (Err x))
  refused_before front x h =
      refused (front ++ inner) (candidate_outputs (candidates_result vs fs q) c c l l k k e e) x (row_refused front inner x h) (refl, (refl, (refl, (refl, tt))))

  pub no_facet_lem : (front : List Test) → Passes front → no_facet fs ≡ true
      → Answer (front ++ inner) (candidate_outputs (candidates_result vs fs q) c c l l k k e e) (documented_reply (Ok (0 ∷ 0 ∷ 0 ∷ 0 ∷ [])))
  unfolding candidates_result
  no_facet_lem front h g =
      behind (front ++ inner) (candidate_outputs (candidates_result vs fs q) c c l l k k e e) (documented_reply (Ok (0 ∷ 0 ∷ 0 ∷ 0 ∷ [])))
      (row_passed front inner h ∙ ap first_refusal (cond_true (no_facet fs) [] (edge_tests vs fs q) [] g refl) ∙ none_left)
      (nothing (candidates_result vs fs q) c l k e
      (cond_true (no_facet fs || no_two_ends vs fs q) no_candidates (candidates (setting q) (mesh_of vs fs)) no_candidates (or_stop (no_facet fs) (no_two_ends vs fs q) g) refl))
