-- Document 02, E2: "Where both ceilings admit a mesh the results are equal". Two calls with the same vertex count, facets, work room and outputs, under ceilings that both admit
-- vertices and facets, end alike: reply, outputs and work room. Assumes nothing.
--   same_tests, boundary_under_both
use Prim.Native.Nat.{ℕ, ◌/◌, ◌≤◌}
use mathlib.Core.Path.{◌≡◌, sym, ap, ◌∙◌}
use mathlib.Core.Bool.{Bool, false}
use mathlib.Core.List.{List, [], ◌∷◌, flat_map}
use borrow.Author.Tests.{le-ltb}
use lib.ListN.{length}
use Rattle.geometry.specs.Triangles.{threes}
use Rattle.edges.specs.Edges.{pair_words}
use Rattle.refusals.specs.declared.refusal.Refusal.TheVariants.{Ragged, TooMany, BadIndex}
use Rattle.refusals.specs.Refusals.{Test, settle}
use Rattle.refusals.specs.Answers.{reply_with, Answered}
use Rattle.input_tests.specs.Front.{limits, ragged, too_many, admitted, bad_index, work_need, work_test}
use Rattle.irregular_edges.specs.Irregular.{irregular_edges}
use Rattle.boundary_groups.specs.Groups.{boundary_components, component_words}
use Rattle.boundary_components.specs.Boundary.{boundary_tests, boundary_outputs, ListsAlike}
use Rattle.boundary_components.proofs.Checking.{many, not_over}

module _ (vertices : ℕ) (fs : List ℕ) where
  few_facets : (c : ℕ) → length fs / 3 ≤ admitted c → too_many (admitted c) (length fs) 3 ≡ false
  unfolding too_many
  few_facets c h = le-ltb (admitted c) (length fs / 3) h

  abbrev row : Bool → ℕ → List Test
  row over lent = (ragged (length fs) 3, Ragged) ∷ (over, TooMany) ∷ (bad_index vertices fs, BadIndex) ∷ work_test (work_need vertices (length fs / 3) 0 0) lent ∷ []

  module _ (a b : ℕ) (va : vertices ≤ admitted a) (fa : length fs / 3 ≤ admitted a) (vb : vertices ≤ admitted b) (fb : length fs / 3 ≤ admitted b) where
    pub same_tests : (lent : ℕ) → boundary_tests vertices fs (limits a lent) ≡ boundary_tests vertices fs (limits b lent)
    unfolding boundary_tests
    same_tests lent =
        let none : many vertices fs (limits a lent) ≡ many vertices fs (limits b lent) = not_over vertices fs (limits a lent) va (few_facets a fa)
        ∙ sym (not_over vertices fs (limits b lent) vb (few_facets b fb)) in
        ap (λ (over : Bool). row over lent) none

    abbrev lists : List (List (ℕ × ℕ))
    lists = boundary_components (threes fs)

    pub boundary_under_both : (w w₁ w₂ r₁ r₂ e e₁ e₂ c c₁ c₂ i i₁ i₂ : List ℕ)
        → Answered (boundary_tests vertices fs (limits a (length w))) (boundary_outputs (threes fs) e e₁ c c₁ i i₁) w w₁ r₁
        → Answered (boundary_tests vertices fs (limits b (length w))) (boundary_outputs (threes fs) e e₂ c c₂ i i₂) w w₂ r₂
        → ListsAlike r₁ r₂ w₁ w₂ e₁ e₂ c₁ c₂ i₁ i₂
    boundary_under_both w w₁ w₂ r₁ r₂ e e₁ e₂ c c₁ c₂ i i₁ i₂ x y =
        let r : r₁ ≡ r₂ = x.answer.replied ∙ ap (λ (ts : List Test). reply_with ts (boundary_outputs (threes fs) e e c c i i)) (same_tests (length w)) ∙ sym y.answer.replied in
        record {
          reply = r;
          edges = x.answer.settled.0 ∙ ap (λ (n : List ℕ). settle n (pair_words (flat_map (λ g. g) lists)) e) r ∙ sym y.answer.settled.0;
          components = x.answer.settled.1.0 ∙ ap (λ (n : List ℕ). settle n (component_words lists) c) r ∙ sym y.answer.settled.1.0;
          irregular = x.answer.settled.1.1.0 ∙ ap (λ (n : List ℕ). settle n (pair_words (irregular_edges (threes fs))) i) r ∙ sym y.answer.settled.1.1.0;
          work = x.work.ends ∙ sym y.work.ends;
        }
