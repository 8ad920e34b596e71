-- The operation boundary components (document 02, E13): what it lists of facets, its tests in the table's order, its three outputs. With `Answered` of crate refusals that is all it
-- promises. Assumes nothing.
--   boundary_tests      1, 2, 3, 7                     boundary_outputs   open edges, components, irregular edges
--   ClosedMesh         every edge has two different ends and is borne by two sides, one each way        Nothing   all outputs are empty
--   ListsAlike         two calls of it ended alike: reply, outputs and work room
use Rattle.std.specs.Prelude.{ℕ, ◌/◌, ◌≡◌, ◌||◌, ltb, length}
use mathlib.Core.List.{List, [], ◌∷◌, Memᴰ, flat_map}
use Rattle.lists.specs.Lists.{count}
use Rattle.geometry.specs.Triangles.{Triangle}
use Rattle.edges.specs.Edges.{sides, bearers, pair_words}
use Rattle.refusals.specs.declared.refusal.Refusal.TheVariants.{Ragged, TooMany, BadIndex}
use Rattle.refusals.specs.Refusals.{Test}
use Rattle.refusals.specs.Answers.{Output, output}
use Rattle.input_tests.specs.Front.{Limits, ragged, too_many, admitted, bad_index, work_need, work_test}
use Rattle.irregular_edges.specs.Irregular.{same_side, irregular_edges}
use Rattle.boundary_groups.specs.Groups.{boundary_components, component_words}

-- for a vertex count and facets; "Answers: 1, 2 (the vertex count too), 3, 7 (G is 0), 12"
unfoldable pub boundary_tests : ℕ → List ℕ → Limits → List Test
boundary_tests vertices fs l =
    (ragged (length fs) 3, Ragged)
    ∷ (ltb (admitted l.ceiling) vertices || too_many (admitted l.ceiling) (length fs) 3, TooMany)
    ∷ (bad_index vertices fs, BadIndex)
    ∷ work_test (work_need vertices (length fs / 3) 0 0) l.lent ∷ []

-- from e, c and i to e', c' and i'
abbrev pub boundary_outputs : List (Triangle ℕ) → List ℕ → List ℕ → List ℕ → List ℕ → List ℕ → List ℕ → List Output
boundary_outputs facets e e' c c' i i' =
    let cs = boundary_components facets in
    output (pair_words (flat_map (λ g. g) cs)) e e' ∷ output (component_words cs) c c' ∷ output (pair_words (irregular_edges facets)) i i' ∷ []

-- "every edge has two different ends and is borne by two sides, one each way"
pub record ClosedMesh (facets : List (Triangle ℕ)) : Type 0 where
  pub two_ends : (s : ℕ × ℕ) → Memᴰ s (sides facets) → s.0 ≡ s.1 → ⊥
  pub two_sides : (s : ℕ × ℕ) → Memᴰ s (sides facets) → bearers (sides facets) s ≡ 2
  pub one_back : (s : ℕ × ℕ) → Memᴰ s (sides facets) → count (same_side (s.1, s.0)) (sides facets) ≡ 1

-- "all outputs are empty"
pub record Nothing (facets : List (Triangle ℕ)) : Type 0 where
  pub edges : pair_words (flat_map (λ g. g) (boundary_components facets)) ≡ []
  pub components : component_words (boundary_components facets) ≡ []
  pub irregular : pair_words (irregular_edges facets) ≡ []

pub record ListsAlike (reply₁ reply₂ w₁ w₂ e₁ e₂ c₁ c₂ i₁ i₂ : List ℕ) : Type 0 where
  pub reply : reply₁ ≡ reply₂
  pub edges : e₁ ≡ e₂
  pub components : c₁ ≡ c₂
  pub irregular : i₁ ≡ i₂
  pub work : w₁ ≡ w₂
