-- What one step gives to the next. Assumes nothing.
--   Ready     what tests 1, 2, 3 and 7 give, once they have passed
--   Listed    all three lists stand in the work room
use Rattle.std.specs.Prelude.{ℕ, ◌+◌, ◌*◌, ◌/◌, ◌%◌, ◌≤◌, ◌≡◌, false, length}
use mathlib.Core.List.{List, flat_map}
use Rattle.lists.specs.Regions.{view}
use Rattle.geometry.specs.Triangles.{threes}
use Rattle.edges.specs.Edges.{pair_words}
use Rattle.input_tests.specs.Front.{mesh_ceiling, bad_index}
use Rattle.irregular_edges.specs.Irregular.{irregular_edges}
use Rattle.boundary_groups.specs.Groups.{boundary_components, component_words}

pub record Ready (vertices : ℕ) (fs : List ℕ) (lent : ℕ) : Type 0 where
  pub whole : length fs % 3 ≡ 0
  pub few_vertices : vertices ≤ mesh_ceiling
  pub few_facets : length fs / 3 ≤ mesh_ceiling
  pub below : bad_index vertices fs ≡ false
  pub room : 128 * (vertices + length fs / 3 + 0 + 0) + 1024 ≤ lent

-- with n sides: open edges, components and irregular edges, in words, and how many they are
pub record Listed (vertices : ℕ) (fs w w' : List ℕ) (k c q : ℕ) : Type 0 where
  pub long : length w' ≡ length w
  pub edges : view w' (9 * length fs + 2 * vertices) (2 * k) ≡ pair_words (flat_map (λ g. g) (boundary_components (threes fs)))
  pub groups : view w' (11 * length fs + 2 * vertices) (2 * c) ≡ component_words (boundary_components (threes fs))
  pub irregulars : view w' (4 * length fs) (2 * q) ≡ pair_words (irregular_edges (threes fs))
  pub few_open : k ≤ length fs
  pub few_components : c ≤ k
  pub few_irregular : 2 * q ≤ length fs
