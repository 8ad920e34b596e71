-- What the functions of outputs are asked and promise, of which the outer contract does not speak. The room is laid out as crates candidate_pool, cap_triangles and cap_closing say.
-- Assumes nothing.
--   points_in       the points of some candidates
--   cap_words       a facet left, if it is the first of its three corners         all_cap_words   all those
--   closed_mesh_in       the closed mesh that stands in the room
--   Deliverable    what is asked of the room for it to be written out
use Rattle.std.specs.Prelude.{ℕ, ◌+◌, ◌*◌, ◌-◌, ◌/◌, ◌≤◌, ◌<◌, ◌≡◌, Bool, cond, eqb, length, get_or, Float}
use mathlib.Core.List.{List, [], ◌∷◌, ◌++◌, map, flat_map}
use Rattle.lists.specs.Lists.{up_to}
use Rattle.geometry.specs.declared.point.Point.{Point}
use Rattle.candidate_pool.specs.Offsets.{entry_at}
use Rattle.geometry.specs.Triangles.{threes}
use Rattle.geometry.specs.Meshes.{Mesh, points_of}
use Rattle.input_tests.specs.Front.{ListsPass}
use Rattle.candidate_pool.specs.Standing.{count_at, point_at, PointStored}
use Rattle.cap_closing.specs.Closing.{own_facets}
use Rattle.cap_closing.specs.Entering.{fresh_at, left_at, vertices_at, fresh_in, firsts_in}

abbrev pub points_in : List ℕ → List ℕ → List Point
points_in w cs = map (λ c. point_at w (entry_at c)) cs

abbrev pub cap_words : List ℕ → ℕ → ℕ → List ℕ
cap_words w facet first = cond (eqb (get_or w first 0) 1) (get_or w facet 0 ∷ get_or w (facet + 1) 0 ∷ get_or w (facet + 2) 0 ∷ []) []

abbrev pub all_cap_words : List ℕ → ℕ → ℕ → ℕ → List ℕ
all_cap_words w facets firsts left = flat_map (λ i. cap_words w (facets + 3 * i) (firsts + i)) (up_to left)

-- for at most n candidates, nc supplied triangles, and `left` facets after the area test
abbrev pub closed_mesh_in : List Float → List ℕ → ℕ → ℕ → Bool → ℕ → List ℕ → Mesh
closed_mesh_in vs fs n nc positive left w =
    record {
      points = points_of vs ++ points_in w (fresh_in n (length fs / 3) nc w (length vs / 3));
      facets = own_facets positive (threes fs) ++ firsts_in n (length fs / 3) nc w left;
    }

pub record Deliverable (vs : List Float) (fs : List ℕ) (n nc left caps : ℕ) (w : List ℕ) : Type 0 where
  pub lists : ListsPass vs fs
  pub small : n < 1048576
  pub few_caps : nc ≤ 1048576
  pub size : vertices_at n (length fs / 3) nc < length w
  pub few : count_at w ≤ n
  pub stored : (c : ℕ) → c < count_at w → PointStored w (entry_at c)
  pub own : length vs / 3 ≤ get_or w (vertices_at n (length fs / 3) nc) 0
  pub most : get_or w (vertices_at n (length fs / 3) nc) 0 ≤ length vs / 3 + n
  pub fresh : (i : ℕ) → i < get_or w (vertices_at n (length fs / 3) nc) 0 - length vs / 3 → get_or w (fresh_at n (length fs / 3) nc + i) 0 < count_at w
  pub left_few : left ≤ nc
  pub low : (j : ℕ) → j < 3 * left → get_or w (left_at n (length fs / 3) nc + j) 0 < 2097152
  pub count : caps ≡ length (firsts_in n (length fs / 3) nc w left)
