-- Cleaning (document 01, module 4, the table of refusals, and "Agreement"; document 02, E2; `clean_mesh` of mesh_cleanup.rs): the cleaned mesh, the tests in the table's order, and what the operation
-- promises. Assumes nothing.
--   welded_mesh, welded_points, welded_facets   the mesh after welding by a joining rule
--   cleaned_mesh          the cleaned mesh, for a joining rule and the least number of facets of a component
--   min_component_facets   "fewer than two facets" are dropped
--   CleanAsked, clean_asked   what is asked beside the mesh: eps
--   clean_result          document 01's: the rule by cells, and two facets
--   clean_tests           1, 2, 3, 4, 7, 8
--   Cleaned              what the operation promises: the answer, and the rule for a kept facet without its computing
use Rattle.std.specs.Prelude.{ℕ, ◌/◌, not, ◌&&◌, List, [], ◌∷◌, ◌++◌, map, get_or, length, Float, Result}
use Rattle.lists.specs.Lists.{every}
use Rattle.geometry.specs.declared.point.Point.{Point}
use Rattle.geometry.specs.Triangles.{Triangle, mapped}
use Rattle.geometry.specs.Meshes.{Mesh, mesh_of, vertex}
use Rattle.refusals.specs.declared.refusal.Refusal.TheVariants.{BadNumber, KeyRange}
use Rattle.refusals.specs.declared.refusal.Refusal.{Refusal}
use Rattle.refusals.specs.Refusals.{documented_reply, Test}
use Rattle.refusals.specs.Answers.{mesh_outputs, Answered}
use Rattle.input_tests.specs.Front.{Limits, limits, list_tests, in_range, eps_in_range, work_need, work_test, far_keys}
use Rattle.mesh_weld.specs.Joining.{Joining}
use Rattle.mesh_weld.specs.Weld.{Welded, weld}
use Rattle.mesh_weld.specs.Cells.{cells}
use Rattle.mesh_compact.specs.Status.{Rule}
use Rattle.mesh_compact.specs.Compact.{compacted}

unfoldable pub welded_mesh : Joining Point → Mesh → Welded
welded_mesh rule mesh = weld rule (vertex mesh.points) (length mesh.points)

abbrev pub welded_points : Welded → List Point → List Point
welded_points w points = map (vertex points) w.kept

abbrev pub welded_facets : Welded → List (Triangle ℕ) → List (Triangle ℕ)
welded_facets w facets = map (mapped (λ v. get_or w.old_to_new v 0)) facets

unfoldable pub cleaned_mesh : Joining Point → Float → ℕ → Mesh → Mesh
cleaned_mesh rule eps m mesh =
    let w = welded_mesh rule mesh in
    compacted eps m (welded_points w mesh.points) (welded_facets w mesh.facets)

abbrev pub min_component_facets : ℕ
min_component_facets = 2

pub record CleanAsked : Type 0 where
  pub eps : Float

abbrev pub clean_asked : Float → CleanAsked
clean_asked eps = record { eps = eps }

module _ (vs : List Float) (fs : List ℕ) (q : CleanAsked) where
  unfoldable pub clean_result : Mesh
  clean_result = cleaned_mesh (cells q.eps) q.eps min_component_facets (mesh_of vs fs)

  -- there is no cap list and no grid
  unfoldable pub clean_tests : Limits → List Test
  clean_tests l =
      list_tests l.ceiling vs fs 0
      ++ (not (every in_range vs && eps_in_range q.eps), BadNumber)
      ∷ work_test (work_need (length vs / 3) (length fs / 3) 0 0) l.lent
      ∷ (far_keys q.eps vs, KeyRange) ∷ []

  -- the facets kept are exactly those that stay
  abbrev pub KeptRule : Type 0
  KeptRule =
      let w = welded_mesh (cells q.eps) (mesh_of vs fs) in
      Rule q.eps (welded_points w (mesh_of vs fs).points) (welded_facets w (mesh_of vs fs).facets) min_component_facets

  -- under a ceiling, from work room w and outputs v and f to w', v' and f', with the reply r
  pub record Cleaned (ceiling : ℕ) (r : Result (List ℕ) Refusal) (w w' : List ℕ) (v v' : List Float) (f f' : List ℕ) : Type 0 where
    pub answered : Answered (clean_tests (limits ceiling (length w))) (mesh_outputs clean_result v v' f f') w w' (documented_reply r)
    pub rule : KeptRule
