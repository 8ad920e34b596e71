-- The operation clip (document 01, the table of refusals, module 3 and "Agreement"; document 02, E2): its tests in the table's order, and the mesh that it writes. With `Answered` of crate
-- refusals that is all it promises. Assumes nothing.
--   clip_asked     what is asked beside the mesh: the box and eps, as the code's own `Clip`
--   clip_tests     1, 2, 3, 4, 5, 7                  clip_result    the mesh clipped
use Rattle.std.specs.Prelude.{ℕ, ◌/◌, not, ◌&&◌, List, [], ◌∷◌, ◌++◌, length, Float}
use Rattle.lists.specs.Lists.{every}
use Rattle.geometry.specs.declared.aabb.AABB.{AABB}
use Rattle.geometry.specs.Meshes.{Mesh, mesh_of}
use Rattle.refusals.specs.declared.refusal.Refusal.TheVariants.{BadNumber, BadBox}
use Rattle.refusals.specs.Refusals.{Test}
use Rattle.input_tests.specs.Front.{Limits, list_tests, in_range, eps_in_range, box_in_range, bad_box, work_need, work_test}
use Rattle.aabb_planes.specs.declared.clip.Clip.{Clip}
use Rattle.aabb_facets.specs.Clipped.{clipped}

abbrev pub clip_asked : AABB → Float → Clip
clip_asked extents eps = record { extents = extents; eps = eps }

module _ (vs : List Float) (fs : List ℕ) (q : Clip) where
  -- there is no cap list and no grid
  unfoldable pub clip_tests : Limits → List Test
  clip_tests l =
      list_tests l.ceiling vs fs 0
      ++ (not (every in_range vs && (box_in_range q.extents && eps_in_range q.eps)), BadNumber)
      ∷ (bad_box q.extents, BadBox)
      ∷ work_test (work_need (length vs / 3) (length fs / 3) 0 0) l.lent ∷ []

  unfoldable pub clip_result : Mesh
  clip_result = clipped q.extents q.eps (mesh_of vs fs)
