-- What is asked of candidates and of caps beside the mesh (document 01, "What the service takes"). Assumes nothing.
--   asked          the box, eps and the resolution, as the code's own `Asked`
--   on_each, one_resolution   one number, document 01's one resolution, for each axis
--   clip_of        the box and eps, as the code's own `Clip`
--   grid_of        the grid of the box, as the code's own `Grid`
--   setting        what candidates are made from, as module 5 has it
use Rattle.std.specs.Prelude.{ℕ, [], ◌∷◌, Float}
use Rattle.root.specs.Doubles.{◌⊗◌, 1e-9}
use Rattle.geometry.specs.declared.aabb.AABB.{AABB}
use Rattle.geometry.specs.Boxes.{axis}
use Rattle.aabb_planes.specs.declared.clip.Clip.{Clip}
use Rattle.input_tests.specs.declared.grid.Grid.{Grid}
use Rattle.input_tests.specs.Front.{by_axis}
use Rattle.candidate_pool.specs.Pool.{by_key}
use Rattle.candidate_pool.specs.Setting.{Setting}
use Rattle.candidate_surface.specs.declared.asked.Asked.{Asked}

abbrev pub asked : AABB → Float → Float → Asked
asked extents eps resolution = record { extents = extents; eps = eps; resolution = resolution }

abbrev pub on_each : Float → ℕ → Float
on_each r = by_axis (r ∷ r ∷ r ∷ [])

abbrev pub one_resolution : Float → ℕ → Float
one_resolution r = on_each r

abbrev pub clip_of : Asked → Clip
clip_of q = record { extents = q.extents; eps = q.eps }

abbrev pub grid_of : Asked → Grid
grid_of q = record { extents = q.extents; eps = q.eps; resolution = q.resolution ∷ q.resolution ∷ q.resolution ∷ [] }

-- "within resolution × 1e-9", on every face: it goes by the axis that the face is across
abbrev pub setting : Asked → Setting
setting q =
    record {
      box = q.extents;
      eps = q.eps;
      resolution = one_resolution q.resolution;
      skip = λ f. on_each (q.resolution ⊗ 1e-9) (axis f);
      rule = by_key q.eps;
    }
