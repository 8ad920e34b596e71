-- A grid line and a point of a face's grid, from an axis' ends and number of segments (document 01, module 5; `axis_grid_coordinates` and `grid_ijk` of boundary_closure.rs).
-- geometry's Axes.grid_line is `line_at` for the number of segments that an axis needs. Assumes nothing.
--   line_at        the i-th point of an axis from `low` to `high` cut into `parts` segments
--   point_on_face   a point of face f from its place on the face's own axis and from u and v
use Rattle.std.specs.Prelude.{ℕ, cond, eqb, pos, Float}
use Rattle.std.specs.Float.{binary64}
use Rattle.std.specs.Float.Ieee.{of_int}
use Rattle.root.specs.Doubles.{◌⊕◌, ◌⊖◌, ◌⊗◌, ◌⊘◌}
use Rattle.geometry.specs.declared.point.Point.{Point}
use Rattle.geometry.specs.Points.{on_axes}
use Rattle.geometry.specs.Boxes.{axis}
use Rattle.box_faces.specs.Faces.{u_axis}

unfoldable pub line_at : Float → Float → ℕ → ℕ → Float
line_at low high parts i = cond (eqb i parts) high (low ⊕ (high ⊖ low) ⊗ (of_int binary64 (pos i) ⊘ of_int binary64 (pos parts)))

unfoldable pub point_on_face : ℕ → Float → Float → Float → Point
point_on_face f at u v = on_axes (λ k. cond (eqb k (axis f)) at (cond (eqb k (u_axis f)) u v))
