-- The grid of the box (document 01, module 5, and the table's G): how an axis is cut. Assumes nothing.
-- `resolution` gives each axis its own; the operations of document 01 give all three the same.
--   segments      how many segments an axis needs           grid_line    `axis_grid_coordinates`: the i-th point of an axis
--   axis_points    all points of an axis, ends included      grid_size    G: the points of the six face grids
use Rattle.std.specs.Prelude.{ℕ, ◌+◌, ◌*◌, cond, List, map, eqb, pos, Float}
use Rattle.std.specs.Float.{binary64}
use Rattle.std.specs.Float.Ieee.{of_int}
use Rattle.lists.specs.Lists.{up_to}
use Rattle.root.specs.Doubles.{◌⊕◌, ◌⊖◌, ◌⊗◌, ◌⊘◌, larger}
use Rattle.rounding.specs.Rounding as rounding
use Rattle.geometry.specs.declared.aabb.AABB.{AABB}
use Rattle.geometry.specs.Boxes.{lowest, highest}

module _ (box : AABB) (eps : Float) (resolution : ℕ → Float) where
  -- the length over max(resolution, eps), rounded up, and at least 1
  unfoldable pub segments : ℕ → ℕ
  segments k = rounding.segments_over (highest box k ⊖ lowest box k) (larger (resolution k) eps)

  -- the last point is max itself, so that it has max's bits
  unfoldable pub grid_line : ℕ → ℕ → Float
  grid_line k i =
      cond (eqb i (segments k)) (highest box k)
      (lowest box k ⊕ (highest box k ⊖ lowest box k) ⊗ (of_int binary64 (pos i) ⊘ of_int binary64 (pos (segments k))))

  unfoldable pub axis_points : ℕ → List Float
  axis_points k = map (grid_line k) (up_to (segments k + 1))

  -- "twice the sum, over the three pairs of axes, of (segments + 1) times (segments + 1)"
  unfoldable pub grid_size : ℕ
  grid_size =
      2 * ((segments 0 + 1) * (segments 1 + 1) + (segments 0 + 1) * (segments 2 + 1) + (segments 1 + 1) * (segments 2 + 1))
