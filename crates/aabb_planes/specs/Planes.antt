-- The planes of the box, and one point against them (document 01, module 3; aabb_clipping.rs): inside, snapping and crossings, with the Rust's
-- tolerances. Faces are 0 to 5, in face order. Assumes nothing.
--   inside        `point_inside_plane`: the inside test of face f
--   snap_to, snapped   `snap_near_bbox`
--   crossing      `segment_plane_t`: a fraction t, or nothing, from the plane's place and the two ends along its axis
--   interpolated, on_plane   `interpolate_points` and `snap_to_plane`
use Rattle.std.specs.Prelude.{ℕ, Bool, cond, eqb, Option, Some, None, Float}
use Rattle.std.specs.Bool.{beq}
use Rattle.std.specs.Float.Ieee.{lt, le}
use Rattle.root.specs.Doubles.{◌⊕◌, ◌⊖◌, ◌⊗◌, ◌⊘◌, zero_f, one_f, within}
use Rattle.geometry.specs.declared.point.Point.{Point}
use Rattle.geometry.specs.declared.aabb.AABB.{AABB}
use Rattle.geometry.specs.Points.{along, on_axes}
use Rattle.geometry.specs.Boxes.{lowest, highest, axis, is_min, plane}

-- ---- one coordinate

module _ (eps : Float) where
  -- onto `at` where v is within eps of it
  unfoldable pub snap_to : Float → Float → Float
  snap_to at v = cond (within eps (v ⊖ at)) at v

  -- "0 if the first end is within eps of the plane, else 1 if the second is, else nothing if both lie on one side, else (coord - a)/(b - a)"
  unfoldable pub crossing : Float → Float → Float → Option Float
  crossing coord a b =
      cond (within eps (a ⊖ coord)) (Some zero_f)
      (cond (within eps (b ⊖ coord)) (Some one_f)
      (cond (beq (lt (a ⊖ coord) zero_f) (lt (b ⊖ coord) zero_f)) None
      (Some ((coord ⊖ a) ⊘ (b ⊖ a)))))

-- ---- points

-- "a + t(b - a)"
unfoldable pub interpolated : Point → Point → Float → Point
interpolated a b t = on_axes (λ k. along a k ⊕ t ⊗ (along b k ⊖ along a k))

-- "set to the plane"
unfoldable pub on_plane : AABB → ℕ → Point → Point
on_plane box f p = on_axes (λ k. cond (eqb k (axis f)) (plane box f) (along p k))

module _ (box : AABB) (eps : Float) where
  unfoldable pub inside : ℕ → Point → Bool
  inside f p = cond (is_min f) (le (plane box f ⊖ eps) (along p (axis f))) (le (along p (axis f)) (plane box f ⊕ eps))

  -- "min before max on each axis, x, y, z"
  unfoldable pub snapped : Point → Point
  snapped p = on_axes (λ k. snap_to eps (highest box k) (snap_to eps (lowest box k) (along p k)))
