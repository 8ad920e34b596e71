-- Clipping one polygon to the box (document 01, module 3; aabb_clipping.rs): Sutherland and Hodgman with the Rust's tolerances. A polygon is the
-- list of its corners; faces are 0 to 5, in face order. Assumes nothing.
--   crossed       the corner that a crossing makes, if it makes one
--   side_clipped   what one side adds              walk           what the sides from a corner on add
--   clip_to_plane   `clip_polygon_to_plane`         clip_polygon    the planes in turn, "stopping under three corners"
use Rattle.std.specs.Prelude.{ℕ, ◌-◌, cond, List, [], ◌∷◌, ◌++◌, ltb, get_or, length, Float, Option, Some, None}
use Rattle.std.specs.Bool.{beq}
use Rattle.geometry.specs.declared.point.Point.{Point}
use Rattle.geometry.specs.declared.aabb.AABB.{AABB}
use Rattle.geometry.specs.Points.{along, origin}
use Rattle.geometry.specs.Boxes.{axis, plane}
use Rattle.aabb_planes.specs.Planes.{inside, snapped, crossing, interpolated, on_plane}

module _ (box : AABB) (eps : Float) where
  -- "The crossing is a + t(b - a), set to the plane, then snapped"
  unfoldable pub crossed : ℕ → Point → Point → Option Float → List Point
  crossed f a b (Some t) = snapped box eps (on_plane box f (interpolated a b t)) ∷ []
  crossed f a b None = []

  -- the side from a to b: "Where inside differs, a crossing"; then "An inside corner is copied snapped"
  unfoldable pub side_clipped : ℕ → Point → Point → List Point
  side_clipped f a b =
      cond (beq (inside box eps f b) (inside box eps f a)) [] (crossed f a b (crossing eps (plane box f) (along a (axis f)) (along b (axis f))))
      ++ cond (inside box eps f b) (snapped box eps b ∷ []) []

  -- the previous corner is the one of the polygon handed in, not the snapped one
  unfoldable pub walk : ℕ → Point → List Point → List Point
  walk f a [] = []
  walk f a (b ∷ l) = side_clipped f a b ++ walk f b l

  -- "Walk from the last corner"
  unfoldable pub clip_to_plane : List Point → ℕ → List Point
  clip_to_plane l f = walk f (get_or l (length l - 1) origin) l

  -- "clipped plane by plane in face order, stopping under three corners"
  unfoldable pub clip_polygon : List ℕ → List Point → List Point
  clip_polygon [] l = l
  clip_polygon (f ∷ fs) l =
      let m = clip_to_plane l f in
      let r = clip_polygon fs m in
      cond (ltb (length m) 3) m r
