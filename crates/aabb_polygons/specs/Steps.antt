-- What the inner functions do, step by step: clipping that leaves the corners that stay unsnapped.
-- Contracts of inner functions cite this; the product promises nothing by it. Assumes nothing.
--   side_crossed     the corner where a side crosses
--   side_unsnapped, walk_unsnapped, clip_unsnapped   as side_clipped, walk, clip_to_plane, but a corner that stays is left as it is
use Rattle.std.specs.Prelude.{ℕ, ◌-◌, cond, List, [], ◌∷◌, ◌++◌, get_or, length, Float}
use Rattle.std.specs.Bool.{beq}
use Rattle.geometry.specs.declared.point.Point.{Point}
use Rattle.geometry.specs.declared.aabb.AABB.{AABB}
use Rattle.geometry.specs.Points.{origin, along}
use Rattle.geometry.specs.Boxes.{axis, plane}
use Rattle.aabb_planes.specs.Planes.{inside, crossing}
use Rattle.aabb_polygons.specs.Polygons.{crossed}

module _ (box : AABB) (eps : Float) where
  abbrev pub side_crossed : ℕ → Point → Point → List Point
  side_crossed f a b = crossed box eps f a b (crossing eps (plane box f) (along a (axis f)) (along b (axis f)))

  unfoldable pub side_unsnapped : ℕ → Point → Point → List Point
  side_unsnapped f a b = cond (beq (inside box eps f b) (inside box eps f a)) [] (side_crossed f a b) ++ cond (inside box eps f b) (b ∷ []) []

  unfoldable pub walk_unsnapped : ℕ → Point → List Point → List Point
  walk_unsnapped f a [] = []
  walk_unsnapped f a (b ∷ l) = side_unsnapped f a b ++ walk_unsnapped f b l

  unfoldable pub clip_unsnapped : ℕ → List Point → List Point
  clip_unsnapped f l = walk_unsnapped f (get_or l (length l - 1) origin) l
