-- What candidates are made from beside the mesh (document 01, module 5). Assumes nothing.
--   Setting   the box, eps, a resolution for each axis, for each face the tolerance within which its grid points are left out, and the joining rule
use Rattle.std.specs.Prelude.{ℕ, Float}
use Rattle.geometry.specs.declared.point.Point.{Point}
use Rattle.geometry.specs.declared.aabb.AABB.{AABB}
use Rattle.mesh_weld.specs.Joining.{Joining}

pub record Setting : Type 0 where
  pub box : AABB
  pub eps : Float
  pub resolution : ℕ → Float
  pub skip : ℕ → Float
  pub rule : Joining Point
