use Rattle.aabb_planes.specs.Planes.{interpolated}
use Rattle.geometry.specs.Points.{along}
use mathlib.Core.Path.{refl}
use Rattle.aabb_planes.proofs.crossing.interpolate_points.Goals as goal

pub returns : goal.returns
unfolding interpolated along
returns c = refl
