use Rattle.aabb_planes.specs.Planes.{snapped}
use Rattle.geometry.specs.Points.{along}
use Rattle.aabb_planes.proofs.clip.Clip.snap_near_bbox.Goals as goal

pub returns : goal.returns
unfolding snapped along
returns c = simp (c.snap_axis-3.ensures, c.snap_axis-2.ensures, c.snap_axis.ensures)
