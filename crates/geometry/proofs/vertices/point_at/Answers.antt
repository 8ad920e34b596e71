use Rattle.geometry.proofs.Meshes.{vertex_at}
use lib.Ieee.{nan}
use mathlib.Core.Path.{sym}
use Rattle.geometry.proofs.vertices.point_at.Goals as goal

pub returns : goal.returns
returns c = sym (vertex_at c.args.coordinates.now c.args.k nan c.requires)
