use mathlib.Core.Path.{◌≡◌}
use Prim.Native.Nat.{◌+◌, ◌*◌}
use lib.ListN.{drop}
use lib.Seq.{sets}
use Rattle.geometry.specs.Meshes.{coordinates}
use Rattle.aabb_facets.proofs.outputs.put_corners.Given as goal

abbrev pub invariant-loop-j : goal.invariant-loop-j
invariant-loop-j l = sets l.out (3 * (l.base.0 + l.j)) (coordinates (drop l.j l.corners)) ≡ sets l.initial.out (3 * l.base.0) (coordinates l.corners)
