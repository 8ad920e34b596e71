use Rattle.aabb_facets.proofs.OutputLists.{fan_from}
use Rattle.aabb_facets.specs.Clipped.{fan}
use Rattle.geometry.specs.Triangles.{flat}
use lib.Seq.{sets}
use lib.ListN.{length}
use Prim.Native.Nat.{◌+◌, ◌*◌, ◌-◌, ◌≤◌}
use mathlib.Core.Path.{◌≡◌}
use Rattle.aabb_facets.proofs.outputs.put_fan.Given as goal

abbrev pub invariant-loop-j : goal.invariant-loop-j
invariant-loop-j l = (l.j ≤ l.n) ×
    ((length l.out ≡ length l.initial.out) × (sets l.out (l.at + 3 * l.j) (fan_from l.base.0 l.j (l.n - l.j)) ≡ sets l.initial.out l.at (flat (fan l.base.0 l.n))))
