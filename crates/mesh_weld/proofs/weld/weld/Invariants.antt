use Rattle.mesh_weld.specs.Room.{WeldedSoFar}
use lib.ListN.{length}
use mathlib.Core.Path.{◌≡◌}
use Rattle.mesh_weld.proofs.weld.weld.Given as goal

abbrev pub invariant-loop-i : goal.invariant-loop-i
invariant-loop-i l = WeldedSoFar l.vs l.eps l.n l.i l.count l.m × (length l.m ≡ length l.initial.m)
