use Rattle.mesh_compact.specs.Room.{NumberedSoFar}
use lib.ListN.{length}
use mathlib.Core.Path.{◌≡◌}
use Rattle.mesh_compact.proofs.renumber.Renumbering.renumber.Given as goal

abbrev pub invariant-loop-i : goal.invariant-loop-i
invariant-loop-i l =
    NumberedSoFar l.self.kept l.self.facets l.self.parts l.self.k l.self.at l.self.n l.self.least l.i l.w l.fn.m l.m × (length l.m ≡ length l.fn.m)
