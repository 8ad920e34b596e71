use Prim.Native.Nat.{◌*◌, ◌≤◌}
use Rattle.lists.proofs.Regions.{Filled}
use Rattle.cap_selection.specs.Steps.{label_in}
use Rattle.cap_selection.proofs.labels.put_labels.Given as goal

-- `labels::put_labels`. The loop's invariant: the labels of the sides before s are put. The measure is what is left. Assumes nothing.
abbrev pub invariant-loop-s : goal.invariant-loop-s
invariant-loop-s l = (l.s ≤ 3 * l.room.nc) × Filled (label_in l.room.n l.room.nf l.room.nc l.room.k l.initial.w) l.initial.w l.w l.labels l.s
