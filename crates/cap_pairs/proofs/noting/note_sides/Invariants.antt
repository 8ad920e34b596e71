use Rattle.cap_pairs.specs.Steps.{Noted, side_target, side_face}
use lib.ListN.{length}
use lib.Dec.{eqb}
use Prim.Native.Nat.{◌*◌, ◌/◌, ◌≤◌}
use Rattle.cap_pairs.proofs.noting.note_sides.Given as goal

-- `note_sides` meets its contract: the faces of the first s sides are added to the words of their pairs. Assumes nothing.
abbrev pub invariant-loop-s : goal.invariant-loop-s
invariant-loop-s l =
    Noted (side_target l.fn.caps.n l.fn.caps.nf (length l.fn.caps.list.now / 4) l.initial.w l.fn.caps.k)
    (λ t. eqb (side_face l.fn.caps.list.now t)) l.initial.w l.w l.s × (l.s ≤ 3 * (length l.fn.caps.list.now / 4))
