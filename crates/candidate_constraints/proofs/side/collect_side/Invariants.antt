use mathlib.Core.Path.{◌≡◌}
use lib.ListN.{get_or}
use Rattle.geometry.specs.Boxes.{face_of}
use Rattle.candidate_pool.specs.Offsets.{list_at, side_at}
use Rattle.candidate_constraints.proofs.Along.{Collecting}
use Rattle.candidate_constraints.proofs.side.collect_side.Given as goal

-- `collect_side` meets its contract: after i turns the records are those of the first i candidates of the list. Assumes nothing.
abbrev pub invariant-loop-i : goal.invariant-loop-i
invariant-loop-i l =
    Collecting l.eps l.fn.room.n (face_of l.face) l.side l.initial.w l.w l.m l.i × (l.list ≡ list_at l.fn.room.n (face_of l.face))
    × (l.at ≡ side_at l.fn.room.n) × (l.count ≡ get_or l.initial.w (face_of l.face) 0)
