use mathlib.Core.Path.{◌≡◌}
use lib.ListN.{get_or}
use Rattle.geometry.specs.Boxes.{face_of}
use Rattle.candidate_pool.specs.Offsets.{list_at, places_at}
use Rattle.candidate_constraints.proofs.Noting.{Noting}
use Rattle.candidate_constraints.proofs.places.note_places.Given as goal

-- `note_places` meets its contract: after i turns the first i candidates of the list have their places noted. Assumes nothing.
abbrev pub invariant-loop-i : goal.invariant-loop-i
invariant-loop-i l =
    Noting l.fn.room.n (face_of l.fn.face) l.initial.w l.w l.i × (l.list ≡ list_at l.fn.room.n (face_of l.fn.face))
    × (l.places ≡ places_at l.fn.room.n) × (l.count ≡ get_or l.initial.w (face_of l.fn.face) 0)
