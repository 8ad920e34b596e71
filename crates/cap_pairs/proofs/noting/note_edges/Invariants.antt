use Rattle.cap_pairs.specs.Steps.{Noted, edge_mask, edge_target}
use Rattle.box_faces.specs.Faces.{has_bit}
use Prim.Native.Nat.{◌≤◌}
use Rattle.cap_pairs.proofs.noting.note_edges.Given as goal

-- `note_edges` meets its contract: the faces of the first i open edges are added to the words of their pairs. Assumes nothing.
abbrev pub invariant-loop-i : goal.invariant-loop-i
invariant-loop-i l =
    Noted (edge_target l.fn.room.n l.fn.room.nf l.fn.room.nc l.initial.w) (λ j. has_bit (edge_mask l.fn.room.n l.fn.room.nf l.fn.room.nc l.initial.w j)) l.initial.w l.w l.i × (l.i ≤ l.fn.room.k)
