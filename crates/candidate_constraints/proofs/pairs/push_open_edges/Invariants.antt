use Rattle.candidate_constraints.proofs.Pairing.{Edging}
use Rattle.candidate_pool.specs.Offsets.{open_edges_at}
use Rattle.geometry.specs.Boxes.{face_of}
use Rattle.candidate_constraints.proofs.pairs.push_open_edges.Given as goal

-- `push_open_edges` meets its contract: after i turns the pairs are those of the first i open edges. Assumes nothing.
abbrev pub invariant-loop-i : goal.invariant-loop-i
invariant-loop-i l = Edging l.fn.edged.room.n (face_of l.face) (open_edges_at l.fn.edged.room.n l.fn.edged.room.nf) l.count l.initial.w l.fn.edged.k l.w l.c l.i
