use Rattle.candidate_constraints.proofs.Pairing.{Nearing}
use mathlib.Core.Path.{◌≡◌}
use Rattle.geometry.specs.Boxes.{face_of}
use Rattle.candidate_pool.specs.Offsets.{side_at, pairs_at}
use Rattle.candidate_constraints.proofs.side.push_neighbours.Given as goal

-- `push_neighbours` meets its contract: after i turns the pairs are the neighbours among the first i + 1 places. Assumes nothing.
abbrev pub invariant-loop-j : goal.invariant-loop-j
invariant-loop-j l = Nearing l.fn.room.n (face_of l.face) l.m l.count l.initial.w l.w l.c l.j × (l.at ≡ side_at l.fn.room.n) × (l.pairs ≡ pairs_at l.fn.room.n)
