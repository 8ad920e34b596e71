use Rattle.candidate_edges.proofs.Passes.{EdgesGoing}
use Rattle.candidate_edges.proofs.open.enter_edges.Given as goal

-- `enter_edges` meets its contract. The invariant: the room holds what the first i open edges leave (`EdgesGoing`). Assumes nothing.
abbrev pub invariant-loop-i : goal.invariant-loop-i
invariant-loop-i l = EdgesGoing l.mesh.vertices.now l.mesh.facets.now l.clip.extents l.clip.eps l.n l.i l.listed l.initial.w l.w
