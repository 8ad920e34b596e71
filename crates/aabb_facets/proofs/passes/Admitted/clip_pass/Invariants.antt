use Rattle.aabb_facets.proofs.Shown.{Passed}
use Rattle.aabb_facets.proofs.passes.Admitted.clip_pass.Given as goal

abbrev pub invariant-loop-i : goal.invariant-loop-i
invariant-loop-i l =
    Passed l.self.mesh.vertices.now l.self.mesh.facets.now l.self.clip.extents l.self.clip.eps l.initial.ids
    l.initial.out_vertices l.initial.out_facets l.ids l.out_vertices l.out_facets l.at l.i
