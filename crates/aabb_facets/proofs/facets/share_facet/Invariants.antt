use Rattle.aabb_facets.proofs.RoomLaws.{Sharing}
use Rattle.aabb_facets.proofs.facets.share_facet.Given as goal

abbrev pub invariant-loop-j : goal.invariant-loop-j
invariant-loop-j l =
    Sharing l.mesh.vertices.now l.mesh.facets.now l.clip.extents l.clip.eps l.initial.to l.i l.initial.ids
    l.initial.out_vertices l.initial.out_facets l.ids l.out_vertices l.out_facets l.to l.j
