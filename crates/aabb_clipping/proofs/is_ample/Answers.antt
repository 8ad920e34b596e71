use mathlib.Core.Path.{sym, ◌∙◌}
use Rattle.aabb_clipping.proofs.Delivery.{ample, inside}
use Rattle.aabb_clipping.proofs.is_ample.Goals as goal

pub returns-then-n-facet_room : goal.returns-then-n-facet_room
returns-then-n-facet_room c =
    let a = c.args in
    λ e. ample a.admitted.mesh.vertices.now a.admitted.mesh.facets.now a.admitted.clip a.vertex_room a.facet_room c.if-n-vertex_room.true c.if-n-facet_room.true

pub returns : goal.returns
returns c =
    let a = c.args in
    λ e. inside a.admitted.mesh.vertices.now a.admitted.mesh.facets.now a.admitted.clip a.vertex_room a.facet_room a.admitted.below
    c.if-vertex_room-admitted.false c.if-facet_room-admitted.false (sym c.wholly_inside.ensures ∙ e)
