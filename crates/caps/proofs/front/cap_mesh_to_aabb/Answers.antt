use Rattle.caps.proofs.Ordering.{capped}
use Rattle.caps.proofs.front.cap_mesh_to_aabb.Goals as goal

pub returns : goal.returns
returns c =
    let a = c.args
    in
    capped a.mesh.vertices.now a.mesh.facets.now a.cap_list.now a.asked a.mode a.ceiling
    c.caps_lent-reply.result a.work.now
    c.caps_lent-reply.new.work c.zero.new.w
    a.out_vertices.now c.caps_lent-reply.new.out_vertices a.out_facets.now
    c.caps_lent-reply.new.out_facets
    c.caps_lent-reply.ensures
    c.caps_lent-reply.auto.work c.zero.ensures
