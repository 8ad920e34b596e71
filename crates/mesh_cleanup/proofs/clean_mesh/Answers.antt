use Rattle.mesh_cleanup.proofs.Delivery.{cleaned_up}
use Rattle.mesh_cleanup.specs.Clean.{clean_asked}
use Rattle.mesh_cleanup.proofs.clean_mesh.Goals as goal

pub returns : goal.returns
returns c =
    let s = c in
    let a = s.args in
    cleaned_up a.mesh.vertices.now a.mesh.facets.now (clean_asked a.eps) a.ceiling c.clean_lent-reply.result a.work.now
    c.clean_lent-reply.new.work c.zero.new.w
    a.out_vertices.now c.clean_lent-reply.new.out_vertices a.out_facets.now
    c.clean_lent-reply.new.out_facets
    c.clean_lent-reply.ensures
    c.clean_lent-reply.auto.work c.zero.ensures
