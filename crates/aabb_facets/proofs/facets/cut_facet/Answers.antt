use Rattle.std.proofs.Common.{arith}
use mathlib.Core.List.{[]}
use mathlib.Core.Path.{ap}
use Rattle.aabb_facets.specs.Rooms.{Room, room}
use Rattle.aabb_facets.proofs.RoomLaws.{fan_grows}
use Rattle.aabb_facets.proofs.facets.cut_facet.Goals as goal

pub returns-clause-vertices_bound_2 : goal.returns-clause-vertices_bound_2
returns-clause-vertices_bound_2 c =
    let a = c.args in
    let corners = c.corners in
    let g = fan_grows (room a.at [] a.out_vertices.now a.out_facets.now) corners.result.now corners.ensures.few in
    let e = c.put_fanned.ensures [] in
    (omega (arith, g, ap (λ (x : Room). x.nv) e), omega (arith, g, ap (λ (x : Room). x.nf) e))
