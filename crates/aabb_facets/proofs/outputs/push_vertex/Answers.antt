use Rattle.aabb_facets.proofs.OutputLists.{point_put_lem}
use Rattle.aabb_facets.proofs.outputs.push_vertex.Goals as goal

pub returns : goal.returns
returns c =
    let put-double = c.put in
    let put-double2 = c.put-2 in
    let put-double3 = c.put-3 in
    let s = c in
    point_put_lem _ _ _ _ _ s.args.p put-double.ensures put-double2.ensures put-double3.ensures
