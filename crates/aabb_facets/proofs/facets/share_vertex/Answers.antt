use Rattle.aabb_facets.proofs.RoomLaws.{share_new, share_old}
use Rattle.aabb_planes.specs.Planes.{snapped}
use Rattle.geometry.specs.Meshes.{coordinates, vertex_of}
use Rattle.geometry.specs.declared.point.Point.{Point}
use lib.Seq.{sets}
use mathlib.Core.Path.{refl, ap, ◌∙◌}
use mathlib.Core.List.{[], ◌∷◌}
use Prim.Native.Nat.{◌*◌}
use Rattle.aabb_facets.proofs.facets.share_vertex.Goals as goal

pub returns-then-k-le1 : goal.returns-then-k-le1
returns-then-k-le1 c =
    let push-vertex = c.push_vertex in
    let put-u32 = c.put in
    let if1 = c.if-k-le1 in
    let snap-near-bbox = c.snap_near_bbox in
    let vertex_at = c.vertex_at in
    let s = c in
    let a = s.args in
    share_new a.at a.ids.now a.out_vertices.now a.out_facets.now a.v.0 (snapped a.clip.extents a.clip.eps (vertex_of a.vertices.now a.v.0)) _
    push-vertex.new.out put-u32.new.out if1.true refl (push-vertex.ensures ∙ ap (λ (q : Point). sets a.out_vertices.now (3 * a.at.vertices)
    (coordinates (q ∷ []))) (snap-near-bbox.ensures ∙ ap (λ (x : Point). snapped a.clip.extents a.clip.eps x) vertex_at.ensures)) put-u32.ensures

pub returns : goal.returns
returns c =
    let s = c in
    let a = s.args in
    share_old a.at a.ids.now a.out_vertices.now a.out_facets.now a.v.0 (snapped a.clip.extents a.clip.eps (vertex_of a.vertices.now a.v.0))
    c.put-2.new.out c.if-k-le1.false c.put-2.ensures
