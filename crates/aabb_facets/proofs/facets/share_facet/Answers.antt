use Rattle.aabb_facets.proofs.RoomLaws.{sharing_start, sharing_more}
use Rattle.aabb_facets.specs.Rooms.{room, share_room, share_to}
use Rattle.aabb_planes.specs.Planes.{snapped}
use Rattle.geometry.specs.Meshes.{vertex_of}
use mathlib.Core.Path.{◌≡◌, ap, ◌∙◌}
use native.Mathlib.Omega.{arith}
use Prim.Native.Nat.{ℕ, ◌+◌, ◌*◌}
use Rattle.aabb_facets.proofs.facets.share_facet.Goals as goal

pub loop-j-init : goal.loop-j-init
loop-j-init c =
    let a = c.args in
    sharing_start a.mesh.vertices.now a.mesh.facets.now a.clip.extents a.clip.eps a.at a.i a.ids.now a.out_vertices.now a.out_facets.now c.requires.by_index_2

pub share_vertex-to-requires : goal.share_vertex-to-requires
share_vertex-to-requires c =
    let i = c.loop-j.invariant in
    let v = c.corner_at in
    let b = c.requires.by_index (3 * c.args.i + c.loop-j.j) (omega (arith, c.requires.i_in_bounds, c.loop-j-test.true)) in
    let room = c.requires.vertices_bound in
    let few = c.loop-j-test.true in (
      omega (arith, b.0, v.ensures, i.ids_length),
      (omega (arith, b.1, v.ensures), (i.low v.result.0, (omega (arith, i.nv, room, few), omega (arith, i.nf, room, few)))),
    )

pub loop-j-preserved : goal.loop-j-preserved
loop-j-preserved c =
    let a = c.args in
    let l = c.loop-j in
    let v = c.share_vertex-to in
    let r = room l.to l.ids l.out_vertices l.out_facets in
    sharing_more a.mesh.vertices.now a.mesh.facets.now a.clip.extents a.clip.eps a.at a.i a.ids.now a.out_vertices.now a.out_facets.now l.ids
    l.out_vertices l.out_facets l.to l.j l.invariant c.loop-j-test.true v.new.ids v.new.out_vertices v.new.out_facets
    v.result (v.ensures ∙ ap (λ (k : ℕ). share_room r k (snapped a.clip.extents a.clip.eps (vertex_of a.mesh.vertices.now k))) c.corner_at.ensures) v.auto.ids
    v.auto.out_vertices v.auto.out_facets

pub returns : goal.returns
returns c =
    let a = c.args in
    let l = c.loop-j in
    let e : l.j ≡ 3 = omega (arith, l.invariant.few, c.loop-j-test.false) in record {
      out_facets_after = l.invariant.shown ∙ ap (share_to a.mesh.vertices.now a.mesh.facets.now a.clip.extents a.clip.eps (room a.at a.ids.now a.out_vertices.now a.out_facets.now) a.i) e;
      vertices_bound_2 = (omega (arith, l.invariant.nv, e), omega (arith, l.invariant.nf, e));
    }
