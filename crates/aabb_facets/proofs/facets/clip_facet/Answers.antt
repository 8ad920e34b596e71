use Rattle.aabb_facets.proofs.RoomLaws.{facet_shared, facet_fanned}
use Rattle.aabb_facets.specs.Rooms.{room, all_marked, fan_room}
use Rattle.aabb_polygons.specs.Polygons.{clip_polygon}
use Rattle.geometry.specs.Triangles.{Triangle, vertices, mapped}
use Rattle.geometry.specs.Meshes.{vertex_of}
use Rattle.geometry.specs.Boxes.{faces}
use mathlib.Core.Path.{ap, ◌∙◌}
use native.Mathlib.Omega.{arith}
use Prim.Native.Nat.{ℕ, ◌+◌, ◌*◌}
use Rattle.aabb_facets.proofs.facets.clip_facet.Goals as goal

pub all_marked-requires : goal.all_marked-requires
all_marked-requires c =
    let s = c in
    let a = s.args in
    let e = c.facet_at-t.ensures in
    let b0 = s.requires.by_index (3 * a.i) (omega (arith, s.requires.i_in_bounds)) in
    let b1 = s.requires.by_index (3 * a.i + 1) (omega (arith, s.requires.i_in_bounds)) in
    let b2 = s.requires.by_index (3 * a.i + 2) (omega (arith, s.requires.i_in_bounds)) in
    (omega (arith, b0.0, ap (λ (u : Triangle ℕ). u.a) e), (omega (arith, b1.0, ap (λ (u : Triangle ℕ). u.b) e), omega (arith, b2.0, ap (λ (u : Triangle ℕ). u.c) e)))

pub returns-then-all_marked : goal.returns-then-all_marked
returns-then-all_marked c =
    let s = c in
    let a = s.args in
    let e = c.facet_at-t.ensures in
    let w = a.ids.now in
    let r = room a.at w a.out_vertices.now a.out_facets.now in
    let m = c.all_marked in
    let g = c.share_facet in record {
      out_facets_after = facet_shared a.mesh.vertices.now a.mesh.facets.now a.clip.extents a.clip.eps r a.i _ m.result (m.ensures ∙ ap (all_marked w) e)
          c.if-all_marked.true g.ensures.out_facets_after;
      vertices_bound_2 = (omega (arith, g.ensures.vertices_bound_2), omega (arith, g.ensures.vertices_bound_2));
    }

pub cut_facet-requires : goal.cut_facet-requires
cut_facet-requires c =
    let s = c in
    let a = s.args in
    let e = c.facet_at-t.ensures in
    let b0 = s.requires.by_index (3 * a.i) (omega (arith, s.requires.i_in_bounds)) in
    let b1 = s.requires.by_index (3 * a.i + 1) (omega (arith, s.requires.i_in_bounds)) in
    let b2 = s.requires.by_index (3 * a.i + 2) (omega (arith, s.requires.i_in_bounds)) in record {
      a_in_bounds = (
        omega (arith, b0.1, ap (λ (u : Triangle ℕ). u.a) e),
        (
          omega (arith, b1.1, ap (λ (u : Triangle ℕ). u.b) e),
          omega (
            arith,
            b2.1,
            ap (λ
                (u : Triangle ℕ). u.c) e,
          ),
        ),
      );
      vertices_bound = s.requires.vertices_bound;
    }

pub returns : goal.returns
returns c =
    let s = c in
    let a = s.args in
    let e = c.facet_at-t.ensures in
    let w = a.ids.now in
    let r = room a.at w a.out_vertices.now a.out_facets.now in
    let m = c.all_marked in
    let g = c.cut_facet in record {
      out_facets_after = facet_fanned a.mesh.vertices.now a.mesh.facets.now a.clip.extents a.clip.eps r a.i _ m.result (m.ensures ∙ ap (all_marked w) e)
          c.if-all_marked.false
          (g.ensures.by_index w ∙ ap (λ (u : Triangle ℕ). fan_room r (clip_polygon a.clip.extents a.clip.eps faces (vertices (mapped (vertex_of a.mesh.vertices.now) u)))) e);
      vertices_bound_2 = g.ensures.vertices_bound_2;
    }
