use Rattle.cap_outputs.specs.Written.{closed_mesh_in, points_in}
use Rattle.cap_outputs.proofs.Delivery.{
  short_vertices,
  short_facets,
  done,
  caps_few,
  many_few,
  own_least,
  fresh_room,
  fresh_is,
  fresh_count,
  read_stored,
  low_at,
  vertices_long,
  vertices_laid,
  firsts_long,
  facets_long,
  facets_laid,
}
use native.Mathlib.Omega.{arith}
use lib.ListN.{length, get_or}
use lib.Seq.{sets}
use mathlib.Core.List.{List}
use mathlib.Core.Path.{ap, ◌∙◌}
use Rattle.geometry.specs.Meshes.{coordinates}
use Prim.Native.Nat.{ℕ, ◌+◌, ◌*◌, ◌/◌}
use Rattle.cap_outputs.proofs.outputs.deliver_closed.Goals as goal

pub overflow_mul-v : goal.overflow_mul-v
overflow_mul-v c =
    let a = c.args in
    let q = many_few a.mesh.vertices.now a.mesh.facets.now a.caps.n (length a.caps.list.now / 4) a.made.left a.made.caps a.positive a.w.now
    c.requires c.vertices_at.result c.vertices_at.ensures in
    omega (arith, q)

pub overflow_mul-f : goal.overflow_mul-f
overflow_mul-f c =
    let a = c.args in
    let q = caps_few a.mesh.vertices.now a.mesh.facets.now a.caps.n (length a.caps.list.now / 4) a.made.left a.made.caps a.positive a.w.now
    c.requires in
    omega (arith, q)

pub overflow_add-f : goal.overflow_add-f
overflow_add-f c =
    let a = c.args in
    let q = caps_few a.mesh.vertices.now a.mesh.facets.now a.caps.n (length a.caps.list.now / 4) a.made.left a.made.caps a.positive a.w.now
    c.requires in
    omega (
      arith,
      q,
      c.requires.lists.few_facets,
      c.requires.lists.whole_facets,
    )

pub returns-then-out_vertices-v : goal.returns-then-out_vertices-v
returns-then-out_vertices-v c =
    let a = c.args in
    short_vertices (closed_mesh_in a.mesh.vertices.now a.mesh.facets.now a.caps.n (length a.caps.list.now / 4) a.positive a.made.left a.w.now)
    (3 * get_or a.w.now c.vertices_at.result 0) (length a.mesh.facets.now + 3 * a.made.caps)
    (vertices_long a.mesh.vertices.now a.mesh.facets.now a.caps.n (length a.caps.list.now / 4) a.made.left a.made.caps a.positive a.w.now
    c.requires c.vertices_at.result c.vertices_at.ensures)
    (facets_long a.mesh.vertices.now a.mesh.facets.now a.caps.n (length a.caps.list.now / 4) a.made.left a.made.caps a.positive a.w.now
    c.requires) a.out_vertices.now a.out_facets.now c.if-out_vertices-v.true

pub returns-then-out_facets-f : goal.returns-then-out_facets-f
returns-then-out_facets-f c =
    let a = c.args in
    short_facets (closed_mesh_in a.mesh.vertices.now a.mesh.facets.now a.caps.n (length a.caps.list.now / 4) a.positive a.made.left a.w.now)
    (3 * get_or a.w.now c.vertices_at.result 0) (length a.mesh.facets.now + 3 * a.made.caps)
    (vertices_long a.mesh.vertices.now a.mesh.facets.now a.caps.n (length a.caps.list.now / 4) a.made.left a.made.caps a.positive a.w.now
    c.requires c.vertices_at.result
    c.vertices_at.ensures) (facets_long a.mesh.vertices.now a.mesh.facets.now a.caps.n (length a.caps.list.now / 4) a.made.left a.made.caps a.positive a.w.now
    c.requires) a.out_vertices.now a.out_facets.now (omega arith) c.if-out_facets-f.true

pub copy_front-requires : goal.copy_front-requires
copy_front-requires c =
    let a = c.args in
    let q = own_least a.mesh.vertices.now a.mesh.facets.now a.caps.n (length a.caps.list.now / 4) a.made.left a.made.caps a.positive a.w.now
    c.requires c.vertices_at.result
    c.vertices_at.ensures in
    omega (arith, q, c.if-out_vertices-v.false, c.requires.lists.whole_vertices)

pub overflow_sub-entered : goal.overflow_sub-entered
overflow_sub-entered c =
    let a = c.args in
    own_least a.mesh.vertices.now a.mesh.facets.now a.caps.n (length a.caps.list.now / 4) a.made.left a.made.caps a.positive a.w.now
    c.requires c.vertices_at.result c.vertices_at.ensures

pub slice_bounds-write_fresh-end : goal.slice_bounds-write_fresh-end
slice_bounds-write_fresh-end c =
    let a = c.args in
    fresh_room a.mesh.vertices.now a.mesh.facets.now a.caps.n (length a.caps.list.now / 4) a.made.left a.made.caps a.positive a.w.now
    c.requires c.vertices_at.result c.vertices_at.ensures c.fresh_at-fresh.result c.fresh_at-fresh.ensures

pub write_fresh-requires : goal.write_fresh-requires
write_fresh-requires c =
    let a = c.args in
    let q = own_least a.mesh.vertices.now a.mesh.facets.now a.caps.n (length a.caps.list.now / 4) a.made.left a.made.caps a.positive a.w.now
    c.requires c.vertices_at.result c.vertices_at.ensures in
    let r = fresh_count a.mesh.vertices.now a.mesh.facets.now a.caps.n (length a.caps.list.now / 4) a.made.left a.made.caps a.positive a.w.now
    c.requires c.vertices_at.result c.vertices_at.ensures c.fresh_at-fresh.result c.fresh_at-fresh.ensures in
    record {
      fits = omega (arith, q, r, c.if-out_vertices-v.false, c.requires.lists.whole_vertices, c.copy_front.auto.to);
      by_index = read_stored a.mesh.vertices.now a.mesh.facets.now a.caps.n (length a.caps.list.now / 4) a.made.left a.made.caps a.positive a.w.now
          c.requires c.vertices_at.result c.vertices_at.ensures c.fresh_at-fresh.result c.fresh_at-fresh.ensures;
    }

pub write_caps-requires : goal.write_caps-requires
write_caps-requires c =
    let a = c.args in
    let q = firsts_long a.mesh.vertices.now a.mesh.facets.now a.caps.n (length a.caps.list.now / 4) a.made.left a.made.caps a.positive a.w.now
    c.requires c.left_at.result c.firsts_at.result c.left_at.ensures c.firsts_at.ensures
    in record {
      left_in_bounds = (
        omega (
          arith,
          c.left_at.ensures,
          c.requires.size,
          c.requires.left_few,
        ),
        omega (
          arith,
          c.firsts_at.ensures,
          c.requires.size,
          c.requires.left_few,
        ),
      );
      by_index = low_at a.mesh.vertices.now a.mesh.facets.now a.caps.n (length a.caps.list.now / 4) a.made.left a.made.caps a.positive a.w.now
          c.requires c.left_at.result c.left_at.ensures;
      left_in_bounds_2 = omega (
        arith,
        q,
        c.if-out_facets-f.false,
        c.write_own.auto.out,
      );
    }

pub returns : goal.returns
returns c =
    let a = c.args in
    done (closed_mesh_in a.mesh.vertices.now a.mesh.facets.now a.caps.n (length a.caps.list.now / 4) a.positive a.made.left a.w.now)
    (3 * get_or a.w.now c.vertices_at.result 0) (length a.mesh.facets.now + 3 * a.made.caps)
    (vertices_long a.mesh.vertices.now a.mesh.facets.now a.caps.n (length a.caps.list.now / 4) a.made.left a.made.caps a.positive a.w.now
    c.requires c.vertices_at.result
    c.vertices_at.ensures) (facets_long a.mesh.vertices.now a.mesh.facets.now a.caps.n (length a.caps.list.now / 4) a.made.left a.made.caps a.positive a.w.now
    c.requires) a.out_vertices.now a.out_facets.now
    c.if-out_vertices-v.false
    c.if-out_facets-f.false _ _
    (vertices_laid a.mesh.vertices.now a.mesh.facets.now a.caps.n (length a.caps.list.now / 4) a.made.left a.made.caps a.positive a.w.now
    c.requires c.vertices_at.result
    c.vertices_at.ensures c.fresh_at-fresh.result
    c.fresh_at-fresh.ensures a.out_vertices.now _ _
    c.if-out_vertices-v.false
    c.copy_front.ensures
    (c.write_fresh.ensures ∙ ap (λ (l : List ℕ). sets c.copy_front.new.to (length a.mesh.vertices.now) (coordinates (points_in a.w.now l)))
    (fresh_is a.mesh.vertices.now a.mesh.facets.now a.caps.n (length a.caps.list.now / 4) a.made.left a.made.caps a.positive a.w.now
    c.requires c.vertices_at.result c.vertices_at.ensures c.fresh_at-fresh.result)))
    (facets_laid a.mesh.vertices.now a.mesh.facets.now a.caps.n (length a.caps.list.now / 4) a.made.left a.made.caps a.positive a.w.now
    c.requires c.left_at.result
    c.firsts_at.result c.left_at.ensures c.firsts_at.ensures
    a.out_facets.now _ _ c.if-out_facets-f.false c.write_own.ensures c.write_caps.ensures)
