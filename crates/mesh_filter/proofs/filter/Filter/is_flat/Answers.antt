use Rattle.geometry.specs.Points.{norm2, normal}
use Rattle.geometry.specs.Triangles.{tri}
use Rattle.geometry.specs.Numbers.{mesh_vertices_of}
use Rattle.geometry.specs.declared.point.Point.{Point}
use Rattle.mesh_filter.proofs.Facets.{flat_at}
use lib.Ieee.{Float, binary64, le, mul}
use native.Mathlib.Omega.{arith}
use mathlib.Core.Path.{ap, ◌∙◌}
use Rattle.mesh_filter.proofs.filter.Filter.is_flat.Goals as goal

pub welded_point-requires : goal.welded_point-requires
welded_point-requires c = record {
  v_in_bounds = let h = c.requires.below.a in omega (arith, c.requires.count_in_bounds);
  v_in_bounds_2 = c.requires.by_index c.args.t.a.0 c.requires.below.a;
}

pub welded_point-requires-2 : goal.welded_point-requires-2
welded_point-requires-2 c = record {
  v_in_bounds = let h = c.requires.below.b in omega (arith, c.requires.count_in_bounds);
  v_in_bounds_2 = c.requires.by_index c.args.t.b.0 c.requires.below.b;
}

pub welded_point-requires-3 : goal.welded_point-requires-3
welded_point-requires-3 c = record {
  v_in_bounds = let h = c.requires.below.c in omega (arith, c.requires.count_in_bounds);
  v_in_bounds_2 = c.requires.by_index c.args.t.c.0 c.requires.below.c;
}

pub returns : goal.returns
returns c =
    let k = c.args.self.now in
    let e = k.eps in
    let n = ap (λ (d : Float). le d (mul binary64 (mul binary64 e e) (mul binary64 e e)))
    (c.norm2.ensures ∙ ap (λ (d : Point). norm2 d) (c.normal.ensures ∙
    (λ i. normal (tri (c.welded_point.ensures i) (c.welded_point-2.ensures i) (c.welded_point-3.ensures i))))) in
    record { numbers = n; in_room = n ∙ flat_at k.welded k.mesh.vertices.now c.args.m.now c.requires.count_in_bounds e (mesh_vertices_of c.args.t) c.requires.below }
