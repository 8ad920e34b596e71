use Rattle.aabb_facets.proofs.MarkLists.{all_below}
use Rattle.aabb_facets.proofs.Shown.{pass_start, pass_more, pass_end}
use native.Mathlib.Omega.{arith}
use mathlib.Core.Path.{refl}
use Rattle.aabb_facets.proofs.passes.Admitted.clip_pass.Goals as goal

pub loop-i-init : goal.loop-i-init
loop-i-init c =
    let a = c.args in
    pass_start a.self.mesh.vertices.now a.self.mesh.facets.now a.self.clip.extents a.self.clip.eps a.ids.now a.out_vertices.now a.out_facets.now c.requires

pub clip_facet-at-requires : goal.clip_facet-at-requires
clip_facet-at-requires c =
    let a = c.args in
    let i = c.loop-i.invariant in
    let few = a.self.few in
    let low = c.loop-i-test.true in record {
      i_in_bounds = (omega (arith, low), omega (arith, low, few));
      by_index = all_below a.self.mesh.vertices.now a.self.mesh.facets.now a.self.clip.extents a.self.clip.eps a.ids.now c.loop-i.ids a.self.below c.requires i.ids_length;
      by_index_2 = i.low;
      vertices_bound = (omega (arith, i.nv, low, few), omega (arith, i.nf, low, few));
    }

pub loop-i-preserved : goal.loop-i-preserved
loop-i-preserved c =
    let f = c.clip_facet-at in
    let l = c.loop-i in
    let a = c.args in
    pass_more a.self.mesh.vertices.now a.self.mesh.facets.now a.self.clip.extents a.self.clip.eps a.ids.now a.out_vertices.now a.out_facets.now l.ids l.out_vertices l.out_facets
    l.at l.i l.invariant (all_below a.self.mesh.vertices.now a.self.mesh.facets.now a.self.clip.extents a.self.clip.eps a.ids.now a.ids.now a.self.below c.requires refl)
    (omega (arith, c.loop-i-test.true)) f.new.ids f.new.out_vertices f.new.out_facets f.result
    f.ensures.out_facets_after f.ensures.vertices_bound_2 f.auto.ids f.auto.out_vertices f.auto.out_facets

pub returns : goal.returns
returns c =
    let l = c.loop-i in
    let a = c.args in
    let few = a.self.few in
    let end = c.loop-i-test.false in record {
      out_facets_after = pass_end a.self.mesh.vertices.now a.self.mesh.facets.now a.self.clip.extents a.self.clip.eps a.ids.now a.out_vertices.now a.out_facets.now
          l.ids l.out_vertices l.out_facets l.at l.i l.invariant (omega (arith, end));
      vertices_bound = (omega (arith, l.invariant.nv, end, few), omega (arith, l.invariant.nf, end, few));
    }
