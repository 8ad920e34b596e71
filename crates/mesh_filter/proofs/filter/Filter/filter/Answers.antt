use Rattle.mesh_filter.proofs.Steps.{going_start, turn_same, turned_on}
use Prim.Native.Nat.{◌+◌}
use mathlib.Core.Path.{◌∙◌}
use Rattle.mesh_filter.proofs.filter.Filter.filter.Goals as goal

pub loop-f-init : goal.loop-f-init
loop-f-init c =
    let k = c.args.self.now in
    (going_start k.eps _ _ k.at k.n c.args.m.now c.zero_part.new.w c.requires.room c.zero_part.ensures, c.zero_part.ensures.long)

pub filter_facet-count-requires-clause-filtered_so_far : goal.filter_facet-count-requires-clause-filtered_so_far
filter_facet-count-requires-clause-filtered_so_far c =
    let k = c.args.self.now in
    let i = c.loop-f.invariant in
    turn_same k.welded k.mesh.vertices.now k.mesh.facets.now k.at k.n c.args.m.now c.loop-f.m c.requires i.1 i.0.rest k.eps c.loop-f.f c.loop-f.count c.loop-f.m i.0.going

pub loop-f-preserved : goal.loop-f-preserved
loop-f-preserved c =
    let k = c.args.self.now in
    let i = c.loop-f.invariant in (
      turned_on k.welded k.mesh.vertices.now k.mesh.facets.now k.at k.n c.args.m.now c.loop-f.m c.requires i.1 i.0.rest
          k.eps (c.loop-f.f + 1) c.filter_facet-count.result c.filter_facet-count.new.m c.filter_facet-count.ensures,
      c.filter_facet-count.auto.m ∙ i.1,
    )
