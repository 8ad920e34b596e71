use Rattle.boundary_components.proofs.Staging.{table_again, edges_ready, listed}
use Rattle.edges.proofs.Steps.{ascends}
use native.Mathlib.Omega.{arith}
use Rattle.boundary_components.proofs.stage.Goals as goal

pub keep_open-edges-requires-clause-ascending : goal.keep_open-edges-requires-clause-ascending
keep_open-edges-requires-clause-ascending c =
    let table = c.sort_sides in
    let found = c.irregular_edges-irregular in
    let s = c in
    let fs = s.args.facets.now in
    let w = s.args.work.now in
    let again = table_again s.args.vertices fs w table.new.w found.new.w found.result s.requires (λ i. omega (
      arith,
      c.type_inv.facets i,
    )) table.ensures found.ensures in
    ascends fs found.new.w found.new.w again

pub group_edges-components-requires : goal.group_edges-components-requires
group_edges-components-requires c =
    let cleared = c.zero_part in
    let kept = c.keep_open-edges in
    let table = c.sort_sides in
    let found = c.irregular_edges-irregular in
    let s = c in
    let fs = s.args.facets.now in
    let w = s.args.work.now in
    edges_ready s.args.vertices fs w table.new.w found.new.w found.result s.requires (λ i. omega (arith, c.type_inv.facets i)) table.ensures found.ensures
    kept.new.w cleared.new.w kept.result kept.ensures cleared.ensures

pub returns : goal.returns
returns c =
    let grouped = c.group_edges-components in
    let cleared = c.zero_part in
    let kept = c.keep_open-edges in
    let found = c.irregular_edges-irregular in
    let table = c.sort_sides in
    let s = c in
    let fs = s.args.facets.now in
    let w = s.args.work.now in
    listed s.args.vertices fs w table.new.w found.new.w found.result s.requires (λ i. omega (arith, c.type_inv.facets i)) table.ensures found.ensures
    kept.new.w cleared.new.w kept.result kept.ensures cleared.ensures grouped.new.w grouped.result grouped.ensures
