use Rattle.edges.proofs.Steps.{sorts_sides}
use Rattle.edges.proofs.table.sort_sides.Goals as goal

pub returns : goal.returns
returns c =
    let s = c in
    let listed = c.side_records in
    let sorted = c.sort_records in
    sorts_sides s.args.facets.now s.args.w.now listed.new.w sorted.new.m listed.ensures sorted.ensures
