use native.Mathlib.Omega.{arith}
use Rattle.edges.proofs.Steps.{ascends, opens}
use Rattle.edges.proofs.open.open_edges.Goals as goal

pub keep_open-k-requires-clause-ascending : goal.keep_open-k-requires-clause-ascending
keep_open-k-requires-clause-ascending c =
    let s = c in
    let table = c.sort_sides in
    ascends s.args.facets.now s.args.w.now table.new.w table.ensures

pub returns : goal.returns
returns c =
    let s = c in
    let corners = c.shared_slice_known-1 in
    let table = c.sort_sides in
    let kept = c.keep_open-k in
    let cleared = c.zero_part in
    opens s.args.facets.now s.args.w.now table.new.w kept.new.w cleared.new.w kept.result s.requires.0 s.requires.1
    (λ i. omega (arith, corners.given i)) table.ensures kept.ensures cleared.ensures
