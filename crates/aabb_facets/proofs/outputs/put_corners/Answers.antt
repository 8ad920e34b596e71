use Rattle.std.proofs.Common.{arith}
use mathlib.Core.Path.{refl, sym, ◌∙◌}
use Rattle.aabb_facets.proofs.OutputLists.{corners_more, corners_end}
use Rattle.aabb_facets.proofs.outputs.put_corners.Goals as goal

pub loop-j-preserved : goal.loop-j-preserved
loop-j-preserved c =
    let l = c.loop-j in
    let put = c.push_vertex in
    corners_more l.out put.new.out c.args.corners.now c.args.base.0 l.j _ _ c.loop-j-test.true refl put.ensures ∙ l.invariant

pub returns : goal.returns
returns c = let l = c.loop-j in sym (corners_end l.out _ c.args.corners.now l.j (omega arith)) ∙ l.invariant
