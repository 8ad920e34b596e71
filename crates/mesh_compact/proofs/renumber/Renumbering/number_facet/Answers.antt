use Rattle.mesh_compact.proofs.Loop.{corner_low, facet_more}
use mathlib.Core.Path.{◌∙◌}
use Rattle.mesh_compact.proofs.renumber.Renumbering.number_facet.Goals as goal

pub number_corner-w-requires-clause-v_lt_n : goal.number_corner-w-requires-clause-v_lt_n
number_corner-w-requires-clause-v_lt_n c =
    let s = c.args.self.now in
    let l = c.loop-j in
    let R = c.requires.room in
    let low = corner_low s.kept s.facets s.parts s.k s.at s.n c.args.m.now l.m R c.args.i l.j c.requires.i_lt_k c.loop-j-test.true c.args.w l.w l.invariant.0
    c.vertex_in-v.result.0 c.vertex_in-v.ensures in
    (low, R.kept_in)

pub loop-j-preserved : goal.loop-j-preserved
loop-j-preserved c =
    let s = c.args.self.now in
    let l = c.loop-j in (
      facet_more s.kept s.facets s.parts s.k s.at s.n c.args.m.now l.m c.requires.room c.args.i l.j c.requires.i_lt_k c.loop-j-test.true c.args.w l.w l.invariant.0
          c.vertex_in-v.result.0 c.vertex_in-v.ensures c.number_corner-w.result c.number_corner-w.new.m c.number_corner-w.ensures,
      c.number_corner-w.auto.m ∙ l.invariant.1,
    )
