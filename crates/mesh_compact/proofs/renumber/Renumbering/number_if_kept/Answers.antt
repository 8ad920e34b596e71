use Rattle.mesh_compact.proofs.Loop.{numbered}
use mathlib.Core.Path.{sym, ◌∙◌}
use Rattle.mesh_compact.proofs.renumber.Renumbering.number_if_kept.Goals as goal

pub returns-then-is_large : goal.returns-then-is_large
returns-then-is_large c =
    let s = c.args.self.now in
    numbered s.kept s.facets s.parts s.k s.at s.n s.least c.args.i c.args.w c.args.m.now c.requires.corners_bound
    (sym c.is_large.ensures ∙ c.if-is_large.true) c.number_facet.result c.number_facet.new.m c.number_facet.ensures
