use mathlib.Core.Path.{refl, ◌∙◌}
use Rattle.candidate_surface.proofs.Fitting.{cut_some, cut_grid, fine_of}
use Rattle.candidate_surface.proofs.asked.Asked.cuts.Goals as goal

pub unwrap-requires : goal.unwrap-requires
unwrap-requires c = cut_some _ _ c.cut.ensures (fine_of c.args.self c.grid.result _ c.grid.ensures refl ∙ c.requires)

pub returns : goal.returns
returns c = cut_grid _ _ _ c.cut.ensures c.unwrap.ensures ∙ c.grid.ensures
