use mathlib.Core.Path.{refl, sym, ◌∙◌, subst}
use Rattle.input_tests.specs.Cutting.{IsCut}
use Rattle.input_tests.proofs.Grids.{few_some, few_none, over_x, over_y, over_z, over_none}
use Rattle.input_tests.proofs.grid.Grid.cut.Goals as goal

pub returns-in_err-x : goal.returns-in_err-x
returns-in_err-x c = subst (IsCut c.args.self) (sym c.from_residual.ensures) (over_x _ _ _ (few_none _ (sym c.in_err-x.was ∙ c.axis_cut.ensures)))

pub returns-in_err-y : goal.returns-in_err-y
returns-in_err-y c =
    subst (IsCut c.args.self) (sym c.from_residual-in_err-y.ensures)
    (over_y _ _ _ (few_some _ _ (sym c.in_ok-x.was ∙ c.axis_cut.ensures)).1 (few_none _ (sym c.in_err-y.was ∙ c.axis_cut-2.ensures)))

pub returns-in_err-z : goal.returns-in_err-z
returns-in_err-z c =
    subst (IsCut c.args.self) (sym c.from_residual-in_err-z.ensures)
    (over_z _ _ _ (few_some _ _ (sym c.in_ok-x.was ∙ c.axis_cut.ensures)).1 (few_some _ _ (sym c.in_ok-y.was ∙ c.axis_cut-2.ensures)).1
    (few_none _ (sym c.in_err-z.was ∙ c.axis_cut-3.ensures)))

pub returns : goal.returns
returns c = (
  refl,
  over_none _ _ _ (few_some _ _ (sym c.in_ok-x.was ∙ c.axis_cut.ensures)).1 (few_some _ _ (sym c.in_ok-y.was ∙ c.axis_cut-2.ensures)).1
      (few_some _ _ (sym c.in_ok-z.was ∙ c.axis_cut-3.ensures)).1,
)
