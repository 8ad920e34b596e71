use mathlib.Core.Path.{sym, ap, ◌∙◌}
use Rattle.lists.proofs.Bools.{and_next, and_stop}
use Rattle.candidate_grids.specs.Steps.{skips_near}
use Rattle.candidate_grids.proofs.Entries.{cell_left, cell_in}
use Rattle.candidate_grids.proofs.grids.enter_grid_point.Goals.{else-inner-via-then-inner+else-is_skipped, else-inner-via-else-inner}
use Rattle.candidate_grids.proofs.grids.enter_grid_point.Goals as goal

pub returns-then-is_skipped : goal.returns-then-is_skipped
returns-then-is_skipped c =
    cell_left _ _ _ _ _ _ _ (and_next _ _ _ c.if-inner.true
    (sym (ap (skips_near c.args.w.now c.args.near)
    c.project.ensures) ∙ sym c.is_skipped.ensures ∙ c.if-is_skipped.true)) c.requires.holds

pub returns : goal.returns
returns c =
    cell_in _ _ _ _ _ _ _ (elim c.else-inner.branch [
      | else-inner-via-then-inner+else-is_skipped w ↦ and_next _ _ _ w.if-inner.true
          (sym (ap (skips_near c.args.w.now c.args.near) w.project.ensures) ∙ sym w.is_skipped.ensures ∙ w.if-is_skipped.false)
      | else-inner-via-else-inner w ↦ and_stop _ _ w.if-inner.false
    ]) _ c.insert_grid_point.ensures
