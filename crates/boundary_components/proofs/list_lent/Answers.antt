use Rattle.std.proofs.lemmas.Result.{err_from_is_err_and}
use lib.ListN.{length}
use Rattle.geometry.specs.Triangles.{threes}
use Rattle.refusals.proofs.Answers.{refused, behind}
use Rattle.input_tests.specs.Front.{limits}
use Rattle.boundary_components.specs.Boundary.{boundary_tests, boundary_outputs}
use Rattle.boundary_components.proofs.Checking.{passed}
use mathlib.Core.Path.{refl, sym, ◌∙◌}
use Rattle.boundary_components.proofs.list_lent.Goals as goal

pub list_checked-requires : goal.list_checked-requires
list_checked-requires c =
    let a = c.args in
    passed a.vertices a.facets.now (limits a.ceiling (length a.work.now)) (sym c.check.ensures ∙ c.in_ok-check.was)

pub returns : goal.returns
returns c =
    let a = c.args in
    behind (boundary_tests a.vertices a.facets.now (limits a.ceiling (length a.work.now))) _ _ (sym c.check.ensures ∙ c.in_ok-check.was) c.list_checked.ensures

pub returns-in_err-check : goal.returns-in_err-check
returns-in_err-check c =
    let a = c.args in
    let p = err_from_is_err_and c.from_residual.result c.from_residual.ensures.1 in
    rw (p.1, p.2)
    (refused (boundary_tests a.vertices a.facets.now (limits a.ceiling (length a.work.now)))
    (boundary_outputs (threes a.facets.now) a.out_edges.now a.out_edges.now a.out_components.now a.out_components.now a.out_irregular.now
    a.out_irregular.now) _ (sym c.check.ensures ∙ c.in_err-check.was) (refl, (refl, (refl, tt))))
