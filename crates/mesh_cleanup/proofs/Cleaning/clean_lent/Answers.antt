use lib.ListN.{length}
use Rattle.mesh_cleanup.proofs.Delivery.{ready}
use Rattle.refusals.proofs.Answers.{refused, behind}
use Rattle.refusals.specs.Answers.{mesh_outputs}
use Rattle.input_tests.specs.Front.{limits}
use Rattle.mesh_cleanup.specs.Clean.{clean_asked, clean_tests, clean_result}
use Rattle.std.proofs.lemmas.Result.{err_from_is_err_and}
use mathlib.Core.Path.{refl, sym, ◌∙◌}
use Rattle.mesh_cleanup.proofs.Cleaning.clean_lent.Goals as goal

pub clean_checked-requires : goal.clean_checked-requires
clean_checked-requires c =
    let a = c.args in
    let k = a.self.now in
    ready k.mesh.vertices.now k.mesh.facets.now (clean_asked k.eps) (limits a.ceiling (length a.work.now)) (sym c.check.ensures ∙ c.in_ok-check.was)

pub returns : goal.returns
returns c =
    let a = c.args in
    let k = a.self.now in
    behind (clean_tests k.mesh.vertices.now k.mesh.facets.now (clean_asked k.eps) (limits a.ceiling (length a.work.now))) _ _
    (sym c.check.ensures ∙ c.in_ok-check.was) c.clean_checked.ensures

pub returns-in_err-check : goal.returns-in_err-check
returns-in_err-check c =
    let a = c.args in
    let k = a.self.now in
    let p = err_from_is_err_and c.from_residual.result c.from_residual.ensures.1 in
    rw (p.1, p.2)
    (refused (clean_tests k.mesh.vertices.now k.mesh.facets.now (clean_asked k.eps) (limits a.ceiling (length a.work.now)))
    (mesh_outputs (clean_result k.mesh.vertices.now k.mesh.facets.now (clean_asked k.eps)) a.out_vertices.now a.out_vertices.now a.out_facets.now a.out_facets.now) _
    (sym c.check.ensures ∙ c.in_err-check.was) (refl, (refl, tt)))
