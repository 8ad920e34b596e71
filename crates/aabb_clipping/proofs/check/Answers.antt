use native.Mathlib.Omega.{arith}
use mathlib.Core.Bool.{not}
use mathlib.Core.Path.{sym, ap, ◌∙◌}
use Rattle.std.proofs.lemmas.Result.{err_from_is_err_and}
use Rattle.lists.proofs.Bools.{and_next, and_stop}
use Rattle.input_tests.specs.Front.{limits}
use Rattle.input_tests.proofs.Lists.{listed}
use Rattle.aabb_clipping.proofs.Delivery.{numbers_fine, lists_refused, number_refused, box_refused, room_refused, all_passed_lem}
use Rattle.aabb_clipping.proofs.check.Goals as goal
use Rattle.aabb_clipping.proofs.check.Goals.{
  then-not-all_in_range-via-then-not-all_in_range,
  then-not-all_in_range-via-else-not-all_in_range+then-not-box_in_range,
  then-not-all_in_range-via-else-not-all_in_range+else-not-box_in_range+then-not-eps_in_range,
}

pub returns-in_err-check_lists : goal.returns-in_err-check_lists
returns-in_err-check_lists c =
    let a = c.args in
    let p = err_from_is_err_and c.from_residual.result c.from_residual.ensures.1 in
    rw (p.1, p.2)
    (lists_refused a.mesh.vertices.now a.mesh.facets.now a.clip (limits a.ceiling a.lent) _ (sym c.check_lists.ensures ∙ c.in_err-check_lists.was))

pub returns-then-not-all_in_range : goal.returns-then-not-all_in_range
returns-then-not-all_in_range c =
    let a = c.args in
    number_refused a.mesh.vertices.now a.mesh.facets.now a.clip (limits a.ceiling a.lent) (sym c.check_lists.ensures ∙ c.in_ok-check_lists.was)
    (elim c.then-not-all_in_range.branch [
      | then-not-all_in_range-via-then-not-all_in_range w ↦ ap not (and_stop _ _ (sym c.all_in_range.ensures ∙ w.if-not-all_in_range.true))
      | then-not-all_in_range-via-else-not-all_in_range+then-not-box_in_range w ↦
          ap not (and_next _ _ _ (sym c.all_in_range.ensures ∙ w.if-not-all_in_range.false) (and_stop _ _ (sym w.box_in_range.ensures ∙ w.if-not-box_in_range.true)))
      | then-not-all_in_range-via-else-not-all_in_range+else-not-box_in_range+then-not-eps_in_range w ↦
          ap not (and_next _ _ _ (sym c.all_in_range.ensures ∙ w.if-not-all_in_range.false)
          (and_next _ _ _ (sym w.box_in_range.ensures ∙ w.if-not-box_in_range.false) (sym w.eps_in_range.ensures ∙ w.if-not-eps_in_range.true)))
    ])

pub returns-then-is_bad_box : goal.returns-then-is_bad_box
returns-then-is_bad_box c =
    let a = c.args in
    let fine = numbers_fine _ _ _ _ _ _ c.all_in_range.ensures c.box_in_range.ensures c.eps_in_range.ensures c.if-not-all_in_range.false c.if-not-box_in_range.false
    c.if-not-eps_in_range.false in
    box_refused a.mesh.vertices.now a.mesh.facets.now a.clip (limits a.ceiling a.lent) (sym c.check_lists.ensures ∙ c.in_ok-check_lists.was) fine
    (sym c.is_bad_box.ensures ∙ c.if-is_bad_box.true)

pub work_need-need-requires : goal.work_need-need-requires
work_need-need-requires c =
    let l = listed _ c.args.mesh.vertices.now c.args.mesh.facets.now _ (sym c.check_lists.ensures ∙ c.in_ok-check_lists.was) in
    omega (arith, l.few_vertices, l.few_facets)

pub returns-then-lent-need : goal.returns-then-lent-need
returns-then-lent-need c =
    let a = c.args in
    let fine = numbers_fine _ _ _ _ _ _ c.all_in_range.ensures c.box_in_range.ensures c.eps_in_range.ensures c.if-not-all_in_range.false c.if-not-box_in_range.false
    c.if-not-eps_in_range.false in
    room_refused a.mesh.vertices.now a.mesh.facets.now a.clip (limits a.ceiling a.lent) (sym c.check_lists.ensures ∙ c.in_ok-check_lists.was) fine
    (sym c.is_bad_box.ensures ∙ c.if-is_bad_box.false) _ c.work_need-need.ensures c.if-lent-need.true

pub returns : goal.returns
returns c =
    let a = c.args in
    let fine = numbers_fine _ _ _ _ _ _ c.all_in_range.ensures c.box_in_range.ensures c.eps_in_range.ensures c.if-not-all_in_range.false c.if-not-box_in_range.false
    c.if-not-eps_in_range.false in
    all_passed_lem a.mesh.vertices.now a.mesh.facets.now a.clip (limits a.ceiling a.lent) (sym c.check_lists.ensures ∙ c.in_ok-check_lists.was) fine
    (sym c.is_bad_box.ensures ∙ c.if-is_bad_box.false) _ c.work_need-need.ensures c.if-lent-need.false
