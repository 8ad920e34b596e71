use Rattle.mesh_cleanup.proofs.Delivery.{lists_refused, number_refused, room_refused, key_refused, all_passed_lem}
use Rattle.mesh_cleanup.specs.Clean.{clean_asked}
use Rattle.input_tests.specs.Front.{limits}
use Rattle.input_tests.proofs.Lists.{listed}
use Rattle.lists.proofs.Bools.{and_next, and_stop}
use native.Mathlib.Omega.{arith}
use Rattle.std.proofs.lemmas.Result.{err_from_is_err_and}
use mathlib.Core.Bool.{not}
use mathlib.Core.Path.{sym, ap, ◌∙◌}
use Rattle.mesh_cleanup.proofs.Cleaning.check.Goals as goal
use Rattle.mesh_cleanup.proofs.Cleaning.check.Goals.{then-not-all_in_range-via-then-not-all_in_range, then-not-all_in_range-via-else-not-all_in_range+then-not-eps_in_range}

pub returns-in_err-check_lists : goal.returns-in_err-check_lists
returns-in_err-check_lists c =
    let a = c.args in
    let k = a.self.now in
    let p = err_from_is_err_and c.from_residual.result c.from_residual.ensures.1 in
    rw (p.1, p.2) (lists_refused k.mesh.vertices.now k.mesh.facets.now (clean_asked k.eps) (limits a.ceiling a.lent) _ (sym c.check_lists.ensures ∙ c.in_err-check_lists.was))

pub returns-then-not-all_in_range : goal.returns-then-not-all_in_range
returns-then-not-all_in_range c =
    let a = c.args in
    let k = a.self.now in
    number_refused k.mesh.vertices.now k.mesh.facets.now (clean_asked k.eps) (limits a.ceiling a.lent) (sym c.check_lists.ensures ∙ c.in_ok-check_lists.was)
    (elim c.then-not-all_in_range.branch [
      | then-not-all_in_range-via-then-not-all_in_range w ↦ ap not (and_stop _ _ (sym c.all_in_range.ensures ∙ w.if-not-all_in_range.true))
      | then-not-all_in_range-via-else-not-all_in_range+then-not-eps_in_range w ↦
          ap not (and_next _ _ _ (sym c.all_in_range.ensures ∙ w.if-not-all_in_range.false) (sym w.eps_in_range.ensures ∙ w.if-not-eps_in_range.true))
    ])

pub work_need-need-requires : goal.work_need-need-requires
work_need-need-requires c =
    let l = listed _ c.args.self.now.mesh.vertices.now c.args.self.now.mesh.facets.now _ (sym c.check_lists.ensures ∙ c.in_ok-check_lists.was) in
    omega (arith, l.few_vertices, l.few_facets)

pub returns-then-lent-need : goal.returns-then-lent-need
returns-then-lent-need c =
    let a = c.args in
    let k = a.self.now in
    room_refused k.mesh.vertices.now k.mesh.facets.now (clean_asked k.eps) (limits a.ceiling a.lent)
    (sym c.check_lists.ensures ∙ c.in_ok-check_lists.was)
    (ap not (and_next _ _ _ (sym c.all_in_range.ensures ∙ c.if-not-all_in_range.false)
    (sym c.eps_in_range.ensures ∙ c.if-not-eps_in_range.false))) _ c.work_need-need.ensures c.if-lent-need.true

pub returns-then-has_far_key : goal.returns-then-has_far_key
returns-then-has_far_key c =
    let a = c.args in
    let k = a.self.now in
    key_refused k.mesh.vertices.now k.mesh.facets.now (clean_asked k.eps) (limits a.ceiling a.lent)
    (sym c.check_lists.ensures ∙ c.in_ok-check_lists.was) (ap not (and_next _ _ _ (sym c.all_in_range.ensures ∙ c.if-not-all_in_range.false)
    (sym c.eps_in_range.ensures ∙ c.if-not-eps_in_range.false))) _
    c.work_need-need.ensures c.if-lent-need.false (sym c.has_far_key.ensures ∙ c.if-has_far_key.true)

pub returns : goal.returns
returns c =
    let a = c.args in
    let k = a.self.now in
    all_passed_lem k.mesh.vertices.now k.mesh.facets.now (clean_asked k.eps) (limits a.ceiling a.lent)
    (sym c.check_lists.ensures ∙ c.in_ok-check_lists.was) (ap not (and_next _ _ _ (sym c.all_in_range.ensures ∙ c.if-not-all_in_range.false)
    (sym c.eps_in_range.ensures ∙ c.if-not-eps_in_range.false))) _
    c.work_need-need.ensures c.if-lent-need.false (sym c.has_far_key.ensures ∙ c.if-has_far_key.false)
