use mathlib.Core.Path.{◌≡◌, sym, ap, ◌∙◌}
use mathlib.Core.Bool.{true, false, not}
use Rattle.std.proofs.lemmas.Result.{err_from_is_err_and}
use Rattle.geometry.specs.Axes.{grid_size}
use Rattle.input_tests.specs.Front.{limits, grid_too_fine}
use Rattle.candidate_surface.specs.Asked.{one_resolution}
use Rattle.candidate_surface.proofs.Fitting.{size_of, fine_of}
use Rattle.closure_tests.proofs.Checking.{need_small, lists_refused, number_refused, box_refused, grid_refused, room_refused, all_passed_lem}
use Rattle.closure_tests.proofs.tests.check_closure.Goals.{After-size-points}
use Rattle.closure_tests.proofs.tests.check_closure.Goals as goal

-- the test of the grid and the number of its points, of what is asked
fine_here : (c : After-size-points) → grid_too_fine c.args.asked.extents c.args.asked.eps (one_resolution c.args.asked.resolution) ≡ false
fine_here c = sym (fine_of c.args.asked c.grid.result false c.grid.ensures (sym c.in-Some.ensures.1))

points_here : (c : After-size-points) → c.size-points.result ≡ grid_size c.args.asked.extents c.args.asked.eps (one_resolution c.args.asked.resolution)
points_here c = size_of c.args.asked c.in-Some.cuts.grid _ (c.in-Some.ensures.0 ∙ c.grid.ensures) c.size-points.ensures

pub returns-in_err-check_lists : goal.returns-in_err-check_lists
returns-in_err-check_lists c =
    let a = c.args in
    let p = err_from_is_err_and c.from_residual.result c.from_residual.ensures.1 in
    rw (p.1, p.2) (lists_refused a.mesh.vertices.now a.mesh.facets.now a.asked a.caps (limits a.ceiling a.lent) _
    (sym c.check_lists.ensures ∙ c.in_err-check_lists.was))

pub returns-then-not-numbers_in_range : goal.returns-then-not-numbers_in_range
returns-then-not-numbers_in_range c =
    let a = c.args in
    number_refused a.mesh.vertices.now a.mesh.facets.now a.asked a.caps (limits a.ceiling a.lent)
    (sym c.check_lists.ensures ∙ c.in_ok-check_lists.was)
    (ap not (sym c.numbers_in_range.ensures ∙ c.if-not-numbers_in_range.true))

pub returns-then-is_bad_box : goal.returns-then-is_bad_box
returns-then-is_bad_box c =
    let a = c.args in
    box_refused a.mesh.vertices.now a.mesh.facets.now a.asked a.caps (limits a.ceiling a.lent)
    (sym c.check_lists.ensures ∙ c.in_ok-check_lists.was)
    (ap not (sym c.numbers_in_range.ensures ∙ c.if-not-numbers_in_range.false)) (sym c.is_bad_box.ensures ∙ c.if-is_bad_box.true)

pub returns-in_default : goal.returns-in_default
returns-in_default c =
    let a = c.args in
    grid_refused a.mesh.vertices.now a.mesh.facets.now a.asked a.caps (limits a.ceiling a.lent)
    (sym c.check_lists.ensures ∙ c.in_ok-check_lists.was)
    (ap not (sym c.numbers_in_range.ensures ∙ c.if-not-numbers_in_range.false))
    (sym c.is_bad_box.ensures ∙ c.if-is_bad_box.false) (sym (fine_of a.asked c.grid.result true c.grid.ensures (sym c.in_default.ensures)))

pub work_need-need-requires : goal.work_need-need-requires
work_need-need-requires c =
    let a = c.args in
    need_small a.mesh.vertices.now a.mesh.facets.now a.asked a.ceiling a.caps _
    (sym c.check_lists.ensures ∙ c.in_ok-check_lists.was) (fine_here (goal.at.work_need-need-requires c).After-size-points) (points_here (goal.at.work_need-need-requires c).After-size-points)

pub returns-then-lent-need : goal.returns-then-lent-need
returns-then-lent-need c =
    let a = c.args in
    room_refused a.mesh.vertices.now a.mesh.facets.now a.asked a.caps (limits a.ceiling a.lent)
    (sym c.check_lists.ensures ∙ c.in_ok-check_lists.was) (ap not (sym c.numbers_in_range.ensures ∙ c.if-not-numbers_in_range.false))
    (sym c.is_bad_box.ensures ∙ c.if-is_bad_box.false)
    (fine_here (goal.at.returns-then-lent-need c).After-size-points) _ (points_here (goal.at.returns-then-lent-need c).After-size-points) _
    c.work_need-need.ensures c.if-lent-need.true

pub returns : goal.returns
returns c =
    let a = c.args in
    all_passed_lem a.mesh.vertices.now a.mesh.facets.now a.asked a.caps (limits a.ceiling a.lent)
    (sym c.check_lists.ensures ∙ c.in_ok-check_lists.was) (ap not (sym c.numbers_in_range.ensures ∙ c.if-not-numbers_in_range.false))
    (sym c.is_bad_box.ensures ∙ c.if-is_bad_box.false)
    (fine_here (goal.at.returns c).After-size-points) _ (points_here (goal.at.returns c).After-size-points) _
    c.work_need-need.ensures c.if-lent-need.false
