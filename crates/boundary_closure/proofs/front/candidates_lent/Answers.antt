use mathlib.Core.Path.{sym, ◌∙◌}
use lib.ListN.{length}
use Rattle.std.proofs.lemmas.Result.{err_from_is_err_and}
use Rattle.closure_tests.specs.Tests.{closure_tests}
use Rattle.input_tests.specs.Front.{limits}
use Rattle.boundary_closure.proofs.Delivery.{refused_before, no_facet_lem, some_facet}
use Rattle.candidate_surface.proofs.Fitting.{room_for}
use Rattle.closure_tests.proofs.Checking.{sound, room_passed}
use Rattle.boundary_closure.proofs.front.candidates_lent.Goals as goal

pub returns-then-is_empty : goal.returns-then-is_empty
returns-then-is_empty c =
    let a = c.args in
    no_facet_lem a.mesh.vertices.now a.mesh.facets.now a.asked a.candidates.now a.face_lists.now a.constraints.now a.open_edges.now
    (closure_tests a.mesh.vertices.now a.mesh.facets.now a.asked 0 (limits a.ceiling (length a.work.now)))
    (sym c.check_closure.ensures ∙ c.in_ok-check_closure.was) (sym c.is_empty.ensures ∙ c.if-is_empty.true)

pub make_candidates-requires : goal.make_candidates-requires
make_candidates-requires c =
    let a = c.args in
    let s = sound a.mesh.vertices.now a.mesh.facets.now a.asked 0 (limits a.ceiling (length a.work.now))
    (sym c.check_closure.ensures ∙ c.in_ok-check_closure.was) in record {
      sound = s;
      facets_in_bounds = room_for a.mesh.vertices.now a.mesh.facets.now a.asked s 0 (length a.work.now)
          (room_passed a.mesh.vertices.now a.mesh.facets.now a.asked 0 (limits a.ceiling (length a.work.now))
          (sym c.check_closure.ensures ∙ c.in_ok-check_closure.was));
    }

pub returns : goal.returns
returns c =
    let a = c.args in
    some_facet a.mesh.vertices.now a.mesh.facets.now a.asked a.candidates.now _ a.face_lists.now _ a.constraints.now _
    a.open_edges.now _ (closure_tests a.mesh.vertices.now a.mesh.facets.now a.asked 0 (limits a.ceiling (length a.work.now)))
    (sym c.check_closure.ensures ∙ c.in_ok-check_closure.was)
    (sym c.is_empty.ensures ∙ c.if-is_empty.false) _
    c.make_candidates.ensures

pub returns-in_err-check_closure : goal.returns-in_err-check_closure
returns-in_err-check_closure c =
    let a = c.args in
    let p = err_from_is_err_and c.from_residual.result c.from_residual.ensures.1 in
    rw (p.1, p.2)
    (refused_before a.mesh.vertices.now a.mesh.facets.now a.asked a.candidates.now a.face_lists.now a.constraints.now
    a.open_edges.now (closure_tests a.mesh.vertices.now a.mesh.facets.now a.asked 0 (limits a.ceiling (length a.work.now))) _
    (sym c.check_closure.ensures ∙ c.in_err-check_closure.was))
