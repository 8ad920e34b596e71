use Rattle.std.proofs.lemmas.Result.{err_from_is_err_and}
use Rattle.caps.proofs.Ordering.{front_refused, handed_back, gone_on, over_open, over_none, over_neither}
use Rattle.caps.proofs.Fitting.{listable}
use Rattle.closure_tests.proofs.Checking.{sound}
use Rattle.closure_tests.specs.Tests.{closure_tests}
use lib.ListN.{length}
use mathlib.Core.Path.{sym, ◌∙◌}
use Rattle.input_tests.specs.Front.{limits}
use Rattle.caps.proofs.front.caps_lent.Goals as goal

pub deliver_mesh-requires : goal.deliver_mesh-requires
deliver_mesh-requires c =
    let a = c.args in
    let s = sound a.mesh.vertices.now a.mesh.facets.now a.asked (length a.cap_list.now) (limits a.ceiling (length a.work.now))
    (sym c.check_closure.ensures ∙ c.in_ok-check_closure.was) in
    (s.lists.whole_vertices, s.lists.whole_facets)

pub returns-then-leaves_open : goal.returns-then-leaves_open
returns-then-leaves_open c =
    let a = c.args in
    handed_back a.mesh.vertices.now a.mesh.facets.now a.cap_list.now a.asked a.mode a.out_vertices.now _ a.out_facets.now _ _
    (closure_tests a.mesh.vertices.now a.mesh.facets.now a.asked (length a.cap_list.now) (limits a.ceiling (length a.work.now)))
    (sym c.check_closure.ensures ∙ c.in_ok-check_closure.was) (over_open a.mesh.vertices.now a.mesh.facets.now a.cap_list.now a.asked a.mode
    (sym c.leaves_open.ensures ∙ c.if-leaves_open.true))
    c.deliver_mesh.ensures

pub deliver_mesh-requires-then-mesh-eq0 : goal.deliver_mesh-requires-then-mesh-eq0
deliver_mesh-requires-then-mesh-eq0 c =
    let a = c.args in
    let s = sound a.mesh.vertices.now a.mesh.facets.now a.asked (length a.cap_list.now) (limits a.ceiling (length a.work.now))
    (sym c.check_closure.ensures ∙ c.in_ok-check_closure.was) in
    (s.lists.whole_vertices, s.lists.whole_facets)

pub returns-then-mesh-eq0 : goal.returns-then-mesh-eq0
returns-then-mesh-eq0 c =
    let a = c.args in
    handed_back a.mesh.vertices.now a.mesh.facets.now a.cap_list.now a.asked a.mode a.out_vertices.now _ a.out_facets.now _ _
    (closure_tests a.mesh.vertices.now a.mesh.facets.now a.asked (length a.cap_list.now) (limits a.ceiling (length a.work.now)))
    (sym c.check_closure.ensures ∙ c.in_ok-check_closure.was) (over_none a.mesh.vertices.now a.mesh.facets.now a.cap_list.now a.asked
    a.mode (sym c.leaves_open.ensures ∙ c.if-leaves_open.false) c.if-mesh-eq0.true) c.deliver_mesh-then-mesh-eq0.ensures

pub make_caps-requires : goal.make_caps-requires
make_caps-requires c =
    let a = c.args in record {
      sound = sound a.mesh.vertices.now a.mesh.facets.now a.asked (length a.cap_list.now) (limits a.ceiling (length a.work.now))
          (sym c.check_closure.ensures ∙ c.in_ok-check_closure.was);
      listable = listable a.mesh.vertices.now a.mesh.facets.now a.cap_list.now a.asked a.ceiling a.work.now
          (sym c.check_closure.ensures ∙ c.in_ok-check_closure.was);
    }

pub returns : goal.returns
returns c =
    let a = c.args in
    gone_on a.mesh.vertices.now a.mesh.facets.now a.cap_list.now a.asked a.mode a.out_vertices.now _ a.out_facets.now _ _
    (closure_tests a.mesh.vertices.now a.mesh.facets.now a.asked (length a.cap_list.now) (limits a.ceiling (length a.work.now)))
    (sym c.check_closure.ensures ∙ c.in_ok-check_closure.was)
    (over_neither a.mesh.vertices.now a.mesh.facets.now a.cap_list.now a.asked a.mode
    (sym c.leaves_open.ensures ∙ c.if-leaves_open.false) c.if-mesh-eq0.false)
    c.make_caps.ensures

pub returns-in_err-check_closure : goal.returns-in_err-check_closure
returns-in_err-check_closure c =
    let a = c.args in
    let p = err_from_is_err_and c.from_residual.result c.from_residual.ensures.1 in
    rw (p.1, p.2)
    (front_refused a.mesh.vertices.now a.mesh.facets.now a.cap_list.now a.asked a.mode a.out_vertices.now a.out_facets.now _
    (closure_tests a.mesh.vertices.now a.mesh.facets.now a.asked (length a.cap_list.now) (limits a.ceiling (length a.work.now)))
    (sym c.check_closure.ensures ∙ c.in_err-check_closure.was))
