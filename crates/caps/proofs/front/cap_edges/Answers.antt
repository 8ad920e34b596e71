use Rattle.std.proofs.lemmas.Result.{err_from_is_err_and}
use Rattle.caps.specs.Steps.{closed_mesh}
use Rattle.caps.proofs.Ordering.{no_ends_left, ends_left, tests_are, closed_is, no_ends, ends_refused, ends_closed}
use Rattle.caps.proofs.Fitting.{closable}
use Rattle.caps.proofs.Listing.{pooled, supplied}
use Rattle.candidate_surface.proofs.Completing.{fits_same, Entered, entered}
use Rattle.candidate_surface.proofs.Fitting.{vertices_in, most_small}
use Rattle.refusals.specs.Refusals.{first_refusal}
use native.Mathlib.Omega.{arith}
use mathlib.Core.Path.{sym, ap, ◌∙◌}
use Rattle.caps.proofs.front.cap_edges.Goals.{After-enter_surface-listed}
use Rattle.caps.proofs.front.cap_edges.Goals as goal

-- the open edges' ends, of the box that is asked
entered_in : (c : After-enter_surface-listed) → let a = c.args in
    Entered a.mesh.vertices.now a.mesh.facets.now a.asked.extents a.asked.eps a.n a.k c.enter_surface-listed.result c.enter_surface-listed.new.w
entered_in c = entered c.args.mesh.vertices.now c.args.mesh.facets.now c.args.asked _ c.args.n c.args.k _ _ c.clip.ensures c.enter_surface-listed.ensures

pub enter_surface-listed-requires : goal.enter_surface-listed-requires
enter_surface-listed-requires c =
    let a = c.args in record {
      mesh_fits = c.requires.mesh_fits.0;
      tabled = c.requires.tabled;
      vertices_in = vertices_in a.mesh.vertices.now a.mesh.facets.now a.asked
          c.requires.sound;
    }

pub deliver_mesh-requires : goal.deliver_mesh-requires
deliver_mesh-requires c = (
  c.requires.sound.lists.whole_vertices,
  c.requires.sound.lists.whole_facets,
)

pub returns-then-listed-eq0 : goal.returns-then-listed-eq0
returns-then-listed-eq0 c =
    let a = c.args in
    no_ends a.mesh.vertices.now a.mesh.facets.now a.cap_list.now a.asked a.mode a.out_vertices.now _ a.out_facets.now _ _
    (no_ends_left a.mesh.vertices.now a.mesh.facets.now a.cap_list.now a.asked a.mode
    c.enter_surface-listed.result
    (entered_in (goal.at.returns-then-listed-eq0 c).After-enter_surface-listed).1
    c.if-listed-eq0.true) c.deliver_mesh.ensures

pub complete-requires : goal.complete-requires
complete-requires c =
    let a = c.args in record {
      sound = c.requires.sound;
      mesh_fits = (
        fits_same a.mesh.vertices.now a.mesh.facets.now a.n a.w.now c.enter_surface-listed.new.w
            c.enter_surface-listed.auto.w
            c.requires.mesh_fits.0,
        c.requires.mesh_fits.1,
        c.requires.tabled.table.within,
      );
      surfaced = (entered_in (goal.at.complete-requires c).After-enter_surface-listed).0;
    }

pub check_caps-requires : goal.check_caps-requires
check_caps-requires c =
    let a = c.args in record {
      supplied = supplied a.asked.eps a.mesh.vertices.now a.mesh.facets.now a.cap_list.now a.n a.w.now c.complete.new.w
          (let q = most_small a.mesh.vertices.now a.mesh.facets.now a.asked
          c.requires.sound in omega
          (arith, c.requires.mesh_fits.1, q))
          c.requires.sound.lists.few_facets
          c.requires.listable
          (c.complete.auto.w ∙ c.enter_surface-listed.auto.w)
          c.complete.ensures.holds;
      edges_held = (
        c.complete.ensures.held,
        (let t = c.requires.tabled.table.within in let
            u = c.requires.mesh_fits.0.threes in omega
            (arith, t, u)),
      );
    }

pub close_mesh-requires : goal.close_mesh-requires
close_mesh-requires c =
    let a = c.args in
    closable a.mesh.vertices.now a.mesh.facets.now a.cap_list.now a.asked a.n a.k
    c.enter_surface-listed.new.w
    c.complete.new.w
    c.check_caps.new.w _
    c.requires.sound (entered_in (goal.at.close_mesh-requires c).After-enter_surface-listed).0 c.complete.ensures
    c.check_caps.ensures c.in_ok-check_caps.was

pub returns : goal.returns
returns c =
    let a = c.args in
    ends_closed a.mesh.vertices.now a.mesh.facets.now a.cap_list.now a.asked a.mode a.out_vertices.now _ a.out_facets.now _ _
    (ends_left a.mesh.vertices.now a.mesh.facets.now a.cap_list.now a.asked a.mode
    c.enter_surface-listed.result (entered_in (goal.at.returns c).After-enter_surface-listed).1
    (omega arith)) (ap first_refusal (sym (tests_are a.mesh.vertices.now a.mesh.facets.now a.cap_list.now a.asked a.mode a.n a.k
    c.complete.new.w c.complete.ensures)) ∙ sym c.check_caps.ensures.found ∙ c.in_ok-check_caps.was)
    (closed_mesh a.mesh.vertices.now a.mesh.facets.now a.cap_list.now a.n a.k
    c.is_positive.result
    c.check_caps.new.w)
    (closed_is a.mesh.vertices.now a.mesh.facets.now a.cap_list.now a.asked a.mode a.n a.k
    c.complete.new.w c.complete.ensures c.check_caps.new.w
    (pooled a.asked.eps a.n c.complete.new.w c.complete.ensures.holds) (let t = c.requires.tabled.table.within in
    let u = c.requires.mesh_fits.0.threes in omega (arith, t, u))
    (c.check_caps.ensures.above
    c.in_ok-check_caps.was)
    c.is_positive.result
    c.is_positive.ensures) c.close_mesh.ensures

pub returns-in_err-check_caps : goal.returns-in_err-check_caps
returns-in_err-check_caps c =
    let a = c.args in
    let p = err_from_is_err_and c.from_residual.result c.from_residual.ensures.1 in
    rw (p.1, p.2)
    (ends_refused a.mesh.vertices.now a.mesh.facets.now a.cap_list.now a.asked a.mode a.out_vertices.now a.out_facets.now _
    (ends_left a.mesh.vertices.now a.mesh.facets.now a.cap_list.now a.asked a.mode
    c.enter_surface-listed.result
    (entered_in (goal.at.returns-in_err-check_caps c).After-enter_surface-listed).1
    (omega arith))
    (ap first_refusal (sym (tests_are a.mesh.vertices.now a.mesh.facets.now a.cap_list.now a.asked a.mode a.n a.k
    c.complete.new.w
    c.complete.ensures)) ∙ sym c.check_caps.ensures.found ∙
    c.in_err-check_caps.was))
