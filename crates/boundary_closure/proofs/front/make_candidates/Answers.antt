use mathlib.Core.Path.{refl, sym, ◌∙◌}
use Rattle.std.proofs.lemmas.Result.{err_from_is_err_and}
use Rattle.boundary_closure.specs.Steps.{surface_result}
use Rattle.refusals.proofs.Answers.{refused, behind}
use Rattle.closure_tests.specs.Tests.{edge_tests}
use Rattle.candidate_outputs.specs.Outputs.{candidate_outputs}
use Rattle.candidate_surface.proofs.Fitting.{mesh_fits}
use Rattle.candidate_surface.proofs.Completing.{fits_same}
use Rattle.boundary_closure.proofs.front.make_candidates.Goals as goal

pub table_edges-k-requires : goal.table_edges-k-requires
table_edges-k-requires c =
    let a = c.args in
    let m = (mesh_fits a.mesh.vertices.now a.mesh.facets.now a.asked
    c.requires.sound c.most_candidates-n.result a.w.now c.most_candidates-n.ensures
    c.requires.facets_in_bounds) in record { facets_len = m.threes; n_bound = (m.small, m.few); facets_in_bounds = m.size }

pub check_edges-requires : goal.check_edges-requires
check_edges-requires c =
    let a = c.args in record {
      mesh_fits = (fits_same a.mesh.vertices.now a.mesh.facets.now c.most_candidates-n.result a.w.now
          c.table_edges-k.new.w c.table_edges-k.auto.w
          (mesh_fits a.mesh.vertices.now a.mesh.facets.now a.asked
          c.requires.sound
          c.most_candidates-n.result a.w.now c.most_candidates-n.ensures
          c.requires.facets_in_bounds));
      tabled = c.table_edges-k.ensures;
    }

pub list_candidates-requires : goal.list_candidates-requires
list_candidates-requires c =
    let a = c.args in record {
      sound = c.requires.sound;
      mesh_fits = (
        (fits_same a.mesh.vertices.now a.mesh.facets.now c.most_candidates-n.result a.w.now c.table_edges-k.new.w
            c.table_edges-k.auto.w
            (mesh_fits a.mesh.vertices.now a.mesh.facets.now a.asked
            c.requires.sound c.most_candidates-n.result a.w.now
            c.most_candidates-n.ensures
            c.requires.facets_in_bounds)),
        c.most_candidates-n.ensures,
      );
      tabled = c.table_edges-k.ensures;
    }

pub returns : goal.returns
returns c =
    let a = c.args in
    behind (edge_tests a.mesh.vertices.now a.mesh.facets.now a.asked) _ _ (sym c.check_edges.ensures ∙ c.in_ok-check_edges.was)
    c.list_candidates.ensures

pub returns-in_err-check_edges : goal.returns-in_err-check_edges
returns-in_err-check_edges c =
    let a = c.args in
    let p = err_from_is_err_and c.from_residual.result c.from_residual.ensures.1 in
    rw (p.1, p.2)
    (refused (edge_tests a.mesh.vertices.now a.mesh.facets.now a.asked)
    (candidate_outputs (surface_result a.mesh.vertices.now a.mesh.facets.now a.asked) a.candidates.now a.candidates.now
    a.face_lists.now a.face_lists.now a.constraints.now a.constraints.now a.open_edges.now a.open_edges.now) _
    (sym c.check_edges.ensures ∙ c.in_err-check_edges.was) (refl, (refl, (refl, (refl, tt)))))
