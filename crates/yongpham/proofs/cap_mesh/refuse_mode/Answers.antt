use Rattle.yongpham.proofs.Reports.{no_mode_passed, no_mode_refused}
use Rattle.yongpham.proofs.cap_mesh.refuse_mode.Goals as goal

pub returns-in-Ok : goal.returns-in-Ok
returns-in-Ok c =
    let a = c.args in
    no_mode_passed a.ceiling a.mesh.vertices.now a.mesh.facets.now a.caps _ _ _ c.check_lists.ensures c.in-Ok.is
    c.report_refusal.ensures

pub returns-in-Err : goal.returns-in-Err
returns-in-Err c =
    let a = c.args in
    no_mode_refused a.ceiling a.mesh.vertices.now a.mesh.facets.now a.caps _ _ _ _ c.check_lists.ensures
    c.in-Err.is c.report_refusal-in-Err.ensures
