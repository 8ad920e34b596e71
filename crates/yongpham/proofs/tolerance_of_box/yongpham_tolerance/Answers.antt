use mathlib.Core.Path.{sym}
use Rattle.yongpham.proofs.Reports.{tolerance_done, tolerance_refused}
use Rattle.input_tests.proofs.Ranges.{eps_is_number}
use Rattle.yongpham.proofs.tolerance_of_box.yongpham_tolerance.Goals as goal

pub float_to_bits-eps : goal.float_to_bits-eps
float_to_bits-eps c = eps_is_number _ (c.bbox_eps.ensures.admitted _ c.in-Ok.is)

pub returns-in-Ok : goal.returns-in-Ok
returns-in-Ok c = rw (sym c.box_of-extents.ensures) (tolerance_done _ _ _ _ _ c.bbox_eps.ensures c.in-Ok.is c.report_done.ensures)

pub returns-in-Err : goal.returns-in-Err
returns-in-Err c = rw (sym c.box_of-extents.ensures) (tolerance_refused _ _ _ _ _ c.bbox_eps.ensures c.in-Err.is c.report_refusal.ensures)
