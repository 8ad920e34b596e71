use Rattle.refusals.proofs.Answers.{called}
use Rattle.yongpham.proofs.boundary.yongpham_boundary_components.Goals as goal

pub returns : goal.returns
returns c = called _ _ _ _ _ _ _ c.boundary_components-reply.ensures c.report_reply.ensures
