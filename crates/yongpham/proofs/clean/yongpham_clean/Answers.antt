use Rattle.refusals.proofs.Answers.{called}
use Rattle.yongpham.proofs.clean.yongpham_clean.Goals as goal

pub returns : goal.returns
returns c = record {
  answered = called _ _ _ _ _ _ _ c.clean_mesh-reply.ensures.answered c.report_reply.ensures;
  rule = c.clean_mesh-reply.ensures.rule;
}
