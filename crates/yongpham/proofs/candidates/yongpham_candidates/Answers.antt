use mathlib.Core.Path.{sym}
use Rattle.refusals.proofs.Answers.{called}
use Rattle.yongpham.proofs.candidates.yongpham_candidates.Goals as goal

pub returns : goal.returns
returns c =
    rw (sym c.box_of-extents.ensures) (called _ _ _ _ _ _ _ c.cap_candidates-reply.ensures c.report_reply.ensures)
