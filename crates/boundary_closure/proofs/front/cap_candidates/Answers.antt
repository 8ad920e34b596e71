use Rattle.refusals.proofs.Answers.{answered}
use Rattle.boundary_closure.proofs.front.cap_candidates.Goals as goal

pub returns : goal.returns
returns c =
    let a = c.args in
    answered _ _ a.work.now c.candidates_lent-reply.new.work c.zero.new.w _ c.candidates_lent-reply.ensures c.candidates_lent-reply.auto.work c.zero.ensures
