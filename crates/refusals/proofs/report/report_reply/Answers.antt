use Rattle.refusals.proofs.Reports.{reply_done, reply_refused}
use Rattle.refusals.proofs.report.report_reply.Goals as goal

pub returns-in-Ok : goal.returns-in-Ok
returns-in-Ok g c = reply_done _ _ _ _ c.in-Ok.is c.report_lengths.ensures

pub returns-in-Err : goal.returns-in-Err
returns-in-Err g c = reply_refused _ _ _ _ c.in-Err.is c.report_refusal.ensures
