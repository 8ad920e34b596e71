use Rattle.refusals.proofs.Reports.{in_case}
use Rattle.refusals.specs.Refusals.{documented}
use Rattle.refusals.proofs.report.report_refusal.Goals as goal

pub returns-in-Ragged : goal.returns-in-Ragged
unfolding documented
returns-in-Ragged c = in_case _ _ _ _ c.in-Ragged.is (record { number = c.report_values.ensures.0; words = c.report_values.ensures.1 })

pub returns-in-TooMany : goal.returns-in-TooMany
unfolding documented
returns-in-TooMany c = in_case _ _ _ _ c.in-TooMany.is (record { number = c.report_values-in-TooMany.ensures.0; words = c.report_values-in-TooMany.ensures.1 })

pub returns-in-BadIndex : goal.returns-in-BadIndex
unfolding documented
returns-in-BadIndex c = in_case _ _ _ _ c.in-BadIndex.is (record { number = c.report_values-in-BadIndex.ensures.0; words = c.report_values-in-BadIndex.ensures.1 })

pub returns-in-BadNumber : goal.returns-in-BadNumber
unfolding documented
returns-in-BadNumber c = in_case _ _ _ _ c.in-BadNumber.is (record { number = c.report_values-in-BadNumber.ensures.0; words = c.report_values-in-BadNumber.ensures.1 })

pub returns-in-BadBox : goal.returns-in-BadBox
unfolding documented
returns-in-BadBox c = in_case _ _ _ _ c.in-BadBox.is (record { number = c.report_values-in-BadBox.ensures.0; words = c.report_values-in-BadBox.ensures.1 })

pub returns-in-GridTooFine : goal.returns-in-GridTooFine
unfolding documented
returns-in-GridTooFine c = in_case _ _ _ _ c.in-GridTooFine.is (record { number = c.report_values-in-GridTooFine.ensures.0; words = c.report_values-in-GridTooFine.ensures.1 })

pub returns-in-NoWorkRoom : goal.returns-in-NoWorkRoom
unfolding documented
returns-in-NoWorkRoom c = in_case _ _ _ _ c.in-NoWorkRoom.is (record { number = c.report_values-in-NoWorkRoom.ensures.0; words = c.report_values-in-NoWorkRoom.ensures.1 })

pub returns-in-KeyRange : goal.returns-in-KeyRange
unfolding documented
returns-in-KeyRange c = in_case _ _ _ _ c.in-KeyRange.is (record { number = c.report_values-in-KeyRange.ensures.0; words = c.report_values-in-KeyRange.ensures.1 })

pub returns-in-OpenEdge : goal.returns-in-OpenEdge
unfolding documented
returns-in-OpenEdge c = in_case _ _ _ _ c.in-OpenEdge.is (record { number = c.report_values-in-OpenEdge.ensures.0; words = c.report_values-in-OpenEdge.ensures.1 })

pub returns-in-BadCap : goal.returns-in-BadCap
unfolding documented
returns-in-BadCap c = in_case _ _ _ _ c.in-BadCap.is (record { number = c.report_values-in-BadCap.ensures.0; words = c.report_values-in-BadCap.ensures.1 })

pub returns-in-MissingEdge : goal.returns-in-MissingEdge
unfolding documented
returns-in-MissingEdge c = in_case _ _ _ _ c.in-MissingEdge.is (record { number = c.report_values-in-MissingEdge.ensures.0; words = c.report_values-in-MissingEdge.ensures.1 })

pub returns-in-NoRoom : goal.returns-in-NoRoom
unfolding documented
returns-in-NoRoom c = in_case _ _ _ _ c.in-NoRoom.is (record { number = c.report_values-in-NoRoom.ensures.0; words = c.report_values-in-NoRoom.ensures.1 })
