use native.Mathlib.Omega.{arith}
use mathlib.Core.Path.{sym, subst, ◌∙◌}
use mathlib.Core.Bool.{Bool}
use Rattle.lists.specs.Lists.{Decides}
use Rattle.lists.proofs.Bools.{is_true, yes}
use Rattle.replay.specs.Operations.{number_of}
use Rattle.replay.specs.Counting.{Agreeing}
use Rattle.replay.proofs.Deciding.{clash, refuted, ends}
use Rattle.replay.proofs.Tallying.{one_if, tally_more, tally_end}
use Rattle.replay.proofs.counting.count.Goals as goal
use Rattle.replay.proofs.counting.count.Goals.{then-requested, else-requested}

pub loop-record-preserved : goal.loop-record-preserved
loop-record-preserved c =
    let r = c.is_of-requested.ensures in
    let a : Decides (Agreeing (number_of c.args.operation) c.in-Some.record.words.now) c.if-requested.agreeing =
    elim c.if-requested.branch [
      | then-requested w ↦
          subst (λ (b : Bool). Decides (Agreeing (number_of c.args.operation) c.in-Some.record.words.now) b) (sym w.agreeing-is)
          (ends _ w.agrees-agreeing.ensures (λ p. (r.sound (yes w.if-requested.true), p)) (λ p. p.1))
      | else-requested w ↦
          subst (λ (b : Bool). Decides (Agreeing (number_of c.args.operation) c.in-Some.record.words.now) b) (sym (w.agreeing-is ∙ w.if-requested.false))
          (refuted (λ p. clash (is_true _ (r.complete p.0)) w.if-requested.false))
    ] in
    tally_more _ _ _ _ _ c.loop-record.invariant _ _ _ _ c.in-Some.ensures (one_if r) (one_if a) (omega arith)

pub returns : goal.returns
returns c = tally_end _ _ _ _ _ c.loop-record.invariant c.in_default.ensures
