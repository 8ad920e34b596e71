use native.Mathlib.Omega.{arith}
use mathlib.Core.Bool.{false}
use mathlib.Core.Path.{◌≡◌, refl}
use Rattle.std.specs.Float.{binary64}
use Rattle.std.specs.Float.Ieee.{nan_bits}
use Rattle.lists.proofs.Bools.{is_true, yes}
use Rattle.replay.proofs.Agreeing.{same_box, tolerance_decides}
use Rattle.replay.proofs.Deciding.{refuted, clash, part_each}
use Rattle.replay.proofs.agreement.tolerance_agrees.Goals as goal
use Rattle.replay.proofs.agreement.tolerance_agrees.Goals.{then-words-ne-LISTS-via-then-words-ne-LISTS, then-words-ne-LISTS-via-else-words-ne-LISTS+then-not-are_numbers}

pub returns-then-words-ne-LISTS : goal.returns-then-words-ne-LISTS
returns-then-words-ne-LISTS c = refuted (λ a. elim c.then-words-ne-LISTS.branch [
  | then-words-ne-LISTS-via-then-words-ne-LISTS w ↦ w.if-words-ne-LISTS.true a.whole
  | then-words-ne-LISTS-via-else-words-ne-LISTS+then-not-are_numbers w ↦
      let plain = part_each (λ x. nan_bits binary64 x ≡ false) c.args.stored.words.now 6 12 6 refl (omega (arith, c.args.stored.head)) w.are_numbers.ensures in
      clash (is_true _ (plain.complete a.box)) w.if-not-are_numbers.true
])

pub returns : goal.returns
returns c =
    let words = c.args.stored.words.now in
    let plain = part_each (λ x. nan_bits binary64 x ≡ false) words 6 12 6 refl (omega (arith, c.args.stored.head)) c.are_numbers.ensures in
    tolerance_decides words _ _ _ _ c.if-words-ne-LISTS.false (plain.sound (yes c.if-not-are_numbers.false))
    (same_box words c.double.ensures c.double-2.ensures c.double-3.ensures c.double-4.ensures c.double-5.ensures c.double-6.ensures)
    c.yongpham_tolerance-number.ensures c.has_reply.ensures
