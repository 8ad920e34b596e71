use native.Mathlib.Omega.{arith}
use lib.Dec.{lit<}
use Prim.Native.Nat.{◌≤◌}
use mathlib.Core.Path.{refl}
use Rattle.replay.proofs.Deciding.{clash, each_in, each_of}
use Rattle.lists.proofs.Bools.{is_true, yes}
use Rattle.replay.proofs.record.Record.request.Goals as goal
use Rattle.replay.proofs.record.Record.request.Goals.{
  then-not-are_few-via-then-not-are_few,
  then-not-are_few-via-else-not-are_few+then-not-are_few-2,
  then-not-are_few-via-else-not-are_few+else-not-are_few-2+then-words,
}

pub returns-then-not-are_few : goal.returns-then-not-are_few
returns-then-not-are_few c l = let few = c.are_few.ensures in elim c.then-not-are_few.branch [
  | then-not-are_few-via-then-not-are_few w ↦ let x = w.if-not-are_few.true in clash (is_true _ (few.complete (each_in (λ k. k ≤ 1024) c.args.self.words.now 2 5 3 refl (omega arith) l.lists))) x
  | then-not-are_few-via-else-not-are_few+then-not-are_few-2 w ↦
      let x = w.if-not-are_few-2.true in let y = w.are_few-else-not-are_few.ensures in
      clash (is_true _ (y.complete (each_in (λ k. k ≤ 1024) c.args.self.words.now 15 19 4 refl (omega arith) l.outputs))) x
  | then-not-are_few-via-else-not-are_few+else-not-are_few-2+then-words w ↦ omega (arith, l.work, w.if-words.true)
]

pub invariant_of-result : goal.invariant_of-result
invariant_of-result c = record {
  named = c.requires;
  laid = record {
    head = omega arith;
    lists = each_of (λ k. k ≤ 1024) c.args.self.words.now 2 5 3 refl (omega arith) (c.are_few.ensures.sound (yes c.if-not-are_few.false));
    outputs = each_of (λ k. k ≤ 1024) c.args.self.words.now 15 19 4 refl (omega arith) (c.are_few-else-not-are_few.ensures.sound (yes c.if-not-are_few-2.false));
    work = c.if-words.false;
    whole = omega arith;
  };
}

pub overflow_add-lists-4 : goal.overflow_add-lists-4
overflow_add-lists-4 c =
    let w = c.args.self.words.now in
    let a = each_of (λ k. k ≤ 1024) w 2 5 3 refl (omega arith) (c.are_few.ensures.sound (yes c.if-not-are_few.false)) in
    let b = each_of (λ k. k ≤ 1024) w 15 19 4 refl (omega arith) (c.are_few-else-not-are_few.ensures.sound (yes c.if-not-are_few-2.false)) in
    omega (arith, a 0 (lit< tt), a 1 (lit< tt), a 2 (lit< tt), b 0 (lit< tt), b 1 (lit< tt), b 2 (lit< tt), b 3 (lit< tt))
