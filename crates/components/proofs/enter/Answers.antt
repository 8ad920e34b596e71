use mathlib.Core.Path.{◌≡◌, refl}
use Prim.Native.Nat.{ℕ, ◌-◌, ◌≤◌}
use native.Mathlib.Omega.{arith}
use lib.ListN.{length}
use Rattle.components.proofs.Forest.{unite_up, unite_down, rooted_up, rooted_down}
use Rattle.components.proofs.enter.Goals as goal

pub find-t-requires-clause-x_in : goal.find-t-requires-clause-x_in
find-t-requires-clause-x_in c = c.requires.by_index (c.args.first.now - 1) (omega arith)

pub returns-then-r-t : goal.returns-then-r-t
returns-then-r-t c =
    let s = c.args in
    let j : ℕ = s.first.now - 1 in
    let j_in = c.requires.by_index j (omega arith) in
    let n = length s.links.now in
    record {
      unseen = λ e. absurd (omega arith);
      seen = λ f e. let h : f ≡ j = omega arith in
          rw h (unite_up s.links.now c.find-t.new.links n s.i j s.r _ (omega arith) c.requires.i_in j_in c.requires.root_of c.find-t.ensures c.if-r-t.true, refl);
      rooted = rooted_up s.links.now c.find-t.new.links n s.i j s.r _ (omega arith) c.requires.i_in j_in c.requires.root_of c.find-t.ensures c.if-r-t.true;
    }

pub returns : goal.returns
returns c =
    let s = c.args in
    let j : ℕ = s.first.now - 1 in
    let j_in = c.requires.by_index j (omega arith) in
    let n = length s.links.now in
    let down : c.find-t.result ≤ s.r = omega arith in
    record {
      unseen = λ e. absurd (omega arith);
      seen = λ f e. let h : f ≡ j = omega arith in
          rw h (unite_down s.links.now c.find-t.new.links n s.i j s.r _ (omega arith) c.requires.i_in j_in c.requires.root_of c.find-t.ensures down, refl);
      rooted = rooted_down s.links.now c.find-t.new.links n s.i j s.r _ (omega arith) c.requires.i_in j_in c.requires.root_of c.find-t.ensures down;
    }
