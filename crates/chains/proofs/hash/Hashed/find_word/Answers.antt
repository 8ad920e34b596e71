use mathlib.Core.Path.{sym}
use native.Mathlib.Omega.{arith}
use lib.ListN.{length}
use borrow.Author.Tests.{eq-eqb, ne_eqb}
use Rattle.chains.proofs.Walking.{walk_start, walk_low, walk_room, walk_found, walk_turn, walk_less, walk_end}
use Rattle.chains.proofs.Words.{sought, word_filed, word_answer}
use Rattle.chains.proofs.hash.Hashed.find_word.Goals as goal

pub loop-here-init : goal.loop-here-init
loop-here-init c =
    let s = c.args in
    let b = c.bucket-b.ensures in
    rw c.first-here.ensures
    (walk_start s.m.now s.self.chains.at s.self.chains.nb (length s.keys.now) _ (sought s.keys.now s.key)
    (word_filed s.keys.now s.m.now s.self.chains.at s.self.chains.nb s.key _ c.requires b.is) b.low)

pub offset_bounds-keys-i : goal.offset_bounds-keys-i
offset_bounds-keys-i c =
    let s = c.args in
    let h = walk_low s.m.now s.self.chains.at s.self.chains.nb (length s.keys.now) _ (sought s.keys.now s.key) c.loop-here.here c.loop-here.invariant c.in-Some.i c.in-Some.is in
    omega arith

pub bounds-keys-i : goal.bounds-keys-i
bounds-keys-i c =
    let s = c.args in
    walk_low s.m.now s.self.chains.at s.self.chains.nb (length s.keys.now) _ (sought s.keys.now s.key) c.loop-here.here c.loop-here.invariant c.in-Some.i c.in-Some.is

pub returns-then-keys-i : goal.returns-then-keys-i
returns-then-keys-i c =
    let s = c.args in
    word_answer s.keys.now s.key _
    (walk_found s.m.now s.self.chains.at s.self.chains.nb (length s.keys.now) _ (sought s.keys.now s.key) c.loop-here.here c.loop-here.invariant c.in-Some.i c.in-Some.is
    (eq-eqb s.key _ (sym c.if-keys-i.true)))

pub next-here-requires : goal.next-here-requires
next-here-requires c =
    let s = c.args in
    walk_room s.m.now s.self.chains.at s.self.chains.nb (length s.keys.now) _ (sought s.keys.now s.key) c.loop-here.here c.loop-here.invariant c.in-Some.i c.in-Some.is

pub loop-here-smaller : goal.loop-here-smaller
loop-here-smaller c =
    let s = c.args in
    rw c.next-here.ensures
    (walk_less s.m.now s.self.chains.at s.self.chains.nb (length s.keys.now) _ (sought s.keys.now s.key) c.loop-here.here c.loop-here.invariant c.in-Some.i c.in-Some.is)

pub loop-here-preserved : goal.loop-here-preserved
loop-here-preserved c =
    let s = c.args in
    rw c.next-here.ensures
    (walk_turn s.m.now s.self.chains.at s.self.chains.nb (length s.keys.now) _ (sought s.keys.now s.key) c.loop-here.here c.loop-here.invariant c.in-Some.i c.in-Some.is
    (ne_eqb s.key _ (λ e. c.if-keys-i.false (sym e))))

pub returns : goal.returns
returns c =
    let s = c.args in
    word_answer s.keys.now s.key _
    (walk_end s.m.now s.self.chains.at s.self.chains.nb (length s.keys.now) _ (sought s.keys.now s.key) c.loop-here.here c.loop-here.invariant c.in_default.is)
