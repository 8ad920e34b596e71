use native.Mathlib.Omega.{arith}
use Rattle.chains.proofs.Words.{words_start, words_tail, words_turn, words_end}
use Rattle.chains.proofs.hash.Hashed.index_words.Goals as goal

pub loop-i-init : goal.loop-i-init
loop-i-init c =
    let s = c.args in
    words_start s.keys.now s.self.chains.at s.self.chains.nb _ _ (omega arith) c.zero_part.ensures

pub enter-requires-clause-b_bound : goal.enter-requires-clause-b_bound
enter-requires-clause-b_bound c =
    let l = c.loop-i in
    let s = c.args in
    words_tail s.keys.now s.self.chains.at s.self.chains.nb _ l.m l.i (omega arith) l.invariant (omega arith) _
    c.bucket-b.ensures.low

pub loop-i-preserved : goal.loop-i-preserved
loop-i-preserved c =
    let l = c.loop-i in
    let s = c.args in
    rw c.enter.ensures
    (words_turn s.keys.now s.self.chains.at s.self.chains.nb _ l.m l.i (omega arith) l.invariant (omega arith) _ c.bucket-b.ensures)

pub returns : goal.returns
returns c =
    let l = c.loop-i in
    let s = c.args in
    words_end s.keys.now s.self.chains.at s.self.chains.nb _ _ l.m l.i (omega arith) c.zero_part.ensures l.invariant
