use Rattle.chains.specs.ByWord.{WordTable}
use Rattle.chains.proofs.hash.Hashed.index_words.Given as goal

-- `index_words` meets its contract. The loop's invariant: the words before i are entered. Assumes nothing.
abbrev pub invariant-loop-i : goal.invariant-loop-i
invariant-loop-i l = WordTable l.keys l.self.chains.at l.self.chains.nb l.initial.m l.m l.i
