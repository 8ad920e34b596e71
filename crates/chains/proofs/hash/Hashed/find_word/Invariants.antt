use lib.ListN.{length}
use Rattle.chains.proofs.Walking.{Walk, left}
use Rattle.chains.proofs.Words.{sought}
use Rattle.chains.proofs.hash.Hashed.find_word.Given as goal

-- `find_word` meets its contract: the loop's invariant is `Walk`, its measure the ids that are left. Assumes nothing.
abbrev pub invariant-loop-here : goal.invariant-loop-here
invariant-loop-here l = Walk l.m l.self.chains.at l.self.chains.nb (length l.keys) l.b (sought l.keys l.key) l.here

abbrev pub decreases-loop-here : goal.decreases-loop-here
decreases-loop-here l = left (length l.keys) l.here
