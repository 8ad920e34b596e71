use lib.ListN.{length}
use Rattle.replay.specs.Operations.{number_of}
use Rattle.replay.proofs.Tallying.{Tallying}
use Rattle.replay.proofs.counting.count.Given as goal

abbrev pub invariant-loop-record : goal.invariant-loop-record
invariant-loop-record l = Tallying (number_of l.operation) l.records l.left l.tally.requests l.tally.agreeing

abbrev pub decreases-loop-record : goal.decreases-loop-record
decreases-loop-record l = length l.left
