use Rattle.std.proofs.Common.{◌≡◌, ℕ, ◌<◌, slice_index_or}
use Rattle.replay.specs.Contents.{old_double}
use Rattle.replay.proofs.contents.old_doubles.Given as goal

abbrev pub invariant-loop-x : goal.invariant-loop-x
invariant-loop-x l = (l.next ≡ old_double l.x-index) × ((k : ℕ) (x : _) → k < l.x-index → slice_index_or l.output k x ≡ old_double k)
