use Rattle.std.proofs.Common.{ℕ, ◌<◌, slice_index_or}
use Rattle.replay.proofs.contents.read.Given as goal

abbrev pub invariant-loop-i : goal.invariant-loop-i
invariant-loop-i g l = (k : ℕ) (x : _) → k < l.i → goal.F-post g l.f (slice_index_or l.words k 0) (slice_index_or l.list k x)
