use Rattle.std.proofs.Common.{◌≡◌, ℕ, ◌+◌, ◌<◌, slice_index_or}
use Rattle.replay.proofs.contents.old_numbers.Given as goal

abbrev pub invariant-loop-x : goal.invariant-loop-x
invariant-loop-x g l =
    (l.next ≡ 3000000000 + l.x-index) × ((k : ℕ) (x : _) → k < l.x-index → g.T.From.from_gives (3000000000 + k) (slice_index_or l.output k x))
