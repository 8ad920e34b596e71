use mathlib.Core.Path.{◌≡◌}
use Prim.Native.Nat.{◌≤◌}
use lib.ListN.{length}
use Rattle.leaf_exports.specs.Exports.{LinksFound}
use Rattle.leaf_exports.proofs.answer.Given as goal

-- `answer` meets its contract: the words before i are answered. Assumes nothing.
abbrev pub invariant-loop-i : goal.invariant-loop-i
invariant-loop-i l = (l.i ≤ length l.asked) × (length l.found ≡ length l.initial.found) × LinksFound l.keys l.asked l.found l.i
