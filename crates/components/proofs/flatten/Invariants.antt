use lib.ListN.{length}
use Rattle.components.specs.Forest.{TreesKept}
use Rattle.components.proofs.Forest.{flat_below}
use Rattle.components.proofs.flatten.Given as goal

-- `components::flatten`. The loop's invariant: the trees are as they were, and each item below i is linked to its root.
abbrev pub invariant-loop-i : goal.invariant-loop-i
invariant-loop-i l = TreesKept l.initial.links l.links (length l.initial.links) × flat_below l.links l.i
