use mathlib.Core.Path.{◌≡◌}
use Prim.Native.Nat.{◌≤◌}
use lib.ListN.{get_or, length}
use Rattle.components.specs.Forest.{SameTree, TreesKept}
use Rattle.components.proofs.find.Given as goal

-- `components::find`. The loop's invariant: r is in x's tree and at most x, p is r's link, and the trees are as they were. The measure is r.
abbrev pub invariant-loop-p : goal.invariant-loop-p
invariant-loop-p l =
    (l.r ≤ l.x) × (l.p ≡ get_or l.links l.r 0) × TreesKept l.initial.links l.links (length l.initial.links) × SameTree l.links (length l.initial.links) l.x l.r

abbrev pub decreases-loop-p : goal.decreases-loop-p
decreases-loop-p l = l.r
