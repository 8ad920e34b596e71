use Prim.Native.Nat.{◌+◌, ◌*◌}
use lib.ListN.{length}
use Rattle.components.specs.Forest.{Swept, RootOf}
use Rattle.components.proofs.join_item.Given as goal

-- `components::join_item`. The loop's invariant: the item's labels before j are entered, and r is the root of its tree.
abbrev pub invariant-loop-j : goal.invariant-loop-j
invariant-loop-j l =
    Swept l.labels (length l.initial.links) l.k (length l.initial.firsts) l.links l.firsts (l.i * l.k + l.j) × RootOf l.links (length l.initial.links) l.i l.r
