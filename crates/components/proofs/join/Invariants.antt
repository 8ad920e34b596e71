use Prim.Native.Nat.{◌*◌}
use lib.ListN.{length}
use Rattle.components.specs.Forest.{Swept}
use Rattle.components.proofs.join.Given as goal

-- `components::join`. The loop's invariant: the items before i are done.
abbrev pub invariant-loop-i : goal.invariant-loop-i
invariant-loop-i l = Swept l.labels (length l.initial.links) l.k (length l.initial.firsts) l.links l.firsts (l.i * l.k)
