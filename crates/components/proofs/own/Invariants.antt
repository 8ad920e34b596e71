use lib.ListN.{length}
use Rattle.lists.specs.Lists.{up_to}
use Rattle.words.proofs.Overlay.{Writing}
use Rattle.components.proofs.own.Given as goal

-- `components::own`. The loop's invariant: the links before i are written.
abbrev pub invariant-loop-i : goal.invariant-loop-i
invariant-loop-i l = Writing (up_to (length l.initial.links)) l.initial.links l.links l.i
