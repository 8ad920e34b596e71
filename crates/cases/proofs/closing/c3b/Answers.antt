use Prim.Native.Nat.{ℕ}
use mathlib.Core.List.{List, []}
use mathlib.Core.Path.{ap}
use Rattle.root.specs.Doubles.{bits, one_f}
use Rattle.geometry.specs.declared.aabb.AABB.{AABB}
use Rattle.candidate_surface.specs.Asked.{asked}
use Rattle.cases.specs.Comparing.{has_lengths}
use Rattle.cases.specs.Closing.{is_later}
use Rattle.cases.proofs.Lists.{listed_done}
use Rattle.cases.proofs.closing.c3b.Goals as goal

pub returns-then-has_lengths : goal.returns-then-has_lengths
returns-then-has_lengths c =
    listed_done 8192 8192 (ap (λ (b : AABB). asked b (bits 4562146422526312448) one_f) c.box_to.ensures) c.list_candidates-reply.ensures (λ (r : List ℕ). has_lengths r []) is_later
    c.has_lengths.ensures c.if-has_lengths.true c.is_later_point.ensures
