use Prim.Native.Nat.{ℕ}
use mathlib.Core.Path.{◌∙◌}
use lib.ListN.{length-replicate}
use Rattle.cases.proofs.Turned.{capped_to}
use Rattle.cases.proofs.halves.closes_to.Goals as goal

pub returns : goal.returns
returns c =
    c.is_half.ensures
    ∙ capped_to _ _ _ _ _ _ _ _ c.asked_of_cube.ensures (length-replicate {A = ℕ} 8192 0) c.cap_mesh_to_aabb-reply.ensures _
