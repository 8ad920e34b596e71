use Prim.Native.Nat.{ℕ}
use Rattle.cases.proofs.Meshes.{cleaned_to}
use lib.ListN.{length-replicate}
use mathlib.Core.Path.{◌∙◌}
use Rattle.cases.proofs.cleaning.cleans_to.Goals as goal

pub returns : goal.returns
returns c = c.is_mesh.ensures ∙ cleaned_to _ _ _ _ _ _ _ _ (length-replicate {A = ℕ} 2048 0) c.clean_mesh-reply.ensures _ _
