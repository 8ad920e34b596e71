use Prim.Native.Nat.{ℕ}
use Rattle.cases.proofs.Meshes.{cleaned_key}
use lib.ListN.{length-replicate}
use mathlib.Core.Path.{◌∙◌}
use Rattle.cases.proofs.cleaning.has_far_key.Goals as goal

pub returns : goal.returns
returns c = c.is_key_range.ensures ∙ cleaned_key _ _ _ _ _ _ _ _ (length-replicate {A = ℕ} 2048 0) c.clean_mesh.ensures
