-- Document 02, E2: "Where both ceilings admit a mesh the results are equal". Two calls with the same mesh, eps, work room and outputs, under ceilings that both
-- admit the mesh, end alike: reply, outputs and work room. Assumes nothing.
--   same_tests, clean_under_both
use Prim.Native.Nat.{ℕ}
use mathlib.Core.Path.{◌≡◌}
use mathlib.Core.List.{List}
use lib.ListN.{length}
use lib.Ieee.{Float}
use Rattle.std.specs.Prelude.{Result}
use Rattle.refusals.specs.declared.refusal.Refusal.{Refusal}
use Rattle.refusals.specs.Refusals.{documented_reply}
use Rattle.refusals.specs.Answers.{MeshesAlike}
use Rattle.refusals.proofs.Answers.{meshes_alike}
use Rattle.input_tests.specs.Front.{limits, Admits}
use Rattle.input_tests.proofs.Lists.{same_row}
use Rattle.mesh_cleanup.specs.Clean.{CleanAsked, clean_tests, clean_result, Cleaned}

module _ (vs : List Float) (fs : List ℕ) (q : CleanAsked) (c d : ℕ) (hc : Admits c vs fs) (hd : Admits d vs fs) where
  pub same_tests : (lent : ℕ) → clean_tests vs fs q (limits c lent) ≡ clean_tests vs fs q (limits d lent)
  unfolding clean_tests
  same_tests lent = same_row c d vs fs 0 _ hc hd

  pub clean_under_both : (r₁ r₂ : Result (List ℕ) Refusal) (w w₁ w₂ : List ℕ) (v v₁ v₂ : List Float) (f f₁ f₂ : List ℕ)
      → Cleaned vs fs q c r₁ w w₁ v v₁ f f₁ → Cleaned vs fs q d r₂ w w₂ v v₂ f f₂ → MeshesAlike (documented_reply r₁) (documented_reply r₂) w₁ w₂ v₁ v₂ f₁ f₂
  clean_under_both r₁ r₂ w w₁ w₂ v v₁ v₂ f f₁ f₂ a b =
      meshes_alike _ _ (clean_result vs fs q) w w₁ w₂ _ _ v v₁ v₂ f f₁ f₂ (same_tests (length w)) a.answered b.answered
