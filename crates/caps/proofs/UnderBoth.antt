-- Document 02, E2: "Where both ceilings admit a mesh the results are equal". Two calls with the same mesh, cap list, box, eps, resolution, mode, work room and outputs, under ceilings that both
-- admit the mesh, end alike: reply, outputs and work room. Assumes nothing.
--   caps_under_both
use Prim.Native.Nat.{ℕ}
use mathlib.Core.List.{List}
use lib.ListN.{length}
use lib.Ieee.{Float}
use Rattle.std.specs.Prelude.{Result}
use Rattle.refusals.specs.declared.refusal.Refusal.{Refusal}
use Rattle.refusals.specs.Refusals.{documented_reply}
use Rattle.refusals.specs.Answers.{MeshesAlike}
use Rattle.refusals.proofs.Answers.{meshes_alike}
use Rattle.input_tests.specs.Front.{limits, Admits}
use Rattle.candidate_surface.specs.declared.asked.Asked.{Asked}
use Rattle.closure_tests.proofs.UnderBoth.{same_tests}
use Rattle.caps.specs.declared.mode.BoundaryClosure.{BoundaryClosure}
use Rattle.caps.specs.Operation.{caps_tests, caps_result, Capped}

module _ (vs : List Float) (fs cap_list : List ℕ) (q : Asked) (mode : BoundaryClosure) (c d : ℕ) (hc : Admits c vs fs) (hd : Admits d vs fs) where
  pub caps_under_both : (r₁ r₂ : Result (List ℕ) Refusal) (w w₁ w₂ : List ℕ) (v v₁ v₂ : List Float) (f f₁ f₂ : List ℕ)
      → Capped vs fs cap_list q mode c r₁ w w₁ v v₁ f f₁ → Capped vs fs cap_list q mode d r₂ w w₂ v v₂ f f₂
      → MeshesAlike (documented_reply r₁) (documented_reply r₂) w₁ w₂ v₁ v₂ f₁ f₂
  caps_under_both r₁ r₂ w w₁ w₂ v v₁ v₂ f f₁ f₂ a b =
      meshes_alike (caps_tests vs fs cap_list q mode (limits c (length w))) (caps_tests vs fs cap_list q mode (limits d (length w)))
      (caps_result vs fs cap_list q mode) w w₁ w₂ _ _ v v₁ v₂ f f₁ f₂
      (same_tests vs fs q c d hc hd (length cap_list) (length w) _) a.answered b.answered
