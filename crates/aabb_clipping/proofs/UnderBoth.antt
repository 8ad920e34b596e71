-- Document 02, E2: "Where both ceilings admit a mesh the results are equal". Two calls with the same mesh, box, eps, work room and outputs, under ceilings that both
-- admit the mesh, end alike: reply, outputs and work room. Assumes nothing.
--   same_tests, clip_under_both
use Prim.Native.Nat.{ℕ}
use mathlib.Core.Path.{◌≡◌}
use mathlib.Core.List.{List}
use lib.ListN.{length}
use lib.Ieee.{Float}
use Rattle.refusals.specs.Answers.{mesh_outputs, Answered, MeshesAlike}
use Rattle.refusals.proofs.Answers.{meshes_alike}
use Rattle.input_tests.specs.Front.{limits, Admits}
use Rattle.input_tests.proofs.Lists.{same_row}
use Rattle.aabb_planes.specs.declared.clip.Clip.{Clip}
use Rattle.aabb_clipping.specs.Clip.{clip_tests, clip_result}

module _ (vs : List Float) (fs : List ℕ) (q : Clip) (c d : ℕ) (hc : Admits c vs fs) (hd : Admits d vs fs) where
  pub same_tests : (lent : ℕ) → clip_tests vs fs q (limits c lent) ≡ clip_tests vs fs q (limits d lent)
  unfolding clip_tests
  same_tests lent = same_row c d vs fs 0 _ hc hd

  pub clip_under_both : (w w₁ w₂ r₁ r₂ : List ℕ) (v v₁ v₂ : List Float) (f f₁ f₂ : List ℕ)
      → Answered (clip_tests vs fs q (limits c (length w))) (mesh_outputs (clip_result vs fs q) v v₁ f f₁) w w₁ r₁
      → Answered (clip_tests vs fs q (limits d (length w))) (mesh_outputs (clip_result vs fs q) v v₂ f f₂) w w₂ r₂
      → MeshesAlike r₁ r₂ w₁ w₂ v₁ v₂ f₁ f₂
  clip_under_both w w₁ w₂ r₁ r₂ v v₁ v₂ f f₁ f₂ a b =
      meshes_alike (clip_tests vs fs q (limits c (length w))) (clip_tests vs fs q (limits d (length w))) (clip_result vs fs q) w w₁ w₂ r₁ r₂ v v₁ v₂ f f₁ f₂ (same_tests (length w)) a b
