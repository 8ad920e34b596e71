-- Laws of replies of cleaning as the cases test them. Assumes nothing.
--   cleaned_to, cleaned_key   a test of what the operation answers is the same test of its definition
use Prim.Native.Nat.{ℕ}
use mathlib.Core.Path.{◌≡◌, ap, ap₂, ◌∙◌}
use mathlib.Core.List.{List, [], ◌∷◌}
use lib.ListN.{length, replicate}
use lib.Ieee.{Float}
use Rattle.root.specs.Doubles.{zero_f}
use Rattle.geometry.specs.Triangles.{flat}
use Rattle.geometry.specs.Meshes.{coordinates, mesh_lengths}
use Rattle.std.specs.Prelude.{Result}
use Rattle.refusals.specs.declared.refusal.Refusal.{Refusal}
use Rattle.refusals.specs.Refusals.{documented_reply, settle}
use Rattle.refusals.specs.Answers.{reply_in}
use Rattle.input_tests.specs.Front.{mesh_ceiling, limits}
use Rattle.mesh_cleanup.specs.Clean.{CleanAsked, clean_tests, clean_result, Cleaned}
use Rattle.cases.specs.Cleaning.{is_mesh, is_key_range, reply_in_room, cleans_to, has_far_key}

module _ (vs : List Float) (fs : List ℕ) (q : CleanAsked) (reply : Result (List ℕ) Refusal) (w w' : List ℕ) (v' : List Float) (f' : List ℕ) (long : length w ≡ 2048) where
  answer : Cleaned vs fs q mesh_ceiling reply w w' (replicate 12 zero_f) v' (replicate 6 0) f' → documented_reply reply ≡ reply_in_room vs fs q
  answer h = h.answered.answer.replied ∙ ap (λ (n : ℕ). reply_in (clean_tests vs fs q (limits mesh_ceiling n)) (mesh_lengths (clean_result vs fs q)) (12 ∷ 6 ∷ [])) long

  pub cleaned_to : Cleaned vs fs q mesh_ceiling reply w w' (replicate 12 zero_f) v' (replicate 6 0) f' → (stated_vs : List Float) (stated_fs : List ℕ)
      → is_mesh (documented_reply reply) v' f' stated_vs stated_fs ≡ cleans_to vs fs q stated_vs stated_fs
  unfolding cleans_to
  cleaned_to h stated_vs stated_fs =
      ap₂ (λ (a : List Float) (b : List ℕ). is_mesh (documented_reply reply) a b stated_vs stated_fs) h.answered.answer.settled.0 h.answered.answer.settled.1.0
      ∙ ap
      (λ (d : List ℕ).
      is_mesh d
      (settle d (coordinates (clean_result vs fs q).points) (replicate 12 zero_f))
      (settle d (flat (clean_result vs fs q).facets) (replicate 6 0))
      stated_vs stated_fs)
      (answer h)

  pub cleaned_key : Cleaned vs fs q mesh_ceiling reply w w' (replicate 12 zero_f) v' (replicate 6 0) f' → is_key_range (documented_reply reply) ≡ has_far_key vs fs q
  unfolding has_far_key
  cleaned_key h = ap is_key_range (answer h)
