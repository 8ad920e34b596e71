-- C2, C8 and C14 of document 01's worked blocks, as tests of the definition of cleaning. Assumes nothing.
--   is_mesh       a reply is a mesh of the stated lengths, and the outputs begin with it        is_key_range   it is refusal 8
--   cleans_to     cleaning, with 2,048 words of work room and outputs of 12 and 6, gives the stated mesh       has_far_key   it is refused by 8
--   c2_holds, c8_holds, c14_holds   the stated results
use Rattle.std.specs.Prelude.{ℕ, Bool, ◌&&◌, List, [], ◌∷◌, eqb, length, get_or, replicate, Float}
use Rattle.std.specs.List.{starts_with}
use Rattle.root.specs.Doubles.{bits, zero_f, one_f}
use Rattle.geometry.specs.Triangles.{flat}
use Rattle.geometry.specs.Meshes.{coordinates, mesh_lengths}
use Rattle.refusals.specs.Refusals.{settle}
use Rattle.refusals.specs.Answers.{reply_in}
use Rattle.input_tests.specs.Front.{mesh_ceiling, limits}
use Rattle.mesh_cleanup.specs.Clean.{CleanAsked, clean_asked, clean_tests, clean_result}
use Rattle.cases.specs.Comparing.{has_lengths, same_bits}

unfoldable pub is_mesh : List ℕ → List Float → List ℕ → List Float → List ℕ → Bool
is_mesh reply vs fs stated_vs stated_fs =
    has_lengths reply (length stated_vs ∷ length stated_fs ∷ []) && (starts_with same_bits vs stated_vs && starts_with eqb fs stated_fs)

abbrev pub is_key_range : List ℕ → Bool
is_key_range reply = eqb (get_or reply 0 0) 8

module _ (vs : List Float) (fs : List ℕ) (q : CleanAsked) where
  abbrev pub reply_in_room : List ℕ
  reply_in_room = reply_in (clean_tests vs fs q (limits mesh_ceiling 2048)) (mesh_lengths (clean_result vs fs q)) (12 ∷ 6 ∷ [])

  unfoldable pub cleans_to : List Float → List ℕ → Bool
  cleans_to stated_vs stated_fs =
      is_mesh reply_in_room
      (settle reply_in_room (coordinates (clean_result vs fs q).points) (replicate 12 zero_f))
      (settle reply_in_room (flat (clean_result vs fs q).facets) (replicate 6 0))
      stated_vs stated_fs

  unfoldable pub has_far_key : Bool
  has_far_key = is_key_range reply_in_room

-- 1/1024, 2^-20, 4,611,686 and 4,611,687
abbrev pub eps : Float
eps = bits 4562146422526312448

abbrev pub fine : Float
fine = bits 4517110426252607488

abbrev pub near_place : Float
near_place = bits 4706709771112153088

abbrev pub far_place : Float
far_place = bits 4706709772185894912

abbrev pub c2_holds : Bool
c2_holds = cleans_to (zero_f ∷ zero_f ∷ zero_f ∷ eps ∷ zero_f ∷ zero_f ∷ []) [] (clean_asked eps) (zero_f ∷ zero_f ∷ zero_f ∷ []) []

abbrev pub square : List Float
square = zero_f ∷ zero_f ∷ zero_f ∷ one_f ∷ zero_f ∷ zero_f ∷ one_f ∷ one_f ∷ zero_f ∷ zero_f ∷ one_f ∷ zero_f ∷ []

abbrev pub two_facets : List ℕ
two_facets = 0 ∷ 1 ∷ 2 ∷ 0 ∷ 2 ∷ 3 ∷ []

abbrev pub c8_holds : Bool
c8_holds = cleans_to square two_facets (clean_asked fine) square two_facets

abbrev pub c14_holds : Bool
c14_holds =
    cleans_to (near_place ∷ zero_f ∷ zero_f ∷ []) [] (clean_asked zero_f) (near_place ∷ zero_f ∷ zero_f ∷ []) []
    && has_far_key (far_place ∷ zero_f ∷ zero_f ∷ []) [] (clean_asked zero_f)
