-- C15 of document 01's worked blocks, as a test of the definitions of candidates and caps. Assumes nothing.
--   half_point       the twelve points: (0,0), (1,0), (1,1) and (0,1) at heights 0, 0.5 and 1, numbered from 0 to 11
--   candidate_at   the number of the first candidate at a point      triangles, cap_list_of   the cap list: a face and three points each, and as candidates
--   is_point, has_facets   a vertex stands at a point; each corner of each facet is the stated point
--   is_half        a reply is eight vertices and twelve facets, the stated ones
--   capped        the reply of caps, with 8,192 words of work room and outputs of 24 and 36
--   closes_to      caps answers so
--   lower_half, upper_half   the stated facets, the square first        closes_both   both halves come out as stated
--   c15_holds      the stated result
use Rattle.std.specs.Prelude.{ℕ, ◌*◌, ◌/◌, ◌%◌, Bool, cond, ◌&&◌, List, [], ◌∷◌, map, eqb, ltb, length, get_or, drop, replicate, Option, Float}
use Rattle.std.specs.Float.{nan}
use Rattle.root.specs.Doubles.{bits, zero_f, one_f, 1e-10}
use Rattle.std.specs.List.{starts_with}
use Rattle.std.specs.Option.{unwrap_or}
use Rattle.lists.specs.Lists.{every, up_to}
use Rattle.geometry.specs.Triangles.{flat}
use Rattle.geometry.specs.Meshes.{Mesh, coordinates, mesh_lengths}
use Rattle.refusals.specs.Refusals.{settle}
use Rattle.caps.specs.declared.mode.BoundaryClosure.{BoundaryClosure}
use Rattle.caps.specs.declared.mode.BoundaryClosure.TheVariants.{ClosePositive, CloseNegative}
use Rattle.refusals.specs.Answers.{reply_in}
use Rattle.input_tests.specs.Front.{mesh_ceiling, limits}
use Rattle.candidate_surface.specs.Asked.{asked}
use Rattle.caps.specs.Operation.{caps_tests, caps_result}
use Rattle.cases.specs.Comparing.{bits_of, same_bits, place_of, has_lengths}
use Rattle.cases.specs.Cleaning.{two_facets}
use Rattle.cases.specs.Closing.{box_to, list_reply, candidates_in}

abbrev pub half : Float
half = bits 0x3fe0_0000_0000_0000

abbrev pub corner : Float → Float → Float → List Float
corner x y z = x ∷ y ∷ z ∷ []

-- all but the last
abbrev pub half_points : List (List Float)
half_points =
    corner zero_f zero_f zero_f ∷ corner one_f zero_f zero_f ∷ corner one_f one_f zero_f ∷ corner zero_f one_f zero_f
    ∷ corner zero_f zero_f half ∷ corner one_f zero_f half ∷ corner one_f one_f half ∷ corner zero_f one_f half
    ∷ corner zero_f zero_f one_f ∷ corner one_f zero_f one_f ∷ corner one_f one_f one_f ∷ []

unfoldable pub half_point : ℕ → List Float
half_point p = get_or half_points p (corner zero_f one_f one_f)

unfoldable pub candidate_at : List ℕ → List Float → Option ℕ
candidate_at words q = place_of words (bits_of (get_or q 0 nan) ∷ bits_of (get_or q 1 nan) ∷ bits_of (get_or q 2 nan) ∷ [])

-- turned outward; side faces have two below and two above, bottom and top two each
abbrev pub triangles : List ℕ
triangles =
    0 ∷ 0 ∷ 4 ∷ 7 ∷ 0 ∷ 0 ∷ 7 ∷ 3 ∷ 0 ∷ 4 ∷ 8 ∷ 11 ∷ 0 ∷ 4 ∷ 11 ∷ 7
    ∷ 1 ∷ 1 ∷ 2 ∷ 6 ∷ 1 ∷ 1 ∷ 6 ∷ 5 ∷ 1 ∷ 5 ∷ 6 ∷ 10 ∷ 1 ∷ 5 ∷ 10 ∷ 9
    ∷ 2 ∷ 0 ∷ 1 ∷ 5 ∷ 2 ∷ 0 ∷ 5 ∷ 4 ∷ 2 ∷ 4 ∷ 5 ∷ 9 ∷ 2 ∷ 4 ∷ 9 ∷ 8
    ∷ 3 ∷ 3 ∷ 7 ∷ 6 ∷ 3 ∷ 3 ∷ 6 ∷ 2 ∷ 3 ∷ 7 ∷ 11 ∷ 10 ∷ 3 ∷ 7 ∷ 10 ∷ 6
    ∷ 4 ∷ 0 ∷ 3 ∷ 2 ∷ 4 ∷ 0 ∷ 2 ∷ 1 ∷ 5 ∷ 8 ∷ 9 ∷ 10 ∷ 5 ∷ 8 ∷ 10 ∷ 11 ∷ []

abbrev pub cap_word : List ℕ → ℕ → ℕ
cap_word words i = let t = get_or triangles i 0 in cond (eqb (i % 4) 0) t (unwrap_or (candidate_at words (half_point t)) (length words / 5))

unfoldable pub cap_list_of : List ℕ → List ℕ
cap_list_of words = map (cap_word words) (up_to 80)

unfoldable pub is_point : List Float → ℕ → List Float → Bool
is_point vs v q = ltb v (length vs / 3) && starts_with same_bits (drop (3 * v) vs) q

unfoldable pub has_facets : List Float → List ℕ → List ℕ → Bool
has_facets vs fs stated = every (λ i. is_point vs (get_or fs i 0) (half_point (get_or stated i 0))) (up_to 36)

unfoldable pub is_half : List ℕ → List Float → List ℕ → List ℕ → Bool
is_half reply vs fs stated = has_lengths reply (24 ∷ 36 ∷ []) && has_facets vs fs stated

abbrev pub square_at_half : List Float
square_at_half = zero_f ∷ zero_f ∷ half ∷ one_f ∷ zero_f ∷ half ∷ one_f ∷ one_f ∷ half ∷ zero_f ∷ one_f ∷ half ∷ []

module _ (mode : BoundaryClosure) (cap_list : List ℕ) where
  abbrev pub capped : List ℕ
  capped =
      reply_in (caps_tests square_at_half two_facets cap_list (asked (box_to one_f one_f one_f) 1e-10 one_f) mode (limits mesh_ceiling 8192))
      (mesh_lengths (caps_result square_at_half two_facets cap_list (asked (box_to one_f one_f one_f) 1e-10 one_f) mode)) (24 ∷ 36 ∷ [])

  abbrev pub capped_mesh : Mesh
  capped_mesh = caps_result square_at_half two_facets cap_list (asked (box_to one_f one_f one_f) 1e-10 one_f) mode

  unfoldable pub closes_to : List ℕ → Bool
  closes_to stated =
      is_half capped
      (settle capped (coordinates capped_mesh.points) (replicate 24 zero_f))
      (settle capped (flat capped_mesh.facets) (replicate 36 0))
      stated

-- the square, then the ten caps of the lower half
abbrev pub lower_half : List ℕ
lower_half =
    4 ∷ 5 ∷ 6 ∷ 4 ∷ 6 ∷ 7 ∷ 0 ∷ 4 ∷ 7 ∷ 0 ∷ 7 ∷ 3
    ∷ 1 ∷ 2 ∷ 6 ∷ 1 ∷ 6 ∷ 5 ∷ 0 ∷ 1 ∷ 5 ∷ 0 ∷ 5 ∷ 4
    ∷ 3 ∷ 7 ∷ 6 ∷ 3 ∷ 6 ∷ 2 ∷ 0 ∷ 3 ∷ 2 ∷ 0 ∷ 2 ∷ 1 ∷ []

-- the square, turned, then the ten caps of the upper half
abbrev pub upper_half : List ℕ
upper_half =
    4 ∷ 6 ∷ 5 ∷ 4 ∷ 7 ∷ 6 ∷ 4 ∷ 8 ∷ 11 ∷ 4 ∷ 11 ∷ 7
    ∷ 5 ∷ 6 ∷ 10 ∷ 5 ∷ 10 ∷ 9 ∷ 4 ∷ 5 ∷ 9 ∷ 4 ∷ 9 ∷ 8
    ∷ 7 ∷ 11 ∷ 10 ∷ 7 ∷ 10 ∷ 6 ∷ 8 ∷ 9 ∷ 10 ∷ 8 ∷ 10 ∷ 11 ∷ []

unfoldable pub closes_both : List ℕ → Bool
closes_both words = closes_to ClosePositive (cap_list_of words) lower_half && closes_to CloseNegative (cap_list_of words) upper_half

abbrev pub twelve : List ℕ
twelve = list_reply square_at_half two_facets (asked (box_to one_f one_f one_f) 1e-10 one_f) 8192 60

abbrev pub c15_holds : Bool
c15_holds = has_lengths twelve (60 ∷ []) && closes_both (candidates_in square_at_half two_facets (asked (box_to one_f one_f one_f) 1e-10 one_f) 8192 60)
