-- C3b, C10 and C13 of document 01's worked blocks, as tests of the definition of candidates. Assumes nothing.
--   box_to         the box from (0,0,0)
--   list_reply     the reply with outputs of 8,192 words behind the candidates        Listing   it is answered, and the candidates are written
--   facet_reply    the reply to facet (0,0,0), (1,0,0), (0,1,0)
--   candidates_in  the candidates' words, as the operation leaves them in n zeros
--   is_later       the words of a list in which the later point alone comes from mesh vertices 0 and 1        is_too_fine   a reply is refusal 6
--   cut_in         a grid is not too fine, and has so many segments along x
--   c3b_holds, c10_holds, c13_holds   the stated results
use Rattle.std.specs.Prelude.{ℕ, ◌+◌, ◌*◌, ◌/◌, Bool, false, not, ◌&&◌, List, [], ◌∷◌, eqb, length, get_or, replicate, Option, None, Some, is_none, Float, ◌≡◌}
use Rattle.std.specs.Float.Ieee.{neg}
use Rattle.root.specs.Doubles.{bits, zero_f, one_f, 1e-10}
use Rattle.geometry.specs.declared.aabb.AABB.{AABB}
use Rattle.geometry.specs.Axes.{segments}
use Rattle.lists.specs.Lists.{every, up_to}
use Rattle.refusals.specs.Refusals.{settle}
use Rattle.refusals.specs.Answers.{reply_in}
use Rattle.input_tests.specs.Front.{mesh_ceiling, limits, by_axis, grid_too_fine}
use Rattle.input_tests.specs.declared.grid.Grid.{Grid}
use Rattle.candidate_outputs.specs.Outputs.{candidate_words, candidate_lengths}
use Rattle.candidate_surface.specs.declared.asked.Asked.{Asked}
use Rattle.candidate_surface.specs.Asked.{asked, grid_of}
use Rattle.boundary_closure.specs.Operation.{candidates_tests, candidates_result}
use Rattle.cases.specs.Comparing.{place_of, free, has_lengths}

abbrev pub box_to : Float → Float → Float → AABB
box_to x y z = record { min_corner = zero_f ∷ zero_f ∷ zero_f ∷ []; max_corner = x ∷ y ∷ z ∷ [] }

-- for so many words of work room lent, and room for n words of candidates
abbrev pub list_reply : List Float → List ℕ → Asked → ℕ → ℕ → List ℕ
list_reply vs fs q lent n = reply_in (candidates_tests vs fs q (limits mesh_ceiling lent)) (candidate_lengths (candidates_result vs fs q)) (n ∷ 8192 ∷ 8192 ∷ 8192 ∷ [])

pub record Listing (vs : List Float) (fs : List ℕ) (q : Asked) (lent : ℕ) (reply c c' : List ℕ) : Type 0 where
  pub replied : reply ≡ list_reply vs fs q lent (length c)
  pub candidates : c' ≡ settle (list_reply vs fs q lent (length c)) (candidate_words (candidates_result vs fs q).all) c

-- for room of n words, all zero
unfoldable pub candidates_in : List Float → List ℕ → Asked → ℕ → ℕ → List ℕ
candidates_in vs fs q lent n = settle (list_reply vs fs q lent n) (candidate_words (candidates_result vs fs q).all) (replicate n 0)

-- the points of which each coordinate is -3/8192, and 3/8192, by their bits
abbrev pub earlier : List ℕ
earlier = 13778763059940032512 ∷ 13778763059940032512 ∷ 13778763059940032512 ∷ []

abbrev pub later : List ℕ
later = 4555391023085256704 ∷ 4555391023085256704 ∷ 4555391023085256704 ∷ []

-- of the first candidate at the later point: it is mesh vertex 1, and no other is there or comes from vertex 0 or 1
abbrev pub is_one : List ℕ → Option ℕ → Bool
is_one words None = false
is_one words (Some at) = eqb (get_or words (5 * at + 3) 0) 2 && every (free words later at) (up_to (length words / 5))

-- "one candidate, the later point": none is at the earlier one
unfoldable pub is_later : List ℕ → Bool
is_later words = is_none (place_of words earlier) && is_one words (place_of words later)

-- the grid is not too fine, and has n segments along x
unfoldable pub cut_in : Grid → ℕ → Bool
cut_in g n = not (grid_too_fine g.extents g.eps (by_axis g.resolution)) && eqb (segments g.extents g.eps (by_axis g.resolution) 0) n

-- 6
abbrev pub is_too_fine : List ℕ → Bool
is_too_fine reply = eqb (get_or reply 0 0) 6

unfoldable pub facet_reply : Asked → ℕ → List ℕ
facet_reply q lent =
    list_reply (zero_f ∷ zero_f ∷ zero_f ∷ one_f ∷ zero_f ∷ zero_f ∷ zero_f ∷ one_f ∷ zero_f ∷ []) (0 ∷ 1 ∷ 2 ∷ []) q lent 8192

-- 2, 256 and 257
abbrev pub two : Float
two = bits 4611686018427387904

abbrev pub most : Float
most = bits 4643211215818981376

abbrev pub more : Float
more = bits 4643228808005025792

abbrev pub later_points : List Float
later_points = let x = bits 4555391023085256704 in neg x ∷ neg x ∷ neg x ∷ x ∷ x ∷ x ∷ zero_f ∷ one_f ∷ zero_f ∷ []

abbrev pub c3b_holds : Bool
c3b_holds =
    has_lengths (list_reply later_points (0 ∷ 1 ∷ 2 ∷ []) (asked (box_to one_f one_f one_f) (bits 4562146422526312448) one_f) 8192 8192) []
    && is_later (candidates_in later_points (0 ∷ 1 ∷ 2 ∷ []) (asked (box_to one_f one_f one_f) (bits 4562146422526312448) one_f) 8192 8192)

abbrev pub c10_holds : Bool
c10_holds = has_lengths (facet_reply (asked (box_to two two two) 1e-10 two) 8192) []

-- 257 places along the axis, four points at each, five words a point
abbrev pub c13_holds : Bool
c13_holds =
    cut_in (grid_of (asked (box_to most one_f one_f) zero_f one_f)) 256
    && (has_lengths (facet_reply (asked (box_to most one_f one_f) zero_f one_f) 265728) (5140 ∷ [])
    && is_too_fine (facet_reply (asked (box_to more one_f one_f) zero_f one_f) 1024))
