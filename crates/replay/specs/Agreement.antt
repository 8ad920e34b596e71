-- What it means that a stored answer is the definition's. Assumes nothing.
--   SameDouble                a double that is no NaN has these bits
--   SameDoubles, SameWords    the elements of an output are the words from `from` on
--   AgreesWith                  a reply, two outputs and the work room after a call are as stored, and zero
--   Fresh                     work room and outputs before a call
--   OutputsLent               four outputs of words are as long as the record says
--   FreshThree, FreshWords    the same as Fresh of three lists of words and of four     ThreeListed, FourListed   the same as AgreesWith
--   box_in, eps_in, resolution_in, mode_in, caps_in   box, eps, resolution, mode and cap list of a record
--   clip_asked_in, clean_asked_in, asked_in   what is asked of clip, of clean, and of candidates and caps       limits_in   the ceiling, and the work room lent
--   vertex_count_in             the vertex count of boundary components
--   clip_reply, clean_reply, caps_reply   the definitions' replies
--   reported                  a reply as a number and four values
--   ResultStored              the stored answer is this reply, with this mesh in front of old contents
--   ListsWritten              the stored reply is that to these tests, and what stands in the record as outputs is what it makes of old contents
--   ToleranceStored, ClipStored, CleanStored, CandidatesStored, CapsStored, BoundaryStored   it is that of the operation's definition, on the record's request
--   MeshStored, ListingStored   the same of each operation that writes a mesh, and of each that writes lists of words, by the record's operation
--   AnswerStored, ListsStored   and of each operation that takes lists
--   StoredNumbers                   box, eps, resolution and coordinates are doubles, and mode and facet numbers fit 32 bits
--   Agrees                    the record is laid out as its operation's are, and its answer is the definition's
use Rattle.std.specs.Prelude.{ℕ, ◌+◌, ◌%◌, ◌≡◌, false, not, List, [], ◌∷◌, ◌++◌, T, length, get_or, take, drop, replicate, Float}
use Rattle.std.specs.Float.{nan, binary64}
use Rattle.std.specs.Float.Ieee.{is_nan, to_bits, nan_bits}
use Rattle.geometry.specs.declared.aabb.AABB.{AABB}
use Rattle.geometry.specs.Triangles.{flat, threes}
use Rattle.geometry.specs.Meshes.{Mesh, coordinates, mesh_lengths}
use Rattle.refusals.specs.Refusals.{Test, settle}
use Rattle.refusals.specs.Answers.{Output, reply_in, reply_with, AllSettled}
use Rattle.input_tests.specs.Front.{Limits, limits}
use Rattle.tolerance.specs.Tolerance.{tolerance_reply}
use Rattle.aabb_planes.specs.declared.clip.Clip.{Clip}
use Rattle.aabb_clipping.specs.Clip.{clip_asked, clip_tests, clip_result}
use Rattle.mesh_cleanup.specs.Clean.{CleanAsked, clean_asked, clean_tests, clean_result}
use Rattle.candidate_surface.specs.declared.asked.Asked.{Asked}
use Rattle.candidate_surface.specs.Asked.{asked}
use Rattle.candidate_outputs.specs.Outputs.{candidate_outputs}
use Rattle.boundary_closure.specs.Operation.{candidates_tests, candidates_result}
use Rattle.caps.specs.Operation.{caps_result}
use Rattle.boundary_components.specs.Boundary.{boundary_tests, boundary_outputs}
use Rattle.caps.specs.Modes.{mode_of}
use Rattle.yongpham.specs.Calls.{box_of, caps_call_tests}
use Rattle.replay.specs.Words.{Everywhere}
use Rattle.replay.specs.Layout.{stored_reply, outputs_from, output_one, output_two, output_three, output_four, Few, Laid}
use Rattle.replay.specs.Contents.{double_of, doubles_in, numbers_in, old_doubles, old_words}

pub record SameDouble (x : Float) (word : ℕ) : Type 0 where
  pub number : T (not (is_nan x))
  pub bits : to_bits binary64 x ≡ word

abbrev pub SameDoubles : List ℕ → ℕ → List Float → Type 0
SameDoubles stored from output = Everywhere (λ k. SameDouble (get_or output k nan) (get_or stored (from + k) 0)) (length output)

abbrev pub SameWords : List ℕ → ℕ → List ℕ → Type 0
SameWords stored from output = Everywhere (λ k. get_or output k 0 ≡ get_or stored (from + k) 0) (length output)

pub record AgreesWith (stored reply : List ℕ) (vertices : List Float) (facets work : List ℕ) : Type 0 where
  pub replied : reply ≡ stored_reply stored
  pub coordinates : SameDoubles stored (outputs_from stored) vertices
  pub numbers : SameWords stored (outputs_from stored + length vertices) facets
  pub cleared : Everywhere (λ k. get_or work k 0 ≡ 0) (length work)

pub record Fresh (stored work : List ℕ) (vertices : List Float) (facets : List ℕ) : Type 0 where
  pub lent : length work ≡ get_or stored 14 0
  pub coordinates : vertices ≡ old_doubles (get_or stored 15 0)
  pub numbers : facets ≡ old_words (get_or stored 16 0)

-- ---- outputs of words: three, or these and a fourth

pub record OutputsLent (stored a b c d : List ℕ) : Type 0 where
  pub first : length a ≡ get_or stored 15 0
  pub second : length b ≡ get_or stored 16 0
  pub third : length c ≡ get_or stored 17 0
  pub fourth : length d ≡ get_or stored 18 0

pub record FreshThree (stored work a b c : List ℕ) : Type 0 where
  pub lent : length work ≡ get_or stored 14 0
  pub first : a ≡ old_words (get_or stored 15 0)
  pub second : b ≡ old_words (get_or stored 16 0)
  pub third : c ≡ old_words (get_or stored 17 0)

pub record FreshWords (stored work a b c d : List ℕ) : Type 0 where
  pub three : FreshThree stored work a b c
  pub fourth : d ≡ old_words (get_or stored 18 0)

pub record ThreeListed (stored reply a b c work : List ℕ) : Type 0 where
  pub replied : reply ≡ stored_reply stored
  pub cleared : Everywhere (λ n. get_or work n 0 ≡ 0) (length work)
  pub first : a ≡ output_one stored
  pub second : b ≡ output_two stored
  pub third : c ≡ output_three stored

pub record FourListed (stored reply a b c d work : List ℕ) : Type 0 where
  pub three : ThreeListed stored reply a b c work
  pub fourth : d ≡ output_four stored

-- ---- a record's request, and the definitions' answers to it

abbrev pub double_at : List ℕ → ℕ → Float
double_at stored k = double_of (get_or stored k 0)

abbrev pub box_in : List ℕ → AABB
box_in stored = box_of (double_at stored 6) (double_at stored 7) (double_at stored 8) (double_at stored 9) (double_at stored 10) (double_at stored 11)

abbrev pub eps_in : List ℕ → Float
eps_in stored = double_at stored 12

abbrev pub resolution_in : List ℕ → Float
resolution_in stored = double_at stored 13

abbrev pub clip_asked_in : List ℕ → Clip
clip_asked_in stored = clip_asked (box_in stored) (eps_in stored)

abbrev pub clean_asked_in : List ℕ → CleanAsked
clean_asked_in stored = clean_asked (eps_in stored)

abbrev pub asked_in : List ℕ → Asked
asked_in stored = asked (box_in stored) (eps_in stored) (resolution_in stored)

abbrev pub limits_in : List ℕ → Limits
limits_in stored = limits (get_or stored 24 0) (get_or stored 14 0)

abbrev pub vertex_count_in : List ℕ → ℕ
vertex_count_in stored = get_or stored 25 0

-- the low half, where `StoredNumbers` says that the other is 0
abbrev pub mode_in : List ℕ → ℕ
mode_in stored = get_or stored 5 0 % 4294967296

-- behind coordinates and facet numbers
abbrev pub caps_in : List ℕ → List ℕ
caps_in stored = take (get_or stored 4 0) (drop (32 + get_or stored 2 0 + get_or stored 3 0) stored)

abbrev pub reported : List ℕ → List ℕ
reported reply = get_or reply 0 0 ∷ take 4 (drop 1 reply ++ replicate 4 0)

pub record ResultStored (stored reply : List ℕ) (result : Mesh) : Type 0 where
  pub replied : reported reply ≡ stored_reply stored
  pub coords : SameDoubles stored (outputs_from stored) (settle reply (coordinates result.points) (old_doubles (get_or stored 15 0)))
  pub numbers : SameWords stored (outputs_from stored + get_or stored 15 0) (settle reply (flat result.facets) (old_words (get_or stored 16 0)))

pub record ListsWritten (stored : List ℕ) (tests : List Test) (outs : List Output) : Type 0 where
  pub replied : reported (reply_with tests outs) ≡ stored_reply stored
  pub outputs : AllSettled (reply_with tests outs) outs

abbrev pub ToleranceStored : List ℕ → Type 0
ToleranceStored stored = reported (tolerance_reply (box_in stored)) ≡ stored_reply stored

-- the lengths of the two outputs lent
abbrev pub outputs_in : List ℕ → List ℕ
outputs_in stored = get_or stored 15 0 ∷ get_or stored 16 0 ∷ []

-- the definitions' replies, for outputs of these lengths
abbrev pub clip_reply : List Float → List ℕ → Clip → Limits → List ℕ → List ℕ
clip_reply vs fs q l outs = reply_in (clip_tests vs fs q l) (mesh_lengths (clip_result vs fs q)) outs

abbrev pub clean_reply : List Float → List ℕ → CleanAsked → Limits → List ℕ → List ℕ
clean_reply vs fs q l outs = reply_in (clean_tests vs fs q l) (mesh_lengths (clean_result vs fs q)) outs

abbrev pub caps_reply : List Float → List ℕ → List ℕ → Asked → ℕ → Limits → List ℕ → List ℕ
caps_reply vs fs cap_list q mode l outs = reply_in (caps_call_tests vs fs cap_list q mode l) (mesh_lengths (caps_result vs fs cap_list q (mode_of mode))) outs

abbrev pub ClipStored : List ℕ → List Float → List ℕ → Type 0
ClipStored stored vs fs =
    ResultStored stored (clip_reply vs fs (clip_asked_in stored) (limits_in stored) (outputs_in stored)) (clip_result vs fs (clip_asked_in stored))

abbrev pub CleanStored : List ℕ → List Float → List ℕ → Type 0
CleanStored stored vs fs = ResultStored stored (clean_reply vs fs (clean_asked_in stored) (limits_in stored) (outputs_in stored)) (clean_result vs fs (clean_asked_in stored))

abbrev pub CapsStored : List ℕ → List Float → List ℕ → Type 0
CapsStored stored vs fs =
    ResultStored stored
    (caps_reply vs fs (caps_in stored) (asked_in stored) (mode_in stored) (limits_in stored) (outputs_in stored))
    (caps_result vs fs (caps_in stored) (asked_in stored) (mode_of (mode_in stored)))

-- from old contents to what stands in the record
abbrev pub CandidatesStored : List ℕ → List Float → List ℕ → Type 0
CandidatesStored stored vs fs =
    ListsWritten stored (candidates_tests vs fs (asked_in stored) (limits_in stored))
    (candidate_outputs (candidates_result vs fs (asked_in stored)) (old_words (get_or stored 15 0)) (output_one stored) (old_words (get_or stored 16 0)) (output_two stored)
    (old_words (get_or stored 17 0)) (output_three stored) (old_words (get_or stored 18 0)) (output_four stored))

abbrev pub BoundaryStored : List ℕ → List ℕ → Type 0
BoundaryStored stored fs =
    ListsWritten stored (boundary_tests (vertex_count_in stored) fs (limits_in stored))
    (boundary_outputs (threes fs) (old_words (get_or stored 15 0)) (output_one stored) (old_words (get_or stored 16 0)) (output_two stored) (old_words (get_or stored 17 0))
    (output_three stored))

pub data MeshStored (stored : List ℕ) (vs : List Float) (fs : List ℕ) : Type 0 where
  clip : get_or stored 1 0 ≡ 2 → ClipStored stored vs fs → MeshStored stored vs fs
  clean : get_or stored 1 0 ≡ 3 → CleanStored stored vs fs → MeshStored stored vs fs
  caps : get_or stored 1 0 ≡ 5 → CapsStored stored vs fs → MeshStored stored vs fs

pub data ListingStored (stored : List ℕ) (vs : List Float) (fs : List ℕ) : Type 0 where
  candidates : get_or stored 1 0 ≡ 4 → CandidatesStored stored vs fs → ListingStored stored vs fs
  boundary : get_or stored 1 0 ≡ 6 → BoundaryStored stored fs → ListingStored stored vs fs

pub data AnswerStored (stored : List ℕ) (vs : List Float) (fs : List ℕ) : Type 0 where
  mesh : MeshStored stored vs fs → AnswerStored stored vs fs
  listing : ListingStored stored vs fs → AnswerStored stored vs fs

abbrev pub ListsStored : List ℕ → Type 0
ListsStored stored =
    AnswerStored stored (doubles_in stored 32 (get_or stored 2 0)) (numbers_in stored (32 + get_or stored 2 0) (get_or stored 3 0))

abbrev pub PlainDoubles : List ℕ → ℕ → ℕ → Type 0
PlainDoubles stored from n = Everywhere (λ k. nan_bits binary64 (get_or stored (from + k) 0) ≡ false) n

pub record StoredNumbers (stored : List ℕ) : Type 0 where
  pub mode : Few stored 5 1 4294967295
  pub plain : PlainDoubles stored 6 8
  pub coordinates : PlainDoubles stored 32 (get_or stored 2 0)
  pub narrow : Few stored (32 + get_or stored 2 0) (get_or stored 3 0) 4294967295

pub record ListsAgree (stored : List ℕ) : Type 0 where
  pub laid : Laid stored
  pub numbers : StoredNumbers stored
  pub answer : ListsStored stored

pub record ToleranceAgrees (stored : List ℕ) : Type 0 where
  pub whole : length stored ≡ 32
  pub box : PlainDoubles stored 6 6
  pub answer : ToleranceStored stored

pub data Agrees (stored : List ℕ) : Type 0 where
  tolerance : get_or stored 1 0 ≡ 1 → ToleranceAgrees stored → Agrees stored
  lists : ListsAgree stored → Agrees stored
