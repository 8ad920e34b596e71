-- Calls from C (include/yongpham.h): a box is six doubles, a mode is a number. What a call promises is `Called` of crate refusals. Assumes nothing.
--   box_of           the box from its corners
--   mode_of          a mode from its number, as crate caps has it
--   no_mode_tests     the tests of a number that is no mode: "part of 4, in its place"        caps_call_tests   those of any number
--   CapsCalled      what the function of caps promises: the answer; and of a call that is done, on a mesh that has an open edge with two ends, demand 3
use Rattle.std.specs.Prelude.{ℕ, ◌≡◌, true, false, cond, List, [], ◌∷◌, ◌++◌, ltb, length, get_or, Float}
use Rattle.geometry.specs.declared.aabb.AABB.{AABB}
use Rattle.refusals.specs.declared.refusal.Refusal.TheVariants.{BadNumber}
use Rattle.refusals.specs.Refusals.{Test}
use Rattle.refusals.specs.Answers.{mesh_outputs, Called}
use Rattle.input_tests.specs.Front.{Limits, limits, list_tests}
use Rattle.candidate_surface.specs.declared.asked.Asked.{Asked}
use Rattle.caps.specs.Modes.{mode_of}
use Rattle.caps.specs.Operation.{caps_tests, caps_result, unchanged, Closes}

abbrev pub box_of : Float → Float → Float → Float → Float → Float → AABB
box_of min_x min_y min_z max_x max_y max_z =
    record { min_corner = min_x ∷ min_y ∷ min_z ∷ []; max_corner = max_x ∷ max_y ∷ max_z ∷ [] }

module _ (vs : List Float) (fs cap_list : List ℕ) (q : Asked) (mode : ℕ) where
  -- of a number that is no mode: "part of 4, in its place"
  abbrev pub no_mode_tests : ℕ → List Test
  no_mode_tests ceiling = list_tests ceiling vs fs (length cap_list) ++ (true, BadNumber) ∷ []

  -- of any number
  abbrev pub caps_call_tests : Limits → List Test
  caps_call_tests l = cond (ltb 2 mode) (no_mode_tests l.ceiling) (caps_tests vs fs cap_list q (mode_of mode) l)

  -- under a ceiling, from work room w and outputs v and f to w', v' and f', with the number r and the four words `values`
  pub record CapsCalled (ceiling r : ℕ) (values w w' : List ℕ) (v v' : List Float) (f f' : List ℕ) : Type 0 where
    pub answered : Called (caps_call_tests (limits ceiling (length w))) (mesh_outputs (caps_result vs fs cap_list q (mode_of mode)) v v' f f') w w' r values
    pub rule : r ≡ 0 → unchanged vs fs cap_list q (mode_of mode) ≡ false → Closes vs fs cap_list q (mode_of mode) (r ∷ get_or values 0 0 ∷ get_or values 1 0 ∷ []) v v' f f'
