-- Laws of what the operation leaves behind: the tests in front, test 12, and the writing. Assumes nothing.
--   lists_refused, number_refused, room_refused, key_refused, all_passed_lem   the tests in front, one after the other
--   ready                                what is known once they have passed
--   short_vertices, short_facets, done   test 12, and the mesh written
--   cleaned_up                           the work room cleared
use Prim.Native.Nat.{ℕ, ◌+◌, ◌*◌, ◌/◌, ◌≤◌, ◌<◌}
use native.Mathlib.Omega.{arith}
use mathlib.Core.Bool.{Bool, true, false, not, ◌&&◌}
use mathlib.Core.List.{List, [], ◌∷◌, map}
use mathlib.Core.Path.{◌≡◌, sym, ap, ◌∙◌}
use borrow.Author.Tests.{ltb-false, lt-ltb, le-ltb}
use lib.Dec.{ltb}
use lib.ListN.{length, replicate, length-map}
use lib.Ieee.{Float}
use Rattle.lists.specs.Lists.{every}
use Rattle.lists.specs.Regions.{view}
use Rattle.lists.proofs.Regions.{view_length}
use Rattle.words.specs.Overlay.{overlay}
use Rattle.geometry.specs.Triangles.{flat}
use Rattle.geometry.specs.Meshes.{Mesh, coordinates, vertex_of}
use Rattle.geometry.proofs.Meshes.{length_coordinates}
use Rattle.refusals.specs.declared.refusal.Refusal.{Refusal}
use Rattle.refusals.specs.declared.refusal.Refusal.TheVariants.{BadNumber, NoWorkRoom, KeyRange, NoRoom}
use Rattle.std.specs.Prelude.{Result, Ok, Err}
use Rattle.refusals.specs.Refusals.{documented_reply, Test, first_refusal}
use Rattle.refusals.specs.Answers.{Output, output, mesh_outputs, Answer}
use Rattle.input_tests.specs.Front.{Limits, limits, list_tests, in_range, eps_in_range, work_need, far_keys}
use Rattle.refusals.proofs.Refusals.{holds, passes, none_left, row_passed, row_refused}
use Rattle.refusals.proofs.Replies.{head_passed, tail_passed, row_front, row_rest}
use Rattle.input_tests.proofs.Lists.{listed}
use Rattle.refusals.proofs.Answers.{short, done as all_done, answered}
use Rattle.mesh_compact.specs.declared.compact.Staged.{Staged}
use Rattle.mesh_compact.proofs.Statuses.{rule}
use Rattle.mesh_cleanup.specs.Clean.{CleanAsked, clean_tests, clean_result, Cleaned}
use Rattle.mesh_cleanup.specs.Steps.{CleanReady, Staging}

-- ---- the tests in front, one after the other

module _ (vs : List Float) (fs : List ℕ) (q : CleanAsked) (l : Limits) where
  abbrev lists : List Test
  lists = list_tests l.ceiling vs fs 0

  abbrev bad_number : Bool
  bad_number = not (every in_range vs && eps_in_range q.eps)

  abbrev need : ℕ
  need = work_need (length vs / 3) (length fs / 3) 0 0

  abbrev keys : List Test
  keys = (far_keys q.eps vs, KeyRange) ∷ []

  abbrev rest : List Test
  rest = (bad_number, BadNumber) ∷ (ltb l.lent need, NoWorkRoom need) ∷ (far_keys q.eps vs, KeyRange) ∷ []

  pub lists_refused : (r : Refusal) → first_refusal lists ≡ Err r → Err r ≡ first_refusal (clean_tests vs fs q l)
  unfolding clean_tests
  lists_refused r e = sym (row_refused lists rest r e)

  module _ (e : first_refusal lists ≡ Ok tt) where
    pub number_refused : bad_number ≡ true → Err BadNumber ≡ first_refusal (clean_tests vs fs q l)
    unfolding clean_tests
    number_refused h = sym (row_passed lists rest e ∙ holds bad_number BadNumber ((ltb l.lent need, NoWorkRoom need) ∷ keys) h)

    module _ (h : bad_number ≡ false) (n : ℕ) (en : n ≡ need) where
      after_numbers : first_refusal (clean_tests vs fs q l) ≡ first_refusal ((ltb l.lent n, NoWorkRoom n) ∷ keys)
      unfolding clean_tests
      after_numbers =
          row_passed lists rest e ∙ passes bad_number BadNumber ((ltb l.lent need, NoWorkRoom need) ∷ keys) h
          ∙ ap (λ (k : ℕ). first_refusal ((ltb l.lent k, NoWorkRoom k) ∷ keys)) (sym en)

      pub room_refused : l.lent < n → Err (NoWorkRoom n) ≡ first_refusal (clean_tests vs fs q l)
      room_refused k = sym (after_numbers ∙ holds (ltb l.lent n) (NoWorkRoom n) keys (lt-ltb l.lent n k))

      module _ (k : n ≤ l.lent) where
        after_room : first_refusal (clean_tests vs fs q l) ≡ first_refusal keys
        after_room = after_numbers ∙ passes (ltb l.lent n) (NoWorkRoom n) keys (le-ltb l.lent n k)

        pub key_refused : far_keys q.eps vs ≡ true → Err KeyRange ≡ first_refusal (clean_tests vs fs q l)
        key_refused g = sym (after_room ∙ holds (far_keys q.eps vs) KeyRange [] g)

        pub all_passed_lem : far_keys q.eps vs ≡ false → Ok tt ≡ first_refusal (clean_tests vs fs q l)
        all_passed_lem g = sym (after_room ∙ passes (far_keys q.eps vs) KeyRange [] g ∙ none_left)

  pub ready : first_refusal (clean_tests vs fs q l) ≡ Ok tt → CleanReady vs fs q l.lent
  unfolding clean_tests work_need
  ready e =
      let n = 128 * (length vs / 3 + length fs / 3 + 0 + 0) + 1024 in
      let work : Test = (ltb l.lent n, NoWorkRoom n) in
      let p = listed l.ceiling vs fs 0 (row_front lists ((bad_number, BadNumber) ∷ work ∷ keys) e) in
      let e4 = row_rest lists ((bad_number, BadNumber) ∷ work ∷ keys) e in
      let e7 = tail_passed bad_number BadNumber (work ∷ keys) e4 in
      let e8 = tail_passed (ltb l.lent n) (NoWorkRoom n) keys e7 in
      let h = ltb-false l.lent n (head_passed (ltb l.lent n) (NoWorkRoom n) keys e7) in
      record {
        lists = p;
        near = head_passed (far_keys q.eps vs) KeyRange [] e8;
        room = omega arith;
      }

-- ---- test 12, and the writing

module _ (vs : List Float) (m : Mesh) (s : Staged) (w : List ℕ) (S : Staging vs m s w) (v v' : List Float) (f f' : List ℕ) where
  abbrev nv : ℕ
  nv = length (coordinates m.points)

  abbrev nf : ℕ
  nf = length (flat m.facets)

  length_is : 3 * s.vertices ≡ nv
  length_is =
      let a = length-map (view w s.order s.vertices) (vertex_of vs) in
      let b = view_length w s.order s.vertices S.vertices_in in
      let c = ap length S.delivered.vertices in
      omega (arith, length_coordinates m.points)

  numbers_is : s.numbers ≡ nf
  numbers_is = sym (view_length w s.corners s.numbers S.numbers_in) ∙ ap length S.delivered.numbers

  abbrev out_v : Output
  out_v = output (coordinates m.points) v v'

  abbrev out_f : Output
  out_f = output (flat m.facets) f f'

  pub short_vertices : length v < 3 * s.vertices → v' ≡ v → f' ≡ f → Answer [] (mesh_outputs m v v' f f') (documented_reply (Err (NoRoom (3 * s.vertices))))
  short_vertices h a b = short [] out_v (out_f ∷ []) (3 * s.vertices) length_is tt h (a, (b, tt))

  pub short_facets : 3 * s.vertices ≤ length v → length f < s.numbers → v' ≡ v → f' ≡ f → Answer [] (mesh_outputs m v v' f f')
      (documented_reply (Err (NoRoom s.numbers)))
  short_facets h g a b = short (out_v ∷ []) out_f [] s.numbers numbers_is (omega (arith, length_is, h), tt) g (a, (b, tt))

  pub done : 3 * s.vertices ≤ length v → s.numbers ≤ length f → v' ≡ overlay (coordinates (map (vertex_of vs) (view w s.order s.vertices))) v → f' ≡ overlay
      (view w s.corners s.numbers) f
      → Answer [] (mesh_outputs m v v' f f') (documented_reply (Ok (3 * s.vertices ∷ s.numbers ∷ [])))
  done h g a b =
      all_done (out_v ∷ out_f ∷ []) (3 * s.vertices ∷ s.numbers ∷ []) (λ i. length_is i ∷ numbers_is i ∷ []) (omega (arith, length_is, h), (omega (arith, numbers_is, g), tt))
      (a ∙ ap (λ l. overlay (coordinates l) v) S.delivered.vertices, (b ∙ ap (λ (l : List ℕ). overlay l f) S.delivered.numbers, tt))

-- ---- the work room cleared

pub cleaned_up : (vs : List Float) (fs : List ℕ) (q : CleanAsked) (ceiling : ℕ) (r : Result (List ℕ) Refusal) (w u w' : List ℕ) (v v' : List Float) (f f' : List ℕ)
    → Answer (clean_tests vs fs q (limits ceiling (length w))) (mesh_outputs (clean_result vs fs q) v v' f f') (documented_reply r)
    → length u ≡ length w → w' ≡ replicate (length u) 0 → Cleaned vs fs q ceiling r w w' v v' f f'
cleaned_up vs fs q ceiling r w u w' v v' f f' a e z =
    record {
      answered = answered (clean_tests vs fs q (limits ceiling (length w))) (mesh_outputs (clean_result vs fs q) v v' f f') w u w' (documented_reply r) a e z;
      rule = rule q.eps _ _ 2;
    }
