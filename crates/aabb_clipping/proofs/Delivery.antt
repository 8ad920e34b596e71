-- Laws of what the operation leaves behind: after a refusal, and after the passes. Assumes nothing.
--   none_front                           an empty part of an output, lent to a pass, that came back
--   ample, inside                        outputs that hold whatever the facets could give, and a mesh wholly inside
--   short_vertices, short_facets, done   test 12, and the mesh written
--   Ready, ready                         what is known once the tests in front have passed
--   numbers_fine, lists_refused, number_refused, box_refused, room_refused, all_passed_lem   the tests in front, one after the other
use Prim.Native.Nat.{ℕ, ◌+◌, ◌*◌, ◌/◌, ◌≤◌, ◌<◌}
use mathlib.Core.Bool.{Bool, true, false, not, ◌&&◌}
use mathlib.Core.List.{List, [], ◌∷◌, ◌++◌}
use mathlib.Core.Path.{◌≡◌, refl, sym, ap, ◌∙◌}
use native.Mathlib.Omega.{arith}
use borrow.Author.Tests.{ltb-false, lt-ltb, le-ltb}
use lib.Dec.{ltb}
use lib.ListN.{length}
use lib.Seq.{sets}
use lib.Ieee.{Float}
use Rattle.lists.specs.Lists.{every}
use Rattle.lists.proofs.Bools.{and_next}
use Rattle.words.proofs.Overlay.{sets_overlay}
use Rattle.geometry.specs.Triangles.{flat}
use Rattle.geometry.specs.Meshes.{Mesh, mesh_of, points_of, coordinates}
use Rattle.geometry.proofs.Threes.{length_threes}
use Rattle.geometry.proofs.Meshes.{length_coordinates}
use Rattle.refusals.specs.declared.refusal.Refusal.{Refusal}
use Rattle.refusals.specs.declared.refusal.Refusal.TheVariants.{BadNumber, BadBox, NoWorkRoom, NoRoom}
use Rattle.std.specs.Prelude.{Ok, Err}
use Rattle.refusals.specs.Refusals.{documented_reply, Test, first_refusal}
use Rattle.refusals.specs.Answers.{Output, output, mesh_outputs, Answer}
use Rattle.input_tests.specs.Front.{Limits, list_tests, bad_index, in_range, eps_in_range, box_in_range, bad_box, work_need}
use Rattle.refusals.proofs.Refusals.{holds, passes, none_left, row_passed, row_refused}
use Rattle.refusals.proofs.Replies.{head_passed, tail_passed, row_front, row_rest}
use Rattle.input_tests.proofs.Lists.{listed}
use Rattle.refusals.proofs.Answers.{short, done as all_done}
use Rattle.aabb_facets.specs.Clipped.{inside_box}
use Rattle.aabb_facets.proofs.Bounds.{most, inside_most}
use Rattle.aabb_planes.specs.declared.clip.Clip.{Clip}
use Rattle.aabb_clipping.specs.Clip.{clip_tests, clip_result}
use Rattle.aabb_clipping.specs.Steps.{Fits}

pub none_front : {A : Type 0} (e old : List A) → length e ≡ 0 → e ++ old ≡ old
none_front [] old h = refl
none_front (x ∷ xs) old h = absurd (omega arith)

-- ---- ample outputs
module _ (vs : List Float) (fs : List ℕ) (q : Clip) (a b : ℕ) where
  pub ample : 84 * (length fs / 3) ≤ a → 78 * (length fs / 3) ≤ b → Fits (clip_result vs fs q) a b
  unfolding clip_result
  ample h g =
      let k = most q.extents q.eps (mesh_of vs fs) in
      let t = length_threes fs in
      record { vertices = omega (arith, k.0, t); facets = omega (arith, k.1, t) }

  pub inside : bad_index (length vs / 3) fs ≡ false → length vs ≤ a → length fs ≤ b → every (inside_box q.extents q.eps) (points_of vs) ≡ true → Fits (clip_result vs fs q) a b
  unfolding clip_result
  inside e h g w = let k = inside_most q.extents q.eps vs fs e w in record { vertices = omega (arith, k.0); facets = omega (arith, k.1) }

-- ---- test 12, and the writing. The counts k of vertices and j of facet numbers are the mesh's
module _ (m : Mesh) (v v' : List Float) (f f' : List ℕ) (k j : ℕ) (ek : k ≡ length m.points) (ej : j ≡ length (flat m.facets)) where
  abbrev nv : ℕ
  nv = length (coordinates m.points)

  abbrev nf : ℕ
  nf = length (flat m.facets)

  length_is : 3 * k ≡ nv
  length_is = omega (arith, length_coordinates m.points)

  abbrev out_v : Output
  out_v = output (coordinates m.points) v v'

  abbrev out_f : Output
  out_f = output (flat m.facets) f f'

  pub short_vertices : length v < 3 * k → v' ≡ v → f' ≡ f → Answer [] (mesh_outputs m v v' f f') (documented_reply (Err (NoRoom (3 * k))))
  short_vertices h a b = short [] out_v (out_f ∷ []) (3 * k) length_is tt h (a, (b, tt))

  pub short_facets : 3 * k ≤ length v → length f < j → v' ≡ v → f' ≡ f → Answer [] (mesh_outputs m v v' f f') (documented_reply (Err (NoRoom j)))
  short_facets h g a b = short (out_v ∷ []) out_f [] j ej (omega (arith, length_is, h), tt) g (a, (b, tt))

  pub done : 3 * k ≤ length v → j ≤ length f → v' ≡ sets v 0 (coordinates m.points) → f' ≡ sets f 0 (flat m.facets)
      → Answer [] (mesh_outputs m v v' f f') (documented_reply (Ok (3 * k ∷ j ∷ [])))
  done h g a b =
      let fit_v : nv ≤ length v = omega (arith, length_is, h) in
      let fit_f : nf ≤ length f = omega (arith, ej, g) in
      all_done (out_v ∷ out_f ∷ []) (3 * k ∷ j ∷ []) (λ i. length_is i ∷ ej i ∷ []) (fit_v, (fit_f, tt))
      (a ∙ sets_overlay (coordinates m.points) v fit_v, (b ∙ sets_overlay (flat m.facets) f fit_f, tt))

pub record Ready (vs : List Float) (fs : List ℕ) (lent : ℕ) : Type 0 where
  pub few : (length vs / 3 ≤ 65536) × (length fs / 3 ≤ 65536)
  pub below : bad_index (length vs / 3) fs ≡ false
  pub room : length vs / 3 ≤ lent

pub ready : (vs : List Float) (fs : List ℕ) (q : Clip) (l : Limits) → first_refusal (clip_tests vs fs q l) ≡ Ok tt → Ready vs fs l.lent
unfolding clip_tests work_need
ready vs fs q l e =
    let need = 128 * (length vs / 3 + length fs / 3 + 0 + 0) + 1024 in
    let lists = list_tests l.ceiling vs fs 0 in
    let room : Test = (ltb l.lent need, NoWorkRoom need) in
    let bad : Test = (bad_box q.extents, BadBox) in
    let number = not (every in_range vs && (box_in_range q.extents && eps_in_range q.eps)) in
    let p = listed l.ceiling vs fs 0 (row_front lists ((number, BadNumber) ∷ bad ∷ room ∷ []) e) in
    let e4 = row_rest lists ((number, BadNumber) ∷ bad ∷ room ∷ []) e in
    let e5 = tail_passed number BadNumber (bad ∷ room ∷ []) e4 in
    let e7 = tail_passed (bad_box q.extents) BadBox (room ∷ []) e5 in
    let h = ltb-false l.lent need (head_passed (ltb l.lent need) (NoWorkRoom need) [] e7) in
    record { few = (p.few_vertices, p.few_facets); below = p.below; room = omega arith }

-- ---- the tests in front, one after the other

-- all numbers are in range, by the three functions that say so
pub numbers_fine : (a b d x y z : Bool) → a ≡ x → b ≡ y → d ≡ z → a ≡ true → b ≡ true → d ≡ true → not (x && (y && z)) ≡ false
numbers_fine a b d x y z ea eb ed ha hb hd = ap not (and_next x (y && z) true (sym ea ∙ ha) (and_next y z true (sym eb ∙ hb) (sym ed ∙ hd)))

module _ (vs : List Float) (fs : List ℕ) (q : Clip) (l : Limits) where
  abbrev lists : List Test
  lists = list_tests l.ceiling vs fs 0

  abbrev bad_number : Bool
  bad_number = not (every in_range vs && (box_in_range q.extents && eps_in_range q.eps))

  abbrev need : ℕ
  need = work_need (length vs / 3) (length fs / 3) 0 0

  abbrev rest : List Test
  rest = (bad_number, BadNumber) ∷ (bad_box q.extents, BadBox) ∷ (ltb l.lent need, NoWorkRoom need) ∷ []

  pub lists_refused : (r : Refusal) → first_refusal lists ≡ Err r → Err r ≡ first_refusal (clip_tests vs fs q l)
  unfolding clip_tests
  lists_refused r e = sym (row_refused lists rest r e)

  module _ (e : first_refusal lists ≡ Ok tt) where
    pub number_refused : bad_number ≡ true → Err BadNumber ≡ first_refusal (clip_tests vs fs q l)
    unfolding clip_tests
    number_refused h = sym (row_passed lists rest e ∙ holds bad_number BadNumber ((bad_box q.extents, BadBox) ∷ (ltb l.lent need, NoWorkRoom need) ∷ []) h)

    module _ (h : bad_number ≡ false) where
      after_numbers : first_refusal (clip_tests vs fs q l) ≡ first_refusal ((bad_box q.extents, BadBox) ∷ (ltb l.lent need, NoWorkRoom need) ∷ [])
      unfolding clip_tests
      after_numbers = row_passed lists rest e ∙ passes bad_number BadNumber ((bad_box q.extents, BadBox) ∷ (ltb l.lent need, NoWorkRoom need) ∷ []) h

      pub box_refused : bad_box q.extents ≡ true → Err BadBox ≡ first_refusal (clip_tests vs fs q l)
      box_refused g = sym (after_numbers ∙ holds (bad_box q.extents) BadBox ((ltb l.lent need, NoWorkRoom need) ∷ []) g)

      module _ (g : bad_box q.extents ≡ false) (n : ℕ) (en : n ≡ need) where
        after_box : first_refusal (clip_tests vs fs q l) ≡ first_refusal ((ltb l.lent n, NoWorkRoom n) ∷ [])
        after_box =
            after_numbers ∙ passes (bad_box q.extents) BadBox ((ltb l.lent need, NoWorkRoom need) ∷ []) g
            ∙ ap (λ (k : ℕ). first_refusal ((ltb l.lent k, NoWorkRoom k) ∷ [])) (sym en)

        pub room_refused : l.lent < n → Err (NoWorkRoom n) ≡ first_refusal (clip_tests vs fs q l)
        room_refused k = sym (after_box ∙ holds (ltb l.lent n) (NoWorkRoom n) [] (lt-ltb l.lent n k))

        pub all_passed_lem : n ≤ l.lent → Ok tt ≡ first_refusal (clip_tests vs fs q l)
        all_passed_lem k = sym (after_box ∙ passes (ltb l.lent n) (NoWorkRoom n) [] (le-ltb l.lent n k) ∙ none_left)
