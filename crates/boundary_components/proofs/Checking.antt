-- Laws of tests 1, 2, 3 and 7, one after the other, and of what is known once they have passed. Assumes nothing.
--   ragged_refused, many_refused, index_refused, room_refused, all_passed_lem   which test the row stops at
--   many, over_vertices, over_facets, not_over   2, of the vertex count and of the facets
--   need_small                             no count wraps
--   passed                                 what all of them give        told   2, of a number that is what the ceiling admits
use Prim.Native.Nat.{ℕ, ◌/◌, ◌%◌, ◌≤◌, ◌<◌}
use native.Mathlib.Omega.{arith}
use mathlib.Core.Bool.{Bool, true, false, ◌||◌}
use mathlib.Core.List.{List, [], ◌∷◌}
use mathlib.Core.Path.{◌≡◌, sym, ap, ◌∙◌}
use borrow.Author.Tests.{ltb-false, lt-ltb, le-ltb, eqb-true, not-false}
use lib.Dec.{ltb, eqb}
use lib.ListN.{length}
use Rattle.lists.proofs.Bools.{or_stop, or_next, or_none_left, or_none_right}
use Rattle.refusals.specs.declared.refusal.Refusal.TheVariants.{Ragged, TooMany, BadIndex, NoWorkRoom}
use Rattle.std.specs.Prelude.{Result, Ok, Err}
use Rattle.refusals.specs.declared.refusal.Refusal.{Refusal}
use Rattle.refusals.specs.Refusals.{Test, first_refusal}
use Rattle.refusals.proofs.Refusals.{holds, passes, none_left}
use Rattle.refusals.proofs.Replies.{head_passed, tail_passed}
use Rattle.input_tests.specs.Front.{Limits, ragged, too_many, admitted, mesh_ceiling, bad_index, work_need}
use Rattle.input_tests.proofs.Lists.{admitted_most}
use Rattle.boundary_components.specs.Boundary.{boundary_tests}
use Rattle.boundary_components.specs.Steps.{Ready}

module _ (vertices : ℕ) (fs : List ℕ) (l : Limits) where
  abbrev pub many : Bool
  many = ltb (admitted l.ceiling) vertices || too_many (admitted l.ceiling) (length fs) 3

  abbrev need : ℕ
  need = work_need vertices (length fs / 3) 0 0

  abbrev work : List Test
  work = (ltb l.lent need, NoWorkRoom need) ∷ []

  abbrev index : List Test
  index = (bad_index vertices fs, BadIndex) ∷ work

  abbrev counts : List Test
  counts = (many, TooMany) ∷ index

  abbrev found : Result (Unit {0}) Refusal
  found = first_refusal (boundary_tests vertices fs l)

  pub ragged_refused : ragged (length fs) 3 ≡ true → ◌≡◌ {A = Result (Unit {0}) Refusal} (Err Ragged) found
  unfolding boundary_tests
  ragged_refused h = sym (holds (ragged (length fs) 3) Ragged counts h)

  pub over_vertices : admitted l.ceiling < vertices → many ≡ true
  over_vertices h = or_stop _ _ (lt-ltb _ _ h)

  pub over_facets : vertices ≤ admitted l.ceiling → too_many (admitted l.ceiling) (length fs) 3 ≡ true → many ≡ true
  over_facets h e = or_next _ _ _ (le-ltb _ _ h) e

  pub not_over : vertices ≤ admitted l.ceiling → too_many (admitted l.ceiling) (length fs) 3 ≡ false → many ≡ false
  not_over h e = or_next _ _ _ (le-ltb _ _ h) e

  module _ (h1 : ragged (length fs) 3 ≡ false) where
    after_ragged : found ≡ first_refusal counts
    unfolding boundary_tests
    after_ragged = passes (ragged (length fs) 3) Ragged counts h1

    pub many_refused : many ≡ true → ◌≡◌ {A = Result (Unit {0}) Refusal} (Err TooMany) found
    many_refused h = sym (after_ragged ∙ holds many TooMany index h)

    module _ (h2 : many ≡ false) where
      after_counts : found ≡ first_refusal index
      after_counts = after_ragged ∙ passes many TooMany index h2

      pub index_refused : bad_index vertices fs ≡ true → ◌≡◌ {A = Result (Unit {0}) Refusal} (Err BadIndex) found
      index_refused h = sym (after_counts ∙ holds (bad_index vertices fs) BadIndex work h)

      module _ (h3 : bad_index vertices fs ≡ false) where
        after_index : found ≡ first_refusal work
        after_index = after_counts ∙ passes (bad_index vertices fs) BadIndex work h3

        pub room_refused : (n : ℕ) → n ≡ need → l.lent < n → ◌≡◌ {A = Result (Unit {0}) Refusal} (Err (NoWorkRoom n)) found
        room_refused n e h =
            ap (λ (k : ℕ). Err (NoWorkRoom k)) e ∙ sym (after_index ∙ holds (ltb l.lent need) (NoWorkRoom need) [] (lt-ltb l.lent need (omega (arith, e, h))))

        pub all_passed_lem : (n : ℕ) → n ≡ need → n ≤ l.lent → ◌≡◌ {A = Result (Unit {0}) Refusal} (Ok tt) found
        all_passed_lem n e h =
            sym (after_index ∙ passes (ltb l.lent need) (NoWorkRoom need) [] (le-ltb l.lent need (omega (arith, e, h))) ∙ none_left)

  -- below the ceiling, so that nothing wraps
  pub few : many ≡ false → (vertices ≤ mesh_ceiling) × (length fs / 3 ≤ mesh_ceiling)
  unfolding too_many
  few h =
      let m = admitted_most l.ceiling in
      let a = ltb-false (admitted l.ceiling) vertices (or_none_left (ltb (admitted l.ceiling) vertices) (too_many (admitted l.ceiling) (length fs) 3) h) in
      let b = ltb-false (admitted l.ceiling) (length fs / 3) (or_none_right (ltb (admitted l.ceiling) vertices) (too_many (admitted l.ceiling) (length fs) 3) h) in
      (omega (arith, a, m), omega (arith, b, m))

  pub passed : found ≡ Ok tt → Ready vertices fs l.lent
  unfolding boundary_tests ragged work_need
  passed e =
      let e2 = tail_passed (ragged (length fs) 3) Ragged counts e in
      let e3 = tail_passed many TooMany index e2 in
      let e4 = tail_passed (bad_index vertices fs) BadIndex work e3 in
      let f = few (head_passed many TooMany index e2) in
      record {
        whole = eqb-true (length fs % 3) 0 (not-false (eqb (length fs % 3) 0) (head_passed (ragged (length fs) 3) Ragged counts e));
        few_vertices = f.0;
        few_facets = f.1;
        below = head_passed (bad_index vertices fs) BadIndex work e3;
        room = ltb-false l.lent need (head_passed (ltb l.lent need) (NoWorkRoom need) [] e4);
      }

-- the test was made of a number that is what the ceiling admits
pub told : (long : ℕ) {most n : ℕ} {b r : Bool} → n ≡ most → b ≡ too_many n long 3 → b ≡ r → too_many most long 3 ≡ r
told long e h f = ap (λ (k : ℕ). too_many k long 3) (sym e) ∙ sym h ∙ f
