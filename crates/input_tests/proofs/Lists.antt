-- What tests 1, 2 and 3 give, once they have passed. Assumes nothing.
--   admitted_most, admitted_all, admitted_over   no ceiling admits more than 65,536; what a ceiling below that admits, and what another does
--   listed, cap_listed   of the mesh, and of the cap list
--   same_lists, same_row   where two ceilings both admit a mesh, 1, 2 and 3 are the same tests, and so is a row that begins with them
use Prim.Native.Nat.{ℕ, ◌/◌, ◌%◌, ◌≤◌, ◌<◌}
use mathlib.Core.Path.{◌≡◌, sym, ap, ◌∙◌}
use mathlib.Core.Bool.{false, ◌||◌}
use mathlib.Core.List.{List, [], ◌∷◌, ◌++◌}
use native.Mathlib.Omega.{arith}
use borrow.Author.Tests.{le-ltb, ltb-false, eqb-true, not-false}
use lib.Dec.{eqb}
use lib.ListN.{length}
use lib.Ieee.{Float}
use Rattle.lists.proofs.Bools.{or_none_left, or_none_right}
use Rattle.refusals.specs.declared.refusal.Refusal.TheVariants.{Ragged, TooMany, BadIndex}
use Rattle.std.specs.Prelude.{Ok}
use Rattle.refusals.specs.Refusals.{Test, first_refusal}
use Rattle.refusals.proofs.Replies.{head_passed, tail_passed}
use Rattle.input_tests.specs.Front.{ragged, too_many, mesh_ceiling, admitted, Admits, cap_ceiling, bad_index, list_tests, ListsPass, CapListPass}

pub admitted_most : (ceiling : ℕ) → admitted ceiling ≤ mesh_ceiling
unfolding admitted
admitted_most ceiling = omega arith

pub admitted_all : (ceiling : ℕ) → ceiling < mesh_ceiling → ceiling ≡ admitted ceiling
unfolding admitted
admitted_all ceiling h = omega arith

pub admitted_over : (ceiling : ℕ) → mesh_ceiling ≤ ceiling → mesh_ceiling ≡ admitted ceiling
unfolding admitted
admitted_over ceiling h = omega arith

module _ (ceiling : ℕ) (vs : List Float) (fs : List ℕ) (caps : ℕ) where
  abbrev second : List Test
  second =
      (too_many (admitted ceiling) (length vs) 3 || (too_many (admitted ceiling) (length fs) 3 || too_many cap_ceiling caps 4), TooMany) ∷ (bad_index (length vs / 3) fs, BadIndex) ∷ []

  pub listed : first_refusal (list_tests ceiling vs fs caps) ≡ Ok tt → ListsPass vs fs
  unfolding ragged too_many
  listed e =
      let r1 = head_passed (ragged (length vs) 3 || (ragged (length fs) 3 || ragged caps 4)) Ragged second e in
      let e2 = tail_passed (ragged (length vs) 3 || (ragged (length fs) 3 || ragged caps 4)) Ragged second e in
      let any_many = too_many (admitted ceiling) (length vs) 3 || (too_many (admitted ceiling) (length fs) 3 || too_many cap_ceiling caps 4) in
      let r2 = head_passed any_many TooMany ((bad_index (length vs / 3) fs, BadIndex) ∷ []) e2 in
      let e3 = tail_passed any_many TooMany ((bad_index (length vs / 3) fs, BadIndex) ∷ []) e2 in
      let s1 = or_none_right (ragged (length vs) 3) (ragged (length fs) 3 || ragged caps 4) r1 in
      let s2 = or_none_right (too_many (admitted ceiling) (length vs) 3) (too_many (admitted ceiling) (length fs) 3 || too_many cap_ceiling caps 4) r2 in
      record {
        whole_vertices = eqb-true (length vs % 3) 0 (not-false (eqb (length vs % 3) 0) (or_none_left (ragged (length vs) 3) (ragged (length fs) 3 || ragged caps 4) r1));
        whole_facets = eqb-true (length fs % 3) 0 (not-false (eqb (length fs % 3) 0) (or_none_left (ragged (length fs) 3) (ragged caps 4) s1));
        few_vertices =
            let h = ltb-false (admitted ceiling) (length vs / 3) (or_none_left (too_many (admitted ceiling) (length vs) 3) (too_many (admitted ceiling) (length fs)
            3 || too_many cap_ceiling caps 4) r2) in
            omega (arith, h, admitted_most ceiling);
        few_facets =
            let h = ltb-false (admitted ceiling) (length fs / 3) (or_none_left (too_many (admitted ceiling) (length fs) 3) (too_many cap_ceiling caps 4) s2) in
            omega (arith, h, admitted_most ceiling);
        below = head_passed (bad_index (length vs / 3) fs) BadIndex [] e3;
      }

  pub cap_listed : first_refusal (list_tests ceiling vs fs caps) ≡ Ok tt → CapListPass caps
  unfolding ragged too_many
  cap_listed e =
      let any_ragged = ragged (length vs) 3 || (ragged (length fs) 3 || ragged caps 4) in
      let any_many = too_many (admitted ceiling) (length vs) 3 || (too_many (admitted ceiling) (length fs) 3 || too_many cap_ceiling caps 4) in
      let r1 = head_passed any_ragged Ragged second e in
      let r2 = head_passed any_many TooMany ((bad_index (length vs / 3) fs, BadIndex) ∷ []) (tail_passed any_ragged Ragged second e) in
      let s1 = or_none_right (ragged (length vs) 3) (ragged (length fs) 3 || ragged caps 4) r1 in
      let s2 = or_none_right (too_many (admitted ceiling) (length vs) 3) (too_many (admitted ceiling) (length fs) 3 || too_many cap_ceiling caps 4) r2 in
      record {
        whole = eqb-true (caps % 4) 0 (not-false (eqb (caps % 4) 0) (or_none_right (ragged (length fs) 3) (ragged caps 4) s1));
        few = ltb-false cap_ceiling (caps / 4) (or_none_right (too_many (admitted ceiling) (length fs) 3) (too_many cap_ceiling caps 4) s2);
      }

-- 2 holds of neither list
not_over : (ceiling long : ℕ) → long / 3 ≤ admitted ceiling → too_many (admitted ceiling) long 3 ≡ false
unfolding too_many
not_over ceiling long h = le-ltb (admitted ceiling) (long / 3) h

pub same_lists : (c d : ℕ) (vs : List Float) (fs : List ℕ) (caps : ℕ) → Admits c vs fs → Admits d vs fs → list_tests c vs fs caps ≡ list_tests d vs fs caps
same_lists c d vs fs caps hc hd =
    let v = not_over c (length vs) hc.vertices ∙ sym (not_over d (length vs) hd.vertices) in
    let f = not_over c (length fs) hc.facets ∙ sym (not_over d (length fs) hd.facets) in
    λ t. (ragged (length vs) 3 || (ragged (length fs) 3 || ragged caps 4), Ragged)
    ∷ (v t || (f t || too_many cap_ceiling caps 4), TooMany)
    ∷ (bad_index (length vs / 3) fs, BadIndex) ∷ []

pub same_row : (c d : ℕ) (vs : List Float) (fs : List ℕ) (caps : ℕ) (rest : List Test) → Admits c vs fs → Admits d vs fs
    → list_tests c vs fs caps ++ rest ≡ list_tests d vs fs caps ++ rest
same_row c d vs fs caps rest hc hd = ap (λ (l : List Test). l ++ rest) (same_lists c d vs fs caps hc hd)
