-- A list of numbers below n with no repeats has at most n of them. Assumes nothing.
--   pairwise_places   a relation of each and each later one, by places
--   pigeonhole        the law, by places
use Prim.Native.Nat.{ℕ, zero, suc, ◌≤◌, ◌<◌}
use native.Mathlib.Omega.{arith}
use mathlib.Core.Path.{◌≡◌, refl, sym, ap, ◌∙◌}
use mathlib.Core.Bool.{Bool, true, false, not}
use mathlib.Core.List.{List, [], ◌∷◌}
use mathlib.Core.Logic.{⊎_elim}
use lib.Dec.{T, T_not, eqb, eqb_refl}
use lib.ListN.{get_or, length}
use borrow.Author.Tests.{eqb-true, ne_eqb}
use Rattle.lists.specs.Lists.{keep}
use Rattle.lists.proofs.Mapped.{Each, Pairwise, each_of, of_each, each_map, each_places, keep_all, pairwise_keep}
use Rattle.lists.proofs.Members.{of_keep}
use Rattle.lists.proofs.Multiplicity.{keep_yes, keep_no}
use Rattle.lists.proofs.Orders.{cases}

pub pairwise_places : {A : Type 0} (R : A → A → Type 0) (d : A) (l : List A) → ((i j : ℕ) → i < j → j < length l → R (get_or l i d) (get_or l j d)) → Pairwise R l
pairwise_places R d [] f = tt
pairwise_places R d (x ∷ l) f =
    (each_places (R x) d l (λ j h. f 0 (suc j) (omega arith) (omega arith)), pairwise_places R d l (λ i j h k. f (suc i) (suc j) (omega arith) (omega arith)))

abbrev Differ : ℕ → ℕ → Type 0
Differ x y = x ≡ y → ⊥

abbrev is_not : ℕ → ℕ → Bool
is_not m x = not (eqb m x)

-- at most one of them is m
one_less : (m : ℕ) (l : List ℕ) → Pairwise Differ l → length l ≤ suc (length (keep (is_not m) l))
one_less m [] h = omega arith
one_less m (x ∷ l) h =
    ⊎_elim
    (λ (e : is_not m x ≡ true). let r = one_less m l h.1 in rw (keep_yes (is_not m) x l e) (omega arith))
    (λ (e : is_not m x ≡ false). let same = keep_all (is_not m) l (each_map (Differ x) (λ y. is_not m y ≡ true) (λ y d. ap not (ne_eqb m y (λ q. d (sym (first e) ∙ q)))) l h.0) in
    rw (keep_no (is_not m) x l e) (rw same (omega arith)))
    (cases (is_not m x))
  where
    undo : (b : Bool) → not b ≡ false → b ≡ true
    undo true e = refl
    undo false e = sym e

    first : is_not m x ≡ false → m ≡ x
    first e = eqb-true m x (undo (eqb m x) e)

below : (n : ℕ) (l : List ℕ) → Pairwise Differ l → Each (λ x. x < n) l → length l ≤ n
below zero [] h e = omega arith
below zero (x ∷ l) h e = absurd (omega (arith, e.0))
below (suc m) l h e =
    let r = below m (keep (is_not m) l) (pairwise_keep (is_not m) Differ l h)
    (each_of (λ x. x < m) (keep (is_not m) l) (λ x k. lower x (of_keep (is_not m) l k).1 (of_each (λ y. y < suc m) (of_keep (is_not m) l k).0 e))) in
    omega (arith, one_less m l h)
  where
    lower : (x : ℕ) → T (is_not m x) → x < suc m → x < m
    lower x t a = let d : (m ≡ x → ⊥) = λ q. T_not (eqb m x) t (rw q (eqb_refl x)) in omega arith

pub pigeonhole : (n : ℕ) (l : List ℕ) → ((i j : ℕ) → i < j → j < length l → get_or l i 0 ≡ get_or l j 0 → ⊥) →
    ((i : ℕ) → i < length l → get_or l i 0 < n) → length l ≤ n
pigeonhole n l once low = below n l (pairwise_places Differ 0 l once) (each_places (λ x. x < n) 0 l low)
