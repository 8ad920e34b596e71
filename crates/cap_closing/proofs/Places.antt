-- The first of each kind, by the places of a list. Assumes nothing.
--   first_none, first_some   no earlier place has the key; one has it
--   distinct_places          `distinct` keeps the places that are the first of their key
use Prim.Native.Nat.{ℕ, zero, suc, ◌+◌, ◌≤◌, ◌<◌}
use mathlib.Core.Path.{◌≡◌, refl, sym, ap, ◌∙◌, subst}
use mathlib.Core.Bool.{Bool, true, false, cond, not, ◌||◌}
use mathlib.Core.List.{List, [], ◌∷◌, ◌++◌, map}
use native.Mathlib.Omega.{arith}
use borrow.Author.Tests.{eq-eqb}
use lib.Dec.{T, eqb, eqb→eq}
use Rattle.lists.specs.Lists.{keep, some, distinct_from, distinct, up_from, up_to}
use Rattle.lists.proofs.Members.{some_of, of_some}
use Rattle.lists.proofs.Places.{of_up, up_of}
use Rattle.lists.proofs.Bools.{is_true, is_false}
use Rattle.lists.proofs.Sequences.{up_snoc}
use Rattle.lists.proofs.Multiplicity.{or_swap}
use Rattle.cap_closing.specs.Steps.{is_first}

-- ---- the first of a key

module _ (key : ℕ → ℕ) (i : ℕ) where
  pub first_none : ((p : ℕ) → p < i → key p ≡ key i → ⊥) → is_first key i ≡ true
  unfolding is_first
  first_none h =
      ap not (is_false (some (λ j. eqb (key j) (key i)) (up_to i)) (λ t.
      let r = of_some (λ j. eqb (key j) (key i)) (up_to i) t in
      let l = of_up 0 i r.1 in
      h r.0 (omega (arith, l.1)) (eqb→eq (key r.0) (key i) r.2)))

  pub first_some : (p : ℕ) → p < i → key p ≡ key i → is_first key i ≡ false
  unfolding is_first
  first_some p h e =
      ap not (is_true (some (λ j. eqb (key j) (key i)) (up_to i))
      (some_of (λ j. eqb (key j) (key i)) (up_of 0 i {i = p} (omega arith) (omega arith)) (subst T (sym (eq-eqb (key p) (key i) e)) tt)))

-- ---- `distinct`

some_snoc : {A : Type 0} (p : A → Bool) (l : List A) (x : A) → some p (l ++ (x ∷ [])) ≡ (p x || some p l)
some_snoc p [] x = refl
some_snoc p (y ∷ l) x = ap (λ (b : Bool). p y || b) (some_snoc p l x) ∙ or_swap (p y) (p x) (some p l)

module _ {A : Type 0} (same : A → A → Bool) (f : ℕ → A) (key : ℕ → ℕ) (m : ℕ) (alike : (i j : ℕ) → j < i → i < m → same (f i) (f j) ≡ eqb (key j) (key i)) where
  abbrev seen_by : ℕ → ℕ → Bool
  seen_by k i = some (λ j. eqb (key j) (key i)) (up_to k)

  seen_more : (k i : ℕ) → seen_by (suc k) i ≡ (eqb (key k) (key i) || seen_by k i)
  seen_more k i = ap (λ (l : List ℕ). some (λ j. eqb (key j) (key i)) l) (ap up_to (omega arith) ∙ up_snoc k) ∙ some_snoc (λ j. eqb (key j) (key i)) (up_to k) k

  from : (k n : ℕ) (seen : List A) → k + n ≤ m → ((i : ℕ) → k ≤ i → i < m → some (same (f i)) seen ≡ seen_by k i)
      → distinct_from same seen (map f (up_from k n)) ≡ map f (keep (is_first key) (up_from k n))
  unfolding distinct_from up_from is_first
  from k zero seen l h = refl
  from k (suc n) seen l h =
      let r = from (suc k) n (f k ∷ seen) (omega arith) (λ i a b. (λ t. alike i k (omega arith) b t || h i (omega arith) b t) ∙ sym (seen_more k i)) in
      let e = h k (omega arith) (omega arith) in
      ap (λ (b : Bool). cond b (distinct_from same (f k ∷ seen) (map f (up_from (suc k) n))) (f k ∷ distinct_from same (f k ∷ seen) (map f (up_from (suc k) n)))) e
      ∙ go (seen_by k k) (distinct_from same (f k ∷ seen) (map f (up_from (suc k) n))) (keep (is_first key) (up_from (suc k) n)) r
    where
      go : (b : Bool) (r : List A) (s : List ℕ) → r ≡ map f s → cond b r (f k ∷ r) ≡ map f (cond (not b) (k ∷ s) s)
      go true r s q = q
      go false r s q = ap (λ (l : List A). f k ∷ l) q

  pub distinct_places : distinct same (map f (up_to m)) ≡ map f (keep (is_first key) (up_to m))
  unfolding up_from
  distinct_places = from 0 m [] (omega arith) (λ i a b. refl)
