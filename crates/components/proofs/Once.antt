-- Lists in which each item stands once, and how many items two of them have; what a Bool decides.
use Prim.Native.Nat.{ℕ, zero, suc, ◌≤◌, ◌<◌}
use native.Mathlib.Omega.{arith}
use native.Mathlib.Decide.{ℕ_discrete}
use mathlib.Core.Path.{◌≡◌, refl, sym, ap, ◌∙◌, subst}
use mathlib.Core.Bool.{Bool, true, false, cond}
use mathlib.Core.List.Memᴰ
use mathlib.Core.List.{List, [], ◌∷◌, Memᴰ}
use mathlib.Core.Logic.{◌⊎◌, inl, inr}
use lib.Dec.{T, eqb, eqb→eq, eqb_refl}
use lib.ListN.{get_or, length}
use borrow.Author.Tests.{eq-eqb, ne_eqb}
use Rattle.lists.specs.Lists.{keep, place, up_from, Decides}
use Rattle.lists.proofs.Members.{of_keep, get_d_mem}
use Rattle.lists.proofs.Places.{of_up}
use Rattle.components.specs.Joined.{Once}

-- two Bools that decide the same are the same
pub decides_same : {P Q : Type 0} (r s : Bool) → Decides P r → Decides Q s → (P → Q) → (Q → P) → r ≡ s
decides_same true true a b f g = refl
decides_same false false a b f g = refl
decides_same true false a b f g = absurd (b.complete (f (a.sound tt)))
decides_same false true a b f g = absurd (a.complete (g (b.sound tt)))

pub decides_eqb : (i j : ℕ) → Decides (i ≡ j) (eqb i j)
decides_eqb i j = record { sound = eqb→eq i j; complete = λ e. subst (λ (x : ℕ). T (eqb i x)) e (eqb_refl i) }

-- a test may be put for another of the same proposition
pub decides_as : {P Q : Type 0} {r : Bool} → (P → Q) → (Q → P) → Decides P r → Decides Q r
decides_as f g d = record { sound = λ t. f (d.sound t); complete = λ q. d.complete (g q) }

pub once_keep : (p : ℕ → Bool) (l : List ℕ) → Once l → Once (keep p l)
once_keep p [] o = tt
once_keep p (i ∷ l) o = go (p i) (once_keep p l o.1)
  where
    go : (b : Bool) → Once (keep p l) → Once (cond b (i ∷ keep p l) (keep p l))
    go true h = (λ m. o.0 (of_keep p l m).0, h)
    go false h = h

pub once_up : (k n : ℕ) → Once (up_from k n)
unfolding up_from
once_up k zero = tt
once_up k (suc n) = (λ m. let h = (of_up (suc k) n m).0 in omega arith, once_up (suc k) n)

-- ---- a list in which each stands once is no longer than one that holds all of them

-- l without the first i
without : ℕ → List ℕ → List ℕ
without i [] = []
without i (j ∷ l) = elim (ℕ_discrete j i) [ yes e ↦ l | no d ↦ j ∷ without i l ]

without_length : (i : ℕ) (l : List ℕ) → Memᴰ i l → length l ≡ suc (length (without i l))
unfolding without
without_length i [] m = absurd (Memᴰ.not-nil m)
without_length i (j ∷ l) m = go (ℕ_discrete j i) (without_length i l) (Memᴰ.cases_cons m)
  where
    go : (d : Dec (j ≡ i)) → (Memᴰ i l → length l ≡ suc (length (without i l))) → (i ≡ j) ⊎ Memᴰ i l
        → suc (length l) ≡ suc (length {A = ℕ} (elim d as (λ x. List ℕ) [ yes e ↦ l | no d ↦ j ∷ without i l ]))
    go (yes e) f c = refl
    go (no d) f (inl e) = absurd (d (sym e))
    go (no d) f (inr u) = ap suc (f u)

without_keeps : (i k : ℕ) (l : List ℕ) → (k ≡ i → ⊥) → Memᴰ k l → Memᴰ k (without i l)
unfolding without
without_keeps i k [] n m = m
without_keeps i k (j ∷ l) n m = go (ℕ_discrete j i) (without_keeps i k l n) (Memᴰ.cases_cons m)
  where
    go : (d : Dec (j ≡ i)) → (Memᴰ k l → Memᴰ k (without i l)) → (k ≡ j) ⊎ Memᴰ k l
        → Memᴰ k (elim d as (λ x. List ℕ) [ yes e ↦ l | no d ↦ j ∷ without i l ])
    go (yes e) f (inl c) = absurd (n (c ∙ e))
    go (yes e) f (inr u) = u
    go (no d) f (inl c) = Memᴰ.head c
    go (no d) f (inr u) = Memᴰ.tail (f u)

pub once_shorter : (xs ys : List ℕ) → Once xs → ((j : ℕ) → Memᴰ j xs → Memᴰ j ys) → length xs ≤ length ys
once_shorter [] ys o h = omega arith
once_shorter (i ∷ xs) ys o h =
    let e = without_length i ys (h i (Memᴰ.head refl)) in
    let r = once_shorter xs (without i ys) o.1 (λ j m. without_keeps i j ys (λ q. o.0 (subst (λ (x : ℕ). Memᴰ x xs) q m)) (h j (Memᴰ.tail m))) in
    omega arith

-- ---- where an item stands

pub place_once : (l : List ℕ) → Once l → (a : ℕ) → a < length l → place (eqb (get_or l a 0)) l ≡ a
unfolding place
place_once [] o a h = absurd (omega arith)
place_once (i ∷ l) o zero h = rw (eq-eqb i i refl) refl
place_once (i ∷ l) o (suc a) h =
    let d : get_or l a 0 ≡ i → ⊥ = λ e. o.0 (subst (λ (x : ℕ). Memᴰ x l) e (get_d_mem l a 0 (omega arith))) in
    rw (ne_eqb (get_or l a 0) i d) (ap suc (place_once l o.1 a (omega arith)))
