-- Members of the lists that `some`, `keep` and the library's `flat_map` make.
use Prim.Native.Nat.{ℕ, zero, suc, ◌≤◌, ◌<◌}
use native.Mathlib.Omega.{arith}
use mathlib.Core.Path.{◌≡◌, refl, sym, ap, ◌∙◌, subst}
use mathlib.Core.Bool.{Bool, true, false, cond, ◌&&◌, ◌||◌}
use mathlib.Core.List.Memᴰ
use mathlib.Core.List.{List, [], ◌∷◌, flat_map, Memᴰ}
use mathlib.Core.Logic.{◌⊎◌, inl, inr}
use lib.Dec.{T, eqb, eqb→eq, eqb_refl}
use lib.ListN.{get_or, length}
use Rattle.lists.specs.Lists.{every, some, keep, place, has}

pub or_left : (b c : Bool) → T b → T (b || c)
or_left true c t = tt
or_left false c t = elim t [ ]

pub or_right : (b c : Bool) → T c → T (b || c)
or_right true c t = tt
or_right false c t = t

pub or_cases : (b c : Bool) → T (b || c) → T b ⊎ T c
or_cases true c t = inl tt
or_cases false c t = inr t

pub and_parts : (b c : Bool) → T (b && c) → T b × T c
and_parts true c t = (tt, t)
and_parts false c t = absurd t

pub and_of : (b c : Bool) → T b → T c → T (b && c)
and_of true c s t = t
and_of false c s t = absurd s

module _ {A : Type 0} (p : A → Bool) where
  pub some_of : {x : A} {l : List A} → Memᴰ x l → T (p x) → T (some p l)
  some_of (Memᴰ.head {x = y} {xs} e) t = or_left (p y) (some p xs) (subst (λ (z : A). T (p z)) e t)
  some_of (Memᴰ.tail {x = y} {xs} m) t = or_right (p y) (some p xs) (some_of m t)

  abbrev pub Found : List A → Type 0
  Found l = (x : A) × Memᴰ x l × T (p x)

  pub of_some : (l : List A) → T (some p l) → Found l
  of_some [] t = absurd t
  of_some (y ∷ l) t = go (p y) refl (of_some l) t
    where
      go : (b : Bool) → p y ≡ b → (T (some p l) → Found l) → T (b || some p l) → Found (y ∷ l)
      go true e f t = (y, Memᴰ.head refl, subst T (sym e) tt)
      go false e f t = let r = f t in (r.0, Memᴰ.tail r.1, r.2)

  pub keep_of : {x : A} {l : List A} → Memᴰ x l → T (p x) → Memᴰ x (keep p l)
  keep_of {x} (Memᴰ.head {x = y} {xs} e) t = go (p y) (subst (λ (z : A). T (p z)) e t)
    where
      go : (b : Bool) → T b → Memᴰ x (cond b (y ∷ keep p xs) (keep p xs))
      go true u = Memᴰ.head e
      go false u = elim u [ ]
  keep_of {x} (Memᴰ.tail {x = y} {xs} m) t = go (p y) (keep_of m t)
    where
      go : (b : Bool) → Memᴰ x (keep p xs) → Memᴰ x (cond b (y ∷ keep p xs) (keep p xs))
      go true u = Memᴰ.tail u
      go false u = u

  pub of_keep : (l : List A) {x : A} → Memᴰ x (keep p l) → Memᴰ x l × T (p x)
  of_keep [] m = (m, absurd (Memᴰ.not-nil m))
  of_keep (y ∷ l) {x} m = go (p y) refl (of_keep l {x = x}) m
    where
      go : (b : Bool) → p y ≡ b → (Memᴰ x (keep p l) → Memᴰ x l × T (p x)) → Memᴰ x (cond b (y ∷ keep p l) (keep p l)) → Memᴰ x (y ∷ l) × T (p x)
      go true e f (Memᴰ.head d) = (Memᴰ.head d, subst T (sym (ap p d ∙ e)) tt)
      go true e f (Memᴰ.tail u) = (Memᴰ.tail (f u).0, (f u).1)
      go false e f u = (Memᴰ.tail (f u).0, (f u).1)

  -- what stands at the place of the first that passes passes
  pub place_some : (d : A) (l : List A) → T (some p l) → Memᴰ (get_or l (place p l) d) l × T (p (get_or l (place p l) d))
  unfolding place
  place_some d [] t = absurd t
  place_some d (x ∷ l) t = go (p x) refl (place_some d l) t
    where
      go : (b : Bool) → p x ≡ b → (T (some p l) → Memᴰ (get_or l (place p l) d) l × T (p (get_or l (place p l) d))) → T (b || some p l)
          → Memᴰ (get_or (x ∷ l) (cond b 0 (suc (place p l))) d) (x ∷ l) × T (p (get_or (x ∷ l) (cond b 0 (suc (place p l))) d))
      go true e f t = (Memᴰ.head refl, subst T (sym e) tt)
      go false e f t = (Memᴰ.tail (f t).0, (f t).1)

  pub every_at : {x : A} {l : List A} → Memᴰ x l → T (every p l) → T (p x)
  every_at {x} (Memᴰ.head {x = y} {xs} e) t = subst (λ (z : A). T (p z)) (sym e) (and_parts (p y) (every p xs) t).0
  every_at {x} (Memᴰ.tail {x = y} {xs} m) t = every_at m (and_parts (p y) (every p xs) t).1

module _ {A B : Type 0} (f : A → List B) where
  pub flat_map_of : {x : A} {y : B} {l : List A} → Memᴰ x l → Memᴰ y (f x) → Memᴰ y (flat_map f l)
  unfolding flat_map
  flat_map_of {y = y} (Memᴰ.head {x = z} {xs} e) m = Memᴰ.append_left (flat_map f xs) (subst (λ (u : A). Memᴰ y (f u)) e m)
  flat_map_of (Memᴰ.tail {x = z} {xs} n) m = Memᴰ.append_right (f z) (flat_map_of n m)

  pub of_flat_map : (l : List A) {y : B} → Memᴰ y (flat_map f l) → (x : A) × Memᴰ x l × Memᴰ y (f x)
  unfolding flat_map
  of_flat_map [] m = absurd (Memᴰ.not-nil m)
  of_flat_map (z ∷ l) {y} m = go (of_flat_map l {y = y}) (Memᴰ.append_cases (f z) m)
    where
      go : (Memᴰ y (flat_map f l) → (x : A) × Memᴰ x l × Memᴰ y (f x)) → Memᴰ y (f z) ⊎ Memᴰ y (flat_map f l)
          → (x : A) × Memᴰ x (z ∷ l) × Memᴰ y (f x)
      go g (inl u) = (z, Memᴰ.head refl, u)
      go g (inr u) = let r = g u in (r.0, Memᴰ.tail r.1, r.2)

pub has_of : {l : List ℕ} {i : ℕ} → Memᴰ i l → T (has l i)
has_of {l} {i} m = some_of (eqb i) m (eqb_refl i)

pub of_has : (l : List ℕ) (i : ℕ) → T (has l i) → Memᴰ i l
of_has l i t = let r = of_some (eqb i) l t in subst (λ (x : ℕ). Memᴰ x l) (sym (eqb→eq i r.0 r.2)) r.1

-- an element by its place is a member, and a member stands at a place
pub get_d_mem : {A : Type 0} (l : List A) (i : ℕ) (d : A) → i < length l → Memᴰ (get_or l i d) l
get_d_mem [] i d h = absurd (omega arith)
get_d_mem (x ∷ l) zero d h = Memᴰ.head refl
get_d_mem (x ∷ l) (suc i) d h = Memᴰ.tail (get_d_mem l i d (omega arith))

pub mem_get_d : {A : Type 0} (d : A) {x : A} {l : List A} → Memᴰ x l → (i : ℕ) × (i < length l) × (get_or l i d ≡ x)
mem_get_d d (Memᴰ.head e) = (0, omega arith, sym e)
mem_get_d d (Memᴰ.tail m) = let r = mem_get_d d m in let h = r.1 in (suc r.0, omega arith, r.2)

-- what stands before the place of the first that passes does not pass
module _ {A : Type 0} (p : A → Bool) where
  pub place_le : (l : List A) → place p l ≤ length l
  unfolding place
  place_le [] = omega arith
  place_le (x ∷ l) = go (p x) (place_le l)
    where
      go : (b : Bool) → place p l ≤ length l → cond b 0 (suc (place p l)) ≤ suc (length l)
      go true h = omega arith
      go false h = omega arith

  pub place_before : (d : A) (l : List A) (i : ℕ) → i < place p l → T (p (get_or l i d)) → ⊥
  unfolding place
  place_before d [] i h t = omega arith
  place_before d (x ∷ l) i h t = go (p x) refl i h t (λ j. place_before d l j)
    where
      go : (b : Bool) → p x ≡ b → (i : ℕ) → i < cond b 0 (suc (place p l)) → T (p (get_or (x ∷ l) i d)) → ((j : ℕ) → j < place p l → T (p (get_or l j d)) → ⊥) → ⊥
      go true e i h t f = omega arith
      go false e zero h t f = subst T e t
      go false e (suc i) h t f = f i (omega arith) t

  pub place_at : (d : A) (l : List A) → place p l < length l → T (p (get_or l (place p l) d))
  unfolding place
  place_at d [] h = absurd (omega arith)
  place_at d (x ∷ l) h = go (p x) refl h (place_at d l)
    where
      go : (b : Bool) → p x ≡ b → cond b 0 (suc (place p l)) < suc (length l) → (place p l < length l → T (p (get_or l (place p l) d))) → T
          (p (get_or (x ∷ l) (cond b 0 (suc (place p l))) d))
      go true e h f = subst T (sym e) tt
      go false e h f = f (omega arith)
