-- Laws of lists in general: `some` and `place` over lists that are made of parts. Assumes nothing.
--   eqb_sym                          a test either way
--   some_one, some_map, some_none    `some`
--   some_threes, some_places         three at a time; by places
--   place_stops, place_goes, place_map, place_same      `place`
use Prim.Native.Nat.{ℕ, zero, suc, ◌+◌, ◌*◌, ◌≤◌, ◌<◌}
use mathlib.Core.Bool.{Bool, true, false, cond, ◌||◌, or-false}
use mathlib.Core.List.{List, [], ◌∷◌, ◌++◌, map, Memᴰ}
use mathlib.Core.Path.{◌≡◌, refl, sym, ap, ◌∙◌}
use native.Mathlib.Omega.{arith}
use native.Mathlib.Numerals.{add-one}
use lib.ListN.{length, get_or}
use Rattle.lists.specs.Lists.{some, place, up_from, up_to}
use Rattle.lists.proofs.Sequences.{some_up}

-- ---- some
module _ {A : Type 0} (p : A → Bool) where
  pub some_one : (x : A) → some p (x ∷ []) ≡ p x
  some_one x = or-false (p x)

  pub some_map : {B : Type 0} (g : B → A) (l : List B) → some p (map g l) ≡ some (λ x. p (g x)) l
  some_map g [] = refl
  some_map g (x ∷ l) = ap (λ (b : Bool). p (g x) || b) (some_map g l)

pub some_none : (p : ℕ → Bool) → some p (up_to 0) ≡ false
unfolding up_from
some_none p = refl

abbrev any_of_three : (ℕ → Bool) → ℕ → Bool
any_of_three p i = p (3 * i) || (p (3 * i + 1) || p (3 * i + 2))

-- 0 .. 3 m - 1 are three for each of 0 .. m - 1
pub some_threes : (p : ℕ → Bool) (m : ℕ) → some p (up_to (3 * m)) ≡ some (λ i. p (3 * i) || (p (3 * i + 1) || p (3 * i + 2))) (up_to m)
some_threes p zero = some_none p ∙ sym (some_none (λ i. p (3 * i) || (p (3 * i + 1) || p (3 * i + 2))))
some_threes p (suc m) =
    ap (λ (k : ℕ). some p (up_to k)) (three m)
    ∙ some_up p (3 * m + 1 + 1) ∙ ap (λ (b : Bool). b || p (3 * m + 1 + 1))
    (some_up p (3 * m + 1) ∙ ap (λ (b : Bool). b || p (3 * m + 1)) (some_up p (3 * m) ∙ ap (λ (b : Bool). b || p (3 * m)) (some_threes p m)))
    ∙ ap (λ (k : ℕ). ((some (any_of_three p) (up_to m) || p (3 * m)) || p (3 * m + 1)) || p k) (two m)
    ∙ group (some (any_of_three p) (up_to m)) (p (3 * m)) (p (3 * m + 1)) (p (3 * m + 2))
    ∙ sym (some_up (any_of_three p) m) ∙ ap (λ (k : ℕ). some (any_of_three p) (up_to k)) (add-one m)
  where
    three : (m : ℕ) → 3 * suc m ≡ 3 * m + 1 + 1 + 1
    three m = omega arith

    two : (m : ℕ) → 3 * m + 1 + 1 ≡ 3 * m + 2
    two m = omega arith

    group : (a b c d : Bool) → (((a || b) || c) || d) ≡ (a || (b || (c || d)))
    group true b c d = refl
    group false true c d = refl
    group false false c d = refl

-- by their places
some_from : {A : Type 0} (p : A → Bool) (d : A) (g : ℕ → A) (l : List A) (k : ℕ) → ((i : ℕ) → i < length l → g (k + i) ≡ get_or l i d) → some
    (λ i. p (g i)) (up_from k (length l)) ≡
    some p l
unfolding up_from
some_from p d g [] k h = refl
some_from p d g (x ∷ l) k h =
    let e : p (g k) ≡ p x = ap (λ (y : ℕ). p (g y)) (start k) ∙ ap p (h 0 (omega arith)) in
    let f = some_from p d g l (suc k) (λ i b. ap g (later k i) ∙ h (suc i) (omega arith)) in
    λ t. e t || f t
  where
    start : (k : ℕ) → k ≡ k + 0
    start k = omega arith

    later : (k i : ℕ) → suc k + i ≡ k + suc i
    later k i = omega arith

pub some_places : {A : Type 0} (p : A → Bool) (d : A) (l : List A) → some p l ≡ some (λ i. p (get_or l i d)) (up_to (length l))
some_places p d l = sym (some_from p d (λ i. get_or l i d) l 0 (λ i h. ap (λ (x : ℕ). get_or l x d) (start i)))
  where
    start : (i : ℕ) → 0 + i ≡ i
    start i = omega arith

-- ---- place
module _ {A : Type 0} (p : A → Bool) where
  pub place_stops : (l r : List A) → place p l < length l → place p (l ++ r) ≡ place p l
  unfolding place
  place_stops [] r h = absurd (omega arith)
  place_stops (x ∷ l) r h = go (p x) h (λ k. place_stops l r k)
    where
      go : (b : Bool) → cond b 0 (suc (place p l)) < suc (length l) → (place p l < length l → place p (l ++ r) ≡ place p l)
          → cond b 0 (suc (place p (l ++ r))) ≡ cond b 0 (suc (place p l))
      go true h f = refl
      go false h f = ap suc (f (omega arith))

  pub place_goes : (l r : List A) → length l ≤ place p l → place p (l ++ r) ≡ length l + place p r
  unfolding place
  place_goes [] r h = omega arith
  place_goes (x ∷ l) r h = go (p x) h (λ k. place_goes l r k)
    where
      go : (b : Bool) → suc (length l) ≤ cond b 0 (suc (place p l)) → (length l ≤ place p l → place p (l ++ r) ≡ length l + place p r)
          → cond b 0 (suc (place p (l ++ r))) ≡ suc (length l) + place p r
      go true h f = absurd (omega arith)
      go false h f = let e = f (omega arith) in omega arith

  pub place_map : {B : Type 0} (g : B → A) (l : List B) → place p (map g l) ≡ place (λ x. p (g x)) l
  unfolding place
  place_map g [] = refl
  place_map g (x ∷ l) = ap (λ (k : ℕ). cond (p (g x)) 0 (suc k)) (place_map g l)

pub place_same : {A : Type 0} (p q : A → Bool) (l : List A) → ((x : A) → Memᴰ x l → p x ≡ q x) → place p l ≡ place q l
unfolding place
place_same p q [] h = refl
place_same p q (x ∷ l) h =
    let a = h x (Memᴰ.head refl) in
    let b = place_same p q l (λ y m. h y (Memᴰ.tail m)) in
    λ t. cond (a t) 0 (suc (b t))
