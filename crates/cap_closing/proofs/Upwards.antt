-- Laws of lists made place by place, in general. Assumes nothing.
--   map_more, keep_more, count_more   one place more
--   keep_nil         of nothing nothing passes
--   each_up          what holds of each place                  map_each     functions that agree on each
--   keep_up, map_keep_up   tests that agree below k, and functions too
--   at_place         the element at a place
--   few_places       k different numbers below c are at most c
use Prim.Native.Nat.{ℕ, ◌+◌, ◌≤◌, ◌<◌}
use mathlib.Core.Path.{◌≡◌, refl, sym, ap, ◌∙◌}
use mathlib.Core.Bool.{Bool, cond}
use mathlib.Core.List.{List, [], ◌∷◌, ◌++◌, map, map-append}
use native.Mathlib.Omega.{arith}
use lib.ListN.{length, get_or, length-map}
use Rattle.lists.specs.Lists.{keep, count, up_to}
use Rattle.lists.proofs.Counts.{keep_append, keep_same, count_append, count_one}
use Rattle.lists.proofs.Mapped.{Each, each_of, each_keep}
use Rattle.lists.proofs.Places.{of_up, length_up, at_map_up}
use Rattle.lists.proofs.Pigeonhole.{pigeonhole}
use Rattle.lists.proofs.Sequences.{up_snoc}

pub keep_nil : {A : Type 0} (p : A → Bool) → keep p [] ≡ []
keep_nil p = refl

pub map_more : {A : Type 0} (f : ℕ → A) (k : ℕ) → map f (up_to (k + 1)) ≡ map f (up_to k) ++ (f k ∷ [])
map_more f k = ap (map f) (up_snoc k) ∙ map-append f (up_to k) (k ∷ [])

pub keep_more : (p : ℕ → Bool) (k : ℕ) → keep p (up_to (k + 1)) ≡ keep p (up_to k) ++ keep p (k ∷ [])
keep_more p k = ap (keep p) (up_snoc k) ∙ keep_append p (up_to k) (k ∷ [])

pub count_more : (p : ℕ → Bool) (k : ℕ) → count p (up_to (k + 1)) ≡ count p (up_to k) + cond (p k) 1 0
count_more p k = ap (count p) (up_snoc k) ∙ count_append p (up_to k) (k ∷ []) ∙ ap (λ (x : ℕ). count p (up_to k) + x) (count_one p k (p k) refl)

pub each_up : (P : ℕ → Type 0) (k : ℕ) → ((i : ℕ) → i < k → P i) → Each P (up_to k)
each_up P k f = each_of P (up_to k) (λ i m. f i (let h = of_up 0 k m in omega (arith, h.1)))

pub map_each : {A B : Type 0} (f g : A → B) (l : List A) → Each (λ x. f x ≡ g x) l → map f l ≡ map g l
map_each f g [] h = refl
map_each f g (x ∷ l) h = let e = h.0 in let r = map_each f g l h.1 in λ t. e t ∷ r t

pub keep_up : (p q : ℕ → Bool) (k : ℕ) → ((i : ℕ) → i < k → p i ≡ q i) → keep p (up_to k) ≡ keep q (up_to k)
keep_up p q k h = keep_same p q (up_to k) (λ i m. h i (let b = of_up 0 k m in omega (arith, b.1)))

-- places that pass, and what stands there
pub map_keep_up : {A : Type 0} (f g : ℕ → A) (p q : ℕ → Bool) (k : ℕ) → ((i : ℕ) → i < k → f i ≡ g i) → ((i : ℕ) → i < k → p i ≡ q i)
    → map f (keep p (up_to k)) ≡ map g (keep q (up_to k))
map_keep_up f g p q k e h = ap (map f) (keep_up p q k h) ∙ map_each f g (keep q (up_to k)) (each_keep q (λ i. f i ≡ g i) (up_to k) (each_up (λ i. f i ≡ g i) k e))

pub at_place : {A : Type 0} (f : ℕ → A) (d : A) (k i : ℕ) → i < k → get_or (map f (up_to k)) i d ≡ f i
at_place f d k i h = at_map_up f d 0 k i h ∙ ap f (omega arith)

pub few_places : (c k : ℕ) (f : ℕ → ℕ) → ((i : ℕ) → i < k → f i < c) → ((i j : ℕ) → i < j → j < k → f i ≡ f j → ⊥) → k ≤ c
few_places c k f low once =
    let long : length (map f (up_to k)) ≡ k = length-map (up_to k) f ∙ length_up 0 k in
    let at : (i : ℕ) → i < k → get_or (map f (up_to k)) i 0 ≡ f i = λ i h. at_place f 0 k i h in
    let r = pigeonhole c (map f (up_to k))
    (λ i j h l e. once i j h (omega arith) (sym (at i (omega arith)) ∙ e ∙ at j (omega arith)))
    (λ i h. let e = at i (omega arith) in let b = low i (omega arith) in omega arith) in
    omega arith
