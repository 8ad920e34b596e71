-- Laws of tests of a range, and of two lists side by side. Assumes nothing.
use Prim.Native.Nat.{ℕ, zero, suc, ◌+◌, ◌≤◌, ◌<◌}
use mathlib.Core.Path.{◌≡◌, refl, sym, ap, ◌∙◌}
use mathlib.Core.Bool.{Bool, true, false, cond, ◌&&◌}
use mathlib.Core.List.{List, [], ◌∷◌}
use native.Mathlib.Omega.{arith}
use lib.ListN.{length, get_or}
use Rattle.std.specs.List.{range_with_len, list_all, zip, starts_with}
use Rattle.std.specs.Prelude.{Option, None, Some}
use Rattle.std.specs.Option.{option_map}
use Rattle.lists.specs.Lists.{every, up_from, up_to, first}

-- the library's range, as the definitions write it
pub up_range : (k n : ℕ) → range_with_len k n ≡ up_from k n
unfolding up_from
up_range k zero = refl
up_range k (suc n) = let next : k + 1 ≡ suc k = omega arith in ap (λ (l : List ℕ). k ∷ l) (ap (λ (j : ℕ). range_with_len j n) next ∙ up_range (suc k) n)

-- a list begins with another exactly if it is as long and each element of the other is beside the same
pub zip_starts : {A : Type 0} (same : A → A → Bool) (list front : List A) → length front ≤ length list
    → list_all (λ (p : A × A). same p.0 p.1) (zip front list) ≡ starts_with same list front
zip_starts same l [] h = refl
zip_starts same [] (x ∷ f) h = absurd (none h)
  where
    none : suc (length f) ≤ 0 → ⊥
    none h = omega arith
zip_starts same (y ∷ l) (x ∷ f) h = ap (λ (b : Bool). same x y && b) (zip_starts same l f (omega arith))

every_later : (p : ℕ → Bool) (k n : ℕ) → every p (up_from (suc k) n) ≡ every (λ (j : ℕ). p (suc j)) (up_from k n)
unfolding up_from
every_later p k zero = refl
every_later p k (suc n) = ap (λ (b : Bool). p (suc k) && b) (every_later p (suc k) n)

-- a test of two lists of length n side by side is the test of their elements at each number below n
pub zip_every : {A B : Type 0} (p : A → B → Bool) (d : A) (e : B) (n : ℕ) (l : List A) (m : List B) → length l ≡ n → length m ≡ n
    → list_all (λ (c : A × B). p c.0 c.1) (zip l m) ≡ every (λ (k : ℕ). p (get_or l k d) (get_or m k e)) (up_to n)
unfolding up_from
zip_every p d e zero [] [] a b = refl
zip_every p d e zero (x ∷ l) m a b = cc
zip_every p d e zero [] (y ∷ m) a b = cc
zip_every p d e (suc n) [] m a b = cc
zip_every p d e (suc n) (x ∷ l) [] a b = cc
zip_every p d e (suc n) (x ∷ l) (y ∷ m) a b =
    ap (λ (r : Bool). p x y && r)
    (zip_every p d e n l m (omega (arith, a)) (omega (arith, b)) ∙ sym (every_later (λ (k : ℕ). p (get_or (x ∷ l) k d) (get_or (y ∷ m) k e)) 0 n))

pub same_found : {A : Type 0} (r : Option A) → option_map (λ (x : A). x) r ≡ r
same_found None = refl
same_found (Some x) = refl

-- the place of the first of the numbers below n that passes is one of them
found_from : (p : ℕ → Bool) (k n r : ℕ) → first p (up_from k n) ≡ Some r → r < k + n
unfolding up_from
found_from p k zero r e = cc
found_from p k (suc n) r e = by_test (p k) k n r (found_from p (suc k) n r) e
  where
    by_test : {o : Option ℕ} (b : Bool) (k n r : ℕ) → (o ≡ Some r → r < suc k + n) → cond b (Some k) o ≡ Some r → r < k + suc n
    by_test true k n r f e = let h : k ≡ r = cc in omega arith
    by_test false k n r f e = omega (arith, f e)

pub found_below : (p : ℕ → Bool) (n r : ℕ) → first p (up_to n) ≡ Some r → r < n
found_below p n r e = omega (arith, found_from p 0 n r e)
