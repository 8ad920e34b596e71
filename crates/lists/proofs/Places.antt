-- Laws of the places 0, 1, .. n - 1 (`up_to`).
use Prim.Native.Nat.{ℕ, zero, suc, ◌+◌, ◌≤◌, ◌<◌}
use native.Mathlib.Omega.{arith}
use native.Mathlib.Decide.{ℕ_discrete}
use mathlib.Core.Path.{◌≡◌, refl, ap, ◌∙◌}
use mathlib.Core.List.Memᴰ
use mathlib.Core.List.{◌∷◌, map, Memᴰ}
use mathlib.Core.Logic.{◌⊎◌, inl, inr}
use lib.ListN.{get_or, length}
use Rattle.lists.specs.Lists.{up_from}

pub of_up : (k n : ℕ) {i : ℕ} → Memᴰ i (up_from k n) → (k ≤ i) × (i < k + n)
unfolding up_from
of_up k zero m = absurd (Memᴰ.not-nil m)
of_up k (suc n) {i} m = go (of_up (suc k) n {i = i}) (Memᴰ.cases_cons m)
  where
    go : (Memᴰ i (up_from (suc k) n) → (suc k ≤ i) × (i < suc k + n)) → (i ≡ k) ⊎ Memᴰ i (up_from (suc k) n) → (k ≤ i) × (i < k + suc n)
    go f (inl e) = (omega arith, omega arith)
    go f (inr u) = let a = (f u).0 in let b = (f u).1 in (omega arith, omega arith)

pub up_of : (k n : ℕ) {i : ℕ} → k ≤ i → i < k + n → Memᴰ i (up_from k n)
unfolding up_from
up_of k zero a b = absurd (omega arith)
up_of k (suc n) {i} a b = go (ℕ_discrete i k) (up_of (suc k) n {i = i})
  where
    go : Dec (i ≡ k) → (suc k ≤ i → i < suc k + n → Memᴰ i (up_from (suc k) n)) → Memᴰ i (k ∷ up_from (suc k) n)
    go (yes e) f = Memᴰ.head e
    go (no d) f = Memᴰ.tail (f (omega arith) (omega arith))

pub length_up : (k n : ℕ) → length (up_from k n) ≡ n
unfolding up_from
length_up k zero = refl
length_up k (suc n) = ap suc (length_up (suc k) n)

pub at_up : (k n i : ℕ) → i < n → get_or (up_from k n) i 0 ≡ k + i
unfolding up_from
at_up k zero i h = absurd (omega arith)
at_up k (suc n) zero h = omega arith
at_up k (suc n) (suc i) h = at_up (suc k) n i (omega arith) ∙ omega arith

pub at_map_up : {A : Type 0} (f : ℕ → A) (d : A) (k n i : ℕ) → i < n → get_or (map f (up_from k n)) i d ≡ f (k + i)
unfolding up_from
at_map_up f d k zero i h = absurd (omega arith)
at_map_up f d k (suc n) zero h = ap f (omega arith)
at_map_up f d k (suc n) (suc i) h = at_map_up f d (suc k) n i (omega arith) ∙ ap f (omega arith)
