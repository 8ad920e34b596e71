-- The largest whole number whose square is at most n (`WholeRoot` of specs/Drawn.antt), as specs/Root.antt computes it. Nothing here is about doubles. Assumes nothing.
use mathlib.Core.Path.{◌≡◌, refl, sym, ap, ◌∙◌}
use mathlib.Core.Logic.{◌⊎◌, inl, inr}
use mathlib.Core.Bool.{Bool, true, false, cond, not}
use Prim.Native.Nat.{ℕ, zero, suc, ◌+◌, ◌*◌, ◌/◌, ◌^◌, ◌≤◌, ◌<◌}
use native.Mathlib.Nat.{mul_assoc, mul_comm, mul-one, mul-le-mul, lt_of_lt_of_le, lt_irrefl, two-pow-succ, pow-succ', pow-suc, zero-lt-suc}
use native.Mathlib.Omega.{arith}
use lib.Dec.{T, leb, leb→le, nleb→lt}
use Rattle.root.specs.Drawn.{WholeRoot}
use Rattle.root.specs.Root.{whole_root}
use Rattle.root.proofs.Grid.{lt_or_ge, double, next_square, sq_lt}

-- a root of n / 4, doubled, is the root of n or one less
lower : (n r : ℕ) → WholeRoot (n / 4) r → 2 * r * (2 * r) ≤ n
lower n r w = omega (arith, double r)

upper : (n r : ℕ) → WholeRoot (n / 4) r → n < (2 * r + 1 + 1) * (2 * r + 1 + 1)
upper n r w =
    let e : (2 * r + 1 + 1) * (2 * r + 1 + 1) ≡ 4 * ((r + 1) * (r + 1)) = ap (λ (z : ℕ). z * z) (twice r) ∙ double (r + 1) in
    omega arith
  where
    twice : (r : ℕ) → 2 * r + 1 + 1 ≡ 2 * (r + 1)
    twice r = omega arith

quarter : (n k : ℕ) → n < 4 ^ suc k → n / 4 < 4 ^ k
quarter n k h = let e : 4 ^ suc k ≡ 4 * 4 ^ k = pow-succ' 4 k in omega arith

pub whole_root_lem : (k n : ℕ) → n < 4 ^ k → WholeRoot n (whole_root k n)
unfolding whole_root
whole_root_lem zero n h = record { reaches = omega arith; next = omega arith }
whole_root_lem (suc k) n h =
    let r = whole_root k (n / 4) in
    let w = whole_root_lem k (n / 4) (quarter n k h) in
    go (2 * r) (lower n r w) (upper n r w) (leb ((2 * r + 1) * (2 * r + 1)) n) (leb→le ((2 * r + 1) * (2 * r + 1)) n) (nleb→lt ((2 * r + 1) * (2 * r + 1)) n)
  where
    go : (s : ℕ) → s * s ≤ n → n < (s + 1 + 1) * (s + 1 + 1) → (b : Bool) → (T b → (s + 1) * (s + 1) ≤ n) → (T (not b) → n < (s + 1) * (s + 1)) → WholeRoot n (cond b (s + 1) s)
    go s a c true f g = record { reaches = f tt; next = c }
    go s a c false f g = record { reaches = a; next = g tt }

-- no other number is
not_below : {n r s : ℕ} → WholeRoot n r → WholeRoot n s → r < s → ⊥
not_below {n} {r} {s} a b l = let h : (r + 1) * (r + 1) ≤ s * s = mul-le-mul (up r s l) (up r s l) in omega (arith, a.next, b.reaches)
  where
    up : (r s : ℕ) → r < s → r + 1 ≤ s
    up r s l = omega arith

pub whole_unique : {n r s : ℕ} → WholeRoot n r → WholeRoot n s → r ≡ s
whole_unique {n} {r} {s} a b = elim (lt_or_ge r s) [
  | inl l ↦ absurd (not_below a b l)
  | inr l ↦ elim (lt_or_ge s r) [ inl m ↦ absurd (not_below b a m) | inr m ↦ omega arith ]
]

-- it has no more than k digits
pub whole_small : (k n : ℕ) → whole_root k n < 2 ^ k
unfolding whole_root
whole_small zero n = zero-lt-suc 0
whole_small (suc k) n =
    let r = whole_root k (n / 4) in
    go r (whole_small k (n / 4)) (leb ((2 * r + 1) * (2 * r + 1)) n)
  where
    go : (r : ℕ) → r < 2 ^ k → (b : Bool) → cond b (2 * r + 1) (2 * r) < 2 ^ suc k
    go r h true = omega (arith, two-pow-succ k)
    go r h false = omega (arith, two-pow-succ k)

-- ---- (2 * w) ^ 2 and (2 * w + 2) ^ 2 against 4 * n, where s is a sum of two doubles

module _ {n w : ℕ} (r : WholeRoot n w) (s : ℕ) where
  pub exact_above : w * w ≡ n → 2 * w < s → 4 * n < s * s
  exact_above e h = omega (arith, sq_lt (2 * w) s h, double w)

  pub exact_below : w * w ≡ n → s < 2 * w → s * s < 4 * n
  exact_below e h = omega (arith, sq_lt s (2 * w) h, double w)

  pub between_above : 2 * (w + 1) ≤ s → 4 * n < s * s
  between_above h =
      let g : 2 * (w + 1) * (2 * (w + 1)) ≤ s * s = mul-le-mul h h in
      omega (arith, double (w + 1), r.next)

  pub between_below : w * w < n → s ≤ 2 * w → s * s < 4 * n
  between_below l h =
      let g : s * s ≤ 2 * w * (2 * w) = mul-le-mul h h in
      omega (arith, double w)

-- ---- the root of q * 2 ^ k, where it is whole, has no more digits than q

pub record OnGrid (w : ℕ) : Type 0 where
  pub places : ℕ
  pub digits : ℕ
  pub is : w ≡ digits * 2 ^ places
  pub few : digits < 2 ^ 53

small_root : (w n : ℕ) → w * w ≡ n → n < 2 ^ 54 → w < 2 ^ 53
small_root w n e h = elim (lt_or_ge w (2 ^ 53)) [
  | inl l ↦ l
  | inr l ↦ absurd (lt_irrefl (w * w) (lt_of_lt_of_le (no (w * w) n e h) (mul-le-mul l l)))
]
  where
    no : (s n : ℕ) → s ≡ n → n < 2 ^ 54 → s < 2 ^ 53 * 2 ^ 53
    no s n e h = omega arith

small : (w n : ℕ) → w * w ≡ n → n < 2 ^ 54 → OnGrid w
small w n e h = record { places = 0; digits = w; is = sym (mul-one w); few = small_root w n e h }

-- an odd number's square is odd
pub halved : (w : ℕ) → ((v : ℕ) × (w ≡ 2 * v)) ⊎ ((v : ℕ) × (w ≡ 2 * v + 1))
halved zero = inl (0, refl)
halved (suc w) = elim (halved w) [ inl e ↦ inr (e.0, odd w e.0 e.1) | inr e ↦ inl (e.0 + 1, even w e.0 e.1) ]
  where
    odd : (w v : ℕ) → w ≡ 2 * v → suc w ≡ 2 * v + 1
    odd w v e = omega arith

    even : (w v : ℕ) → w ≡ 2 * v + 1 → suc w ≡ 2 * (v + 1)
    even w v e = omega arith

pub square_on_grid : (q k w : ℕ) → q < 2 ^ 53 → w * w ≡ q * 2 ^ k → OnGrid w
square_on_grid q zero w h e = small w (q * 1) e (omega arith)
square_on_grid q (suc zero) w h e = small w (q * 2) e (omega arith)
square_on_grid q (suc (suc k)) w h e = elim (halved w) [
  | inl v ↦ up v.0 v.1 (square_on_grid q k v.0 h (quartered v.0 v.1))
  | inr v ↦ absurd (no v.0 v.1)
]
  where
    turn : (q p : ℕ) → q * (2 * (2 * p)) ≡ 4 * (q * p)
    turn q p = omega (arith, mul_comm q (2 * (2 * p)), mul_assoc 2 (2 * p) q, mul_assoc 2 p q, mul_comm p q)

    square : w * w ≡ 4 * (q * 2 ^ k)
    square = e ∙ ap (λ (z : ℕ). q * z) (pow-succ' 2 (suc k) ∙ ap (λ (z : ℕ). 2 * z) (pow-succ' 2 k)) ∙ turn q (2 ^ k)

    quartered : (v : ℕ) → w ≡ 2 * v → v * v ≡ q * 2 ^ k
    quartered v a = omega (arith, square, ap (λ (z : ℕ). z * z) a ∙ double v)

    no : (v : ℕ) → w ≡ 2 * v + 1 → ⊥
    no v a = omega (arith, square, ap (λ (z : ℕ). z * z) a, next_square (2 * v), double v)

    up : (v : ℕ) → w ≡ 2 * v → OnGrid v → OnGrid w
    up v a g = record {
      places = suc g.places;
      digits = g.digits;
      is =
          a ∙ ap (λ (z : ℕ). 2 * z) g.is ∙ mul_comm 2 (g.digits * 2 ^ g.places) ∙ mul_assoc g.digits (2 ^ g.places) 2 ∙ ap (λ (z : ℕ). g.digits * z)
          (sym (pow-suc 2 g.places));
      few = g.few;
    }
