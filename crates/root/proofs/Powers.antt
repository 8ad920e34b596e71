-- Bounds that are powers of two, ready for use: no caller has to show that a bound is itself a double. And what a comparison or a choice keeps of a bound. Assumes nothing.
use mathlib.Core.Path.{◌≡◌, refl, sym, ◌∙◌, subst}
use mathlib.Core.Bool.{Bool, true, false, not, cond, true≢false}
use Prim.Native.Nat.{ℕ, suc, ◌+◌, ◌*◌, ◌^◌, ◌≤◌, ◌<◌, zero-le}
use native.Mathlib.Nat.{mul_comm, mul_assoc, mul-one, mul-pos, le_trans, le_of_eq, lt_of_lt_of_le, mul-le-mul_right, mul-le-mul_left, le_of_mul-le-mul_right, two-pow-succ}
use native.Mathlib.Omega.{arith}
use lib.IntN.{ℤ}
use lib.Dec.{T, nltb→le, lit≤}
use lib.Pow.{pow_pos, pow-add, pow_mono}
use lib.Ieee.{Float, nan, inf, fin, binary64, up, down, neg, lt, le, eq, of_bits, is_nan}
use lib.Ieee.Fits.{down_pos}
use lib.Ieee.Positive.{first_pos}
use Rattle.root.specs.Doubles.{◌⊕◌, ◌⊖◌, ◌⊗◌, ◌⊘◌, zero_f, one_f, 1e-12, 2^30, finite, negative, magnitude, larger, smaller, clamped}
use Rattle.root.specs.Bounds.{Within, AtLeast}
use Rattle.root.specs.Root.{rootable}
use Rattle.root.proofs.Bounds.{Held, held_pow, mul_within, add_within, sub_within, div_within, neg_within, within_mono, within_tests, ratio_bounds, square_plus, add_plus, plain_rootable}

-- ---- the operations

pub within_pow : {x : Float} (i j : ℕ) → i ≤ j → Within (2 ^ i) x → Within (2 ^ j) x
within_pow i j l h = within_mono (pow_mono l) h

module _ {x y : Float} (i : ℕ) where
  pub mul_pow : (j : ℕ) → i + j ≤ 1023 → Within (2 ^ i) x → Within (2 ^ j) y → Within (2 ^ (i + j)) (x ⊗ y)
  mul_pow j l h k =
      subst (λ (B : ℕ). Within B (x ⊗ y)) (sym (pow-add 2 i j))
      (mul_within binary64 (mul-pos (pow_pos i) (pow_pos j)) (subst (λ (B : ℕ). Held binary64 B) (pow-add 2 i j) (held_pow (i + j) l)) h k)

  pub add_pow : suc i ≤ 1023 → Within (2 ^ i) x → Within (2 ^ i) y → Within (2 ^ suc i) (x ⊕ y)
  add_pow l h k =
      subst (λ (B : ℕ). Within B (x ⊕ y)) (sym (two-pow-succ i))
      (add_within binary64 (some (pow_pos i)) (subst (λ (B : ℕ). Held binary64 B) (two-pow-succ i) (held_pow (suc i) l)) h k)
    where
      some : {a : ℕ} → 0 < a → 0 < a + a
      some h = omega arith

  pub sub_pow : suc i ≤ 1023 → Within (2 ^ i) x → Within (2 ^ i) y → Within (2 ^ suc i) (x ⊖ y)
  sub_pow l h k =
      subst (λ (B : ℕ). Within B (x ⊖ y)) (sym (two-pow-succ i))
      (sub_within binary64 (some (pow_pos i)) (subst (λ (B : ℕ). Held binary64 B) (two-pow-succ i) (held_pow (suc i) l)) h k)
    where
      some : {a : ℕ} → 0 < a → 0 < a + a
      some h = omega arith

  pub div_pow : (j : ℕ) → i + j ≤ 1023 → Within (2 ^ i) x → AtLeast (2 ^ j) y → Within (2 ^ (i + j)) (x ⊘ y)
  div_pow j l h k =
      subst (λ (B : ℕ). Within B (x ⊘ y)) (sym (pow-add 2 i j))
      (div_within binary64 (mul-pos (pow_pos i) (pow_pos j)) (subst (λ (B : ℕ). Held binary64 B) (pow-add 2 i j) (held_pow (i + j) l)) (ratio_bounds h k))

-- ---- sums of squares, whose root is a length

module _ {x y : Float} (i : ℕ) (l : suc (suc (i + i)) ≤ 1023) (h : Within (2 ^ i) x) (k : Within (2 ^ i) y) where
  one_less : suc (i + i) ≤ 1023
  one_less = omega arith

  two_less : i + i ≤ 1023
  two_less = omega arith

  two_squares : Within (2 ^ suc (i + i)) (x ⊗ x ⊕ y ⊗ y)
  two_squares = add_pow (i + i) one_less (mul_pow i i two_less h h) (mul_pow i i two_less k k)

  two_plus : negative (x ⊗ x ⊕ y ⊗ y) ≡ false
  two_plus = add_plus binary64 (mul_pow i i two_less h h) (mul_pow i i two_less k k) (square_plus binary64 h) (square_plus binary64 k)

  pub three_squares : {z : Float} → Within (2 ^ i) z → Within (2 ^ suc (suc (i + i))) (x ⊗ x ⊕ y ⊗ y ⊕ z ⊗ z)
  three_squares m = add_pow (suc (i + i)) l two_squares (within_pow (i + i) (suc (i + i)) (omega arith) (mul_pow i i two_less m m))

  pub three_rootable : {z : Float} → Within (2 ^ i) z → T (rootable (x ⊗ x ⊕ y ⊗ y ⊕ z ⊗ z))
  three_rootable m = plain_rootable (three_squares m) (add_plus binary64 two_squares (mul_pow i i two_less m m) two_plus (square_plus binary64 m))

-- ---- what a choice keeps of a bound

zero_within : (B : ℕ) → Within B zero_f
unfolding of_bits
zero_within B = record { is_finite = tt; size = zero-le }

module _ {B : ℕ} {x : Float} (h : Within B x) where
  pub magnitude_within : Within B (magnitude x)
  unfolding magnitude
  magnitude_within = go (lt x zero_f) (eq x zero_f)
    where
      go : (p q : Bool) → Within B (cond p (neg x) (cond q zero_f x))
      go true q = neg_within h
      go false true = zero_within B
      go false false = h

  pub larger_within : {y : Float} → Within B y → Within B (larger x y)
  unfolding larger
  larger_within {y} k = go (lt x y)
    where
      go : (p : Bool) → Within B (cond p y x)
      go true = k
      go false = h

  pub smaller_within : {y : Float} → Within B y → Within B (smaller x y)
  unfolding smaller
  smaller_within {y} k = go (lt y x)
    where
      go : (p : Bool) → Within B (cond p y x)
      go true = k
      go false = h

-- a number that is no NaN is clamped into 0 .. 1
clamp_number : (t : Float) → T (not (is_nan t)) → lt t zero_f ≡ false → lt one_f t ≡ false → Within 1 t
unfolding is_nan lt of_bits
clamp_number nan n a b = absurd n
clamp_number (inf true) n a b = absurd (true≢false a)
clamp_number (inf false) n a b = absurd (true≢false b)
clamp_number (fin true m e) n a b =
    record { is_finite = tt; size = none (m * up e) (0 * 1 * down e) (1 * down e) (nltb→le 0 (m * up e * 1 + 0 * 1 * down e) (subst (λ (k : Bool). T (not k)) (sym a) tt)) }
  where
    none : (n z d : ℕ) → n * 1 + z ≤ 0 → n ≤ d
    none n z d h = omega arith
clamp_number (fin false m e) n a b =
    record { is_finite = tt; size = le_trans (le_of_eq (sym (mul-one (m * up e)))) (nltb→le (1 * down e) (m * up e * 1) (subst (λ (k : Bool). T (not k)) (sym b) tt)) }

one_within : Within 1 one_f
unfolding of_bits
one_within = record { is_finite = tt; size = lit≤ tt }

pub clamped_within : (t : Float) → T (not (is_nan t)) → Within 1 (clamped t)
unfolding clamped
clamped_within t n = go (lt t zero_f) (lt one_f t) refl refl
  where
    go : (p q : Bool) → lt t zero_f ≡ p → lt one_f t ≡ q → Within 1 (cond p zero_f (cond q one_f t))
    go true q a b = zero_within 1
    go false true a b = one_within
    go false false a b = clamp_number t n a b

-- ---- a divisor that is at least 1 / C

larger_number : (C : ℕ) (s : Bool) (m : ℕ) (e : ℤ) (n : ℕ) (d : ℤ) → AtLeast C (fin false n d) → lt (fin s m e) (fin false n d) ≡ false → AtLeast C (fin s m e)
unfolding lt
larger_number C true m e n d k h =
    absurd (none (m * up e * down d) (n * up d * down e) (mul-pos (some (C * (n * up d)) (n * up d) (lt_of_lt_of_le (down_pos d) k.size) refl) (down_pos e))
    (nltb→le 0 (m * up e * down d + n * up d * down e) (subst (λ (b : Bool). T (not b)) (sym h) tt)))
  where
    none : (a b : ℕ) → 0 < b → a + b ≤ 0 → ⊥
    none a b p l = omega arith

    some : (c a : ℕ) → 0 < c → c ≡ C * a → 0 < a
    some c a p e = first_pos a C (lt_of_lt_of_le p (le_of_eq (e ∙ mul_comm C a)))
larger_number C false m e n d k h = record {
  is_finite = tt;
  size =
      le_of_mul-le-mul_right (le_trans (le_of_eq (mul_comm (down e) (down d)))
      (le_trans (mul-le-mul_right (down e) k.size) (le_trans (le_of_eq (mul_assoc C (n * up d) (down e)))
      (le_trans (mul-le-mul_left C (nltb→le (m * up e * down d) (n * up d * down e) (subst (λ (b : Bool). T (not b)) (sym h) tt)))
      (le_of_eq (sym (mul_assoc C (m * up e) (down d)))))))) (down_pos d);
}

larger_left : {C : ℕ} (x y : Float) → T (finite x) → negative y ≡ false → AtLeast C y → lt x y ≡ false → AtLeast C x
larger_left nan y p s k h = absurd p
larger_left (inf t) y p s k h = absurd p
larger_left (fin t m e) nan p s k h = absurd k.is_finite
larger_left (fin t m e) (inf u) p s k h = absurd k.is_finite
larger_left (fin t m e) (fin true n d) p s k h = absurd (true≢false s)
larger_left {C} (fin t m e) (fin false n d) p s k h = larger_number C t m e n d k h

-- the larger of any finite number and one that is at least 1 / C, and has no sign, is so too
pub larger_at_least : {C : ℕ} (x y : Float) → T (finite x) → negative y ≡ false → AtLeast C y → AtLeast C (larger x y)
unfolding larger
larger_at_least {C} x y p s k = go (lt x y) refl
  where
    go : (b : Bool) → lt x y ≡ b → AtLeast C (cond b y x)
    go true a = k
    go false a = larger_left x y p s k a

-- the scale of a cell's key, at least 2 ^ -40
pub scale_at_least : (eps : Float) → T (finite eps) → AtLeast (2 ^ 40) (larger eps 1e-12)
unfolding of_bits
scale_at_least eps p = larger_at_least eps 1e-12 p refl (record { is_finite = tt; size = lit≤ tt })

-- ---- "at most 2^30" in magnitude, as two comparisons say it
pub in_range_lem : (x : Float) → T (le (neg 2^30) x) → T (le x 2^30) → Within (2 ^ 30) x
unfolding of_bits neg
in_range_lem x a b = within_tests x 1 30 b a
