-- Laws of specs/Doubles.antt: comparisons in units, the larger and the smaller of two, the magnitude, the clamp. Assumes nothing.
use mathlib.Core.Path.{◌≡◌, refl, sym, ap, ◌∙◌, subst}
use mathlib.Core.Bool.{Bool, true, false, not, cond, ◌&&◌, ◌||◌, beq}
use Prim.Native.Nat.{ℕ, zero, suc, ◌+◌, ◌-◌, ◌*◌, ◌/◌, ◌%◌, ◌^◌, ◌<◌}
use native.Mathlib.Nat.{
  mul_comm,
  mul_assoc,
  mul-one,
  zero-mul,
  one-mul,
  mul-pos,
  mul_right_comm,
  mod-eq_of_lt,
  add-mul,
  mul-lt-mul_of_pos_right,
  lt_of_mul-lt-mul_right,
  lt_of_le_of_lt,
  lt_of_lt_of_le,
  le_of_eq,
  eq_of_mul-eq-mul_right,
  zero-lt-suc,
  pow-succ',
}
use native.Mathlib.Omega.{arith}
use lib.IntN.{ℤ, pos, negsuc}
use lib.Dec.{T, ltb, eqb, ltb→lt, lt→ltb, nleb→lt, eqb→eq, not_T}
use lib.Pow.{pow_pos}
use lib.Ieee.{Float, nan, inf, fin, binary64, up, down, below, level, fits, neg, lt, le, eq, of_bits, to_bits, size, is_nan}
use lib.Ieee.Bits.{of_bits-to_bits, is_true, is_false}
use lib.Ieee.Fits.{down_pos, up_pos, neg-fits, eq→eqb, and_i, and_l}
use Rattle.root.specs.Doubles.{finite, negative, units_of, zero_f, one_f, magnitude, within, larger, smaller, clamped}
use Rattle.root.proofs.Patterns.{pattern_of, sign_is}
use Rattle.root.proofs.Nearest.{own}

-- tests that pass together are equal
pub same_test : (p q : Bool) → (T p → T q) → (T q → T p) → p ≡ q
same_test true true f g = refl
same_test true false f g = absurd (f tt)
same_test false true f g = absurd (g tt)
same_test false false f g = refl

-- ---- of two

module _ (x y : Float) where
  pub larger_right : lt x y ≡ true → larger x y ≡ y
  unfolding larger
  larger_right h = ap (λ (b : Bool). cond b y x) h

  pub larger_left : lt x y ≡ false → larger x y ≡ x
  unfolding larger
  larger_left h = ap (λ (b : Bool). cond b y x) h

  pub smaller_right : lt y x ≡ true → smaller x y ≡ y
  unfolding smaller
  smaller_right h = ap (λ (b : Bool). cond b y x) h

  pub smaller_left : lt y x ≡ false → smaller x y ≡ x
  unfolding smaller
  smaller_left h = ap (λ (b : Bool). cond b y x) h

-- ---- the clamp

module _ (t : Float) where
  pub clamped_low : lt t zero_f ≡ true → clamped t ≡ zero_f
  unfolding clamped
  clamped_low h = ap (λ (b : Bool). cond b zero_f (cond (lt one_f t) one_f t)) h

  pub clamped_high : lt t zero_f ≡ false → lt one_f t ≡ true → clamped t ≡ one_f
  unfolding clamped
  clamped_high h k = ap (λ (b : Bool). cond b zero_f (cond (lt one_f t) one_f t)) h ∙ ap (λ (b : Bool). cond b one_f t) k

  pub clamped_same : lt t zero_f ≡ false → lt one_f t ≡ false → clamped t ≡ t
  unfolding clamped
  clamped_same h k = ap (λ (b : Bool). cond b zero_f (cond (lt one_f t) one_f t)) h ∙ ap (λ (b : Bool). cond b one_f t) k

-- ---- the magnitude

-- a zero that fits has the exponent 0
two_up : (p : ℕ) → 2 * p ≡ 1 → ⊥
two_up p e = omega arith

zero_exponent : (s : Bool) (e : ℤ) → T (fits binary64 (fin s 0 e)) → e ≡ pos 0
unfolding fits
zero_exponent s (pos zero) t = refl
zero_exponent s (pos (suc k)) t = absurd (two_up (2 ^ k) (sym (pow-succ' 2 k) ∙ sym (mul-one (2 ^ suc k)) ∙ eqb→eq (2 ^ suc k * 1) 1 t))
zero_exponent s (negsuc k) t = absurd (two_up (2 ^ k) (sym (pow-succ' 2 k) ∙ sym (one-mul (2 ^ suc k)) ∙ eqb→eq (1 * 2 ^ suc k) 1 t))

nothing : (d : ℕ) → 0 * 1 * d ≡ 0
nothing d = zero-mul d

-- a number that is not zero, against zero
some_below : (m : ℕ) (e : ℤ) → lt (fin true (suc m) e) zero_f ≡ true
unfolding lt of_bits
some_below m e = is_true _ (lt→ltb 0 (suc m * up e * 1 + 0 * 1 * down e) (sum (suc m * up e * 1) (0 * 1 * down e) (mul-pos (mul-pos (zero-lt-suc m) (up_pos e)) (zero-lt-suc 0))))
  where
    sum : (a b : ℕ) → 0 < a → 0 < a + b
    sum a b h = omega arith

some_above : (m : ℕ) (e : ℤ) → lt (fin false (suc m) e) zero_f ≡ false
unfolding lt of_bits
some_above m e =
    is_false _ (not_T (ltb (suc m * up e * 1) (0 * 1 * down e)) (λ t. no (suc m * up e * 1) (0 * 1 * down e) (ltb→lt (suc m * up e * 1) (0 * 1 * down e) t) (nothing (down e))))
  where
    no : (a b : ℕ) → a < b → b ≡ 0 → ⊥
    no a b h e = omega arith

some_unequal : (m : ℕ) (e : ℤ) → eq (fin false (suc m) e) zero_f ≡ false
unfolding eq of_bits
some_unequal m e =
    go (eqb (suc m * up e * 1) (0 * 1 * down e)) (λ t. no (suc m * up e * 1) (0 * 1 * down e) (mul-pos (mul-pos (zero-lt-suc m) (up_pos e)) (zero-lt-suc 0))
    (eqb→eq (suc m * up e * 1) (0 * 1 * down e) t) (nothing (down e)))
  where
    no : (a b : ℕ) → 0 < a → a ≡ b → b ≡ 0 → ⊥
    no a b h e z = omega arith

    go : (b : Bool) → (T b → ⊥) → b && true ≡ false
    go true f = absurd (f tt)
    go false f = refl

zero_magnitude : (s : Bool) → magnitude (fin s 0 (pos 0)) ≡ fin false 0 (pos 0)
unfolding magnitude lt eq neg of_bits
zero_magnitude true = refl
zero_magnitude false = refl

-- the sign is cleared
pub magnitude_fin : (s : Bool) (m : ℕ) (e : ℤ) → T (fits binary64 (fin s m e)) → magnitude (fin s m e) ≡ fin false m e
unfolding magnitude neg
magnitude_fin s zero e F = ap (λ (z : ℤ). magnitude (fin s 0 z)) (zero_exponent s e F) ∙ zero_magnitude s ∙ ap (λ (z : ℤ). fin false 0 z) (sym (zero_exponent s e F))
magnitude_fin true (suc m) e F = ap (λ (b : Bool). cond b (fin false (suc m) e) (cond (eq (fin true (suc m) e) zero_f) zero_f (fin true (suc m) e))) (some_below m e)
magnitude_fin false (suc m) e F =
    ap (λ (b : Bool). cond b (fin true (suc m) e) (cond (eq (fin false (suc m) e) zero_f) zero_f (fin false (suc m) e))) (some_above m e)
    ∙ ap (λ (b : Bool). cond b zero_f (fin false (suc m) e)) (some_unequal m e)

pub magnitude_inf : (s : Bool) → magnitude (inf s) ≡ inf false
unfolding magnitude lt eq neg of_bits
magnitude_inf true = refl
magnitude_inf false = refl

pub magnitude_nan : magnitude nan ≡ nan
unfolding magnitude lt eq
magnitude_nan = refl

-- ---- two fractions a / .. and b / .. are X and Y units: U and D are what they are multiplied by
module _ (a b X Y U D : ℕ) (u : 0 < U) (v : 0 < D) (p : a * U ≡ X * D) (q : b * U ≡ Y * D) where
  lt_to : a < b → X < Y
  lt_to h = lt_of_mul-lt-mul_right D (lt_of_le_of_lt (le_of_eq (sym p)) (lt_of_lt_of_le (mul-lt-mul_of_pos_right h u) (le_of_eq q)))

  lt_from : X < Y → a < b
  lt_from h = lt_of_mul-lt-mul_right U (lt_of_le_of_lt (le_of_eq p) (lt_of_lt_of_le (mul-lt-mul_of_pos_right h v) (le_of_eq (sym q))))

  eq_to : a ≡ b → X ≡ Y
  eq_to h = eq_of_mul-eq-mul_right D v X Y (sym p ∙ ap (λ (k : ℕ). k * U) h ∙ q)

  eq_from : X ≡ Y → a ≡ b
  eq_from h = eq_of_mul-eq-mul_right U u a b (p ∙ ap (λ (k : ℕ). k * D) h ∙ sym q)

  pub same_ltb : ltb a b ≡ ltb X Y
  same_ltb = same_test (ltb a b) (ltb X Y) (λ t. lt→ltb X Y (lt_to (ltb→lt a b t))) (λ t. lt→ltb a b (lt_from (ltb→lt X Y t)))

  pub same_eqb : eqb a b ≡ eqb X Y
  same_eqb = same_test (eqb a b) (eqb X Y) (λ t. eq→eqb (eq_to (eqb→eq a b t))) (λ t. eq→eqb (eq_from (eqb→eq X Y t)))

-- ---- comparisons in units

module _ (s t : Bool) (m n : ℕ) (e d : ℤ) (F : T (fits binary64 (fin s m e))) (G : T (fits binary64 (fin t n d))) where
  abbrev a : ℕ
  a = m * up e * down d

  abbrev b : ℕ
  b = n * up d * down e

  abbrev X : ℕ
  X = units_of (fin s m e)

  abbrev Y : ℕ
  Y = units_of (fin t n d)

  D : 0 < down e * down d
  D = mul-pos (down_pos e) (down_pos d)

  left : a * 2 ^ 1074 ≡ X * (down e * down d)
  left = mul_right_comm (m * up e) (down d) (2 ^ 1074) ∙ ap (λ (k : ℕ). k * down d) (own s m e F) ∙ mul_assoc X (down e) (down d)

  right : b * 2 ^ 1074 ≡ Y * (down e * down d)
  right =
      mul_right_comm (n * up d) (down e) (2 ^ 1074) ∙ ap (λ (k : ℕ). k * down e) (own t n d G) ∙ mul_assoc Y (down d) (down e) ∙ ap (λ (k : ℕ). Y * k) (mul_comm (down d) (down e))

  none : 0 * 2 ^ 1074 ≡ 0 * (down e * down d)
  none = zero-mul (2 ^ 1074) ∙ sym (zero-mul (down e * down d))

  both : (a + b) * 2 ^ 1074 ≡ (X + Y) * (down e * down d)
  both = add-mul a b (2 ^ 1074) ∙ ap (λ (k : ℕ). k + b * 2 ^ 1074) left ∙ ap (λ (k : ℕ). X * (down e * down d) + k) right ∙ sym (add-mul X Y (down e * down d))

  fin_below : below s a t b ≡ below s X t Y
  fin_below = go s t
    where
      go : (s t : Bool) → below s a t b ≡ below s X t Y
      go false false = same_ltb a b X Y (2 ^ 1074) (down e * down d) (pow_pos 1074) D left right
      go false true = refl
      go true false = same_ltb 0 (a + b) 0 (X + Y) (2 ^ 1074) (down e * down d) (pow_pos 1074) D none both
      go true true = same_ltb b a Y X (2 ^ 1074) (down e * down d) (pow_pos 1074) D right left

  fin_level : level s a t b ≡ level s X t Y
  fin_level =
      ap (λ (k : Bool). k && (beq s t || eqb a 0)) (same_eqb a b X Y (2 ^ 1074) (down e * down d) (pow_pos 1074) D left right)
      ∙ ap (λ (k : Bool). eqb X Y && (beq s t || k)) (same_eqb a 0 X 0 (2 ^ 1074) (down e * down d) (pow_pos 1074) D left none)

pub lt_units : (x y : Float) → T (fits binary64 x) → T (fits binary64 y) → T (finite x) → T (finite y) → lt x y ≡ below (negative x) (units_of x) (negative y) (units_of y)
unfolding lt
lt_units nan y F G p q = absurd p
lt_units (inf s) y F G p q = absurd p
lt_units (fin s m e) nan F G p q = absurd q
lt_units (fin s m e) (inf t) F G p q = absurd q
lt_units (fin s m e) (fin t n d) F G p q = fin_below s t m n e d F G

pub eq_units : (x y : Float) → T (fits binary64 x) → T (fits binary64 y) → T (finite x) → T (finite y) → eq x y ≡ level (negative x) (units_of x) (negative y) (units_of y)
unfolding eq
eq_units nan y F G p q = absurd p
eq_units (inf s) y F G p q = absurd p
eq_units (fin s m e) nan F G p q = absurd q
eq_units (fin s m e) (inf t) F G p q = absurd q
eq_units (fin s m e) (fin t n d) F G p q = fin_level s t m n e d F G

pub le_units : (x y : Float) → T (fits binary64 x) → T (fits binary64 y) → T (finite x) → T (finite y) → le x y ≡ below (negative x) (units_of x) (negative y) (units_of y) || level
    (negative x) (units_of x) (negative y) (units_of y)
unfolding le
le_units x y F G p q = ap (λ (k : Bool). k || eq x y) (lt_units x y F G p q) ∙ ap (λ (k : Bool). below (negative x) (units_of x) (negative y) (units_of y) || k) (eq_units x y F G p q)

-- ---- |d| is at most eps exactly if d and -d are

or_left : (p q : Bool) → T p → T (p || q)
or_left true q h = tt
or_left false q h = elim h [ ]

or_right : (p q : Bool) → T q → T (p || q)
or_right true q h = tt
or_right false q h = h

inf_turned : (eps : Float) → T (le (inf false) eps) → T (le (inf true) eps)
unfolding le lt eq
inf_turned nan h = h
inf_turned (inf true) h = absurd h
inf_turned (inf false) h = tt
inf_turned (fin s m e) h = absurd h

-- what is at least a number with no sign is at least its negative
turned : (m : ℕ) (e : ℤ) (eps : Float) → T (le (fin false m e) eps) → T (le (fin true m e) eps)
unfolding le lt eq
turned m e nan h = h
turned m e (inf true) h = h
turned m e (inf false) h = tt
turned m e (fin true n d) h = flat (m * up e * down d) (n * up d * down e) h
  where
    flat : (a b : ℕ) → T (level false a true b) → T (ltb b a || level true a true b)
    flat a b h = or_right (ltb b a) (level true a true b) (and_i (eqb a b) true (and_l (eqb a b) (false || eqb a 0) h) tt)
turned m e (fin false n d) h = sum (m * up e * down d) (n * up d * down e)
  where
    sum : (a b : ℕ) → T (ltb 0 (a + b) || level true a false b)
    sum zero zero = tt
    sum zero (suc b) = or_left (ltb 0 (zero + suc b)) (level true zero false (suc b)) (lt→ltb 0 (zero + suc b) (omega arith))
    sum (suc a) b = or_left (ltb 0 (suc a + b)) (level true (suc a) false b) (lt→ltb 0 (suc a + b) (omega arith))

implied : (p q : Bool) → (T p → T q) → p ≡ p && q
implied true q f = sym (is_true q (f tt))
implied false q f = refl

implied' : (p q : Bool) → (T p → T q) → p ≡ q && p
implied' true true f = refl
implied' true false f = absurd (f tt)
implied' false true f = refl
implied' false false f = refl

pub within_both : (eps d : Float) → T (fits binary64 d) → within eps d ≡ le d eps && le (neg d) eps
unfolding within neg
within_both eps nan F = ap (λ (z : Float). le z eps) magnitude_nan ∙ implied (le nan eps) (le nan eps) (λ t. t)
within_both eps (inf true) F = ap (λ (z : Float). le z eps) (magnitude_inf true) ∙ implied' (le (inf false) eps) (le (inf true) eps) (inf_turned eps)
within_both eps (inf false) F = ap (λ (z : Float). le z eps) (magnitude_inf false) ∙ implied (le (inf false) eps) (le (inf true) eps) (inf_turned eps)
within_both eps (fin true m e) F = ap (λ (z : Float). le z eps) (magnitude_fin true m e F) ∙ implied' (le (fin false m e) eps) (le (fin true m e) eps) (turned m e eps)
within_both eps (fin false m e) F = ap (λ (z : Float). le z eps) (magnitude_fin false m e F) ∙ implied (le (fin false m e) eps) (le (fin true m e) eps) (turned m e eps)

-- ---- the sign is the pattern's highest bit, and the rest is the magnitude's pattern

pub fits_plus : (s : Bool) (m : ℕ) (e : ℤ) → T (fits binary64 (fin s m e)) → T (fits binary64 (fin false m e))
unfolding neg
fits_plus true m e F = neg-fits binary64 (fin true m e) F
fits_plus false m e F = F

pub plus_small : (m : ℕ) (e : ℤ) → T (fits binary64 (fin false m e)) → to_bits binary64 (fin false m e) < 2 ^ 63
plus_small m e F = nleb→lt (2 ^ 63) (to_bits binary64 (fin false m e)) (subst (λ (k : Bool). T (not k)) (sign_is (fin false m e) _ _ (pattern_of (fin false m e) F tt).value) tt)

sign_bit : (m : ℕ) (e : ℤ) → to_bits binary64 (fin true m e) ≡ 2 ^ 63 + to_bits binary64 (fin false m e)
unfolding to_bits
sign_bit m e = go (size (m * up e * 2 ^ 1074 / down e) - 53) (m * up e * 2 ^ 1074 / down e / 2 ^ (size (m * up e * 2 ^ 1074 / down e) - 53))
  where
    go : (k q : ℕ) → 2 ^ 63 + k * 2 ^ 52 + q ≡ 2 ^ 63 + (0 + k * 2 ^ 52 + q)
    go k q = omega arith

pub unsigned_bits : (s : Bool) (m : ℕ) (e : ℤ) → T (fits binary64 (fin s m e)) → to_bits binary64 (fin s m e) % 2 ^ 63 ≡ to_bits binary64 (fin false m e)
unsigned_bits true m e F = ap (λ (k : ℕ). k % 2 ^ 63) (sign_bit m e) ∙ off (to_bits binary64 (fin false m e)) (plus_small m e (fits_plus true m e F))
  where
    off : (k : ℕ) → k < 2 ^ 63 → (2 ^ 63 + k) % 2 ^ 63 ≡ k
    off k h = omega arith
unsigned_bits false m e F = mod-eq_of_lt (plus_small m e F)

inf_bits : (s : Bool) → of_bits binary64 (to_bits binary64 (inf s) % 2 ^ 63) ≡ inf false
unfolding of_bits to_bits
inf_bits true = refl
inf_bits false = refl

pub magnitude_bits : (x : Float) → T (fits binary64 x) → T (not (is_nan x)) → of_bits binary64 (to_bits binary64 x % 2 ^ 63) ≡ magnitude x
unfolding is_nan
magnitude_bits nan F n = absurd n
magnitude_bits (inf s) F n = inf_bits s ∙ sym (magnitude_inf s)
magnitude_bits (fin s m e) F n = ap (of_bits binary64) (unsigned_bits s m e F) ∙ of_bits-to_bits binary64 (fin false m e) (fits_plus s m e F) ∙ sym (magnitude_fin s m e F)

pub magnitude_number : (x : Float) → T (fits binary64 x) → T (not (is_nan x)) → T (not (is_nan (magnitude x)))
unfolding is_nan
magnitude_number nan F n = absurd n
magnitude_number (inf s) F n = subst (λ (v : Float). T (not (is_nan v))) (sym (magnitude_inf s)) tt
magnitude_number (fin s m e) F n = subst (λ (v : Float). T (not (is_nan v))) (sym (magnitude_fin s m e F)) tt
