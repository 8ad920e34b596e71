-- Laws of rounding half away from zero (specs/Rounding.antt), that the library's `round` and conversion do it, and what the proof of `rounded` cites. Assumes nothing.
use mathlib.Core.Path.{◌≡◌, refl, sym, ap, ◌∙◌, subst}
use mathlib.Core.Logic.{inl, inr}
use mathlib.Core.Bool.{Bool, true, false, not, cond, true≢false}
use Prim.Native.Nat.{ℕ, zero, suc, ◌+◌, ◌-◌, ◌*◌, ◌/◌, ◌%◌, ◌^◌, ◌≤◌, ◌<◌, min}
use native.Mathlib.Nat.{mul_comm, mul_assoc, mul-one, le_trans, le_of_eq, le_of_lt, lt_of_le_of_lt, mul-div_cancel, mul-le-mul, min_comm, min-eq_left, min-eq_right}
use native.Mathlib.Omega.{arith}
use lib.IntN.{ℤ, pos, negsuc, neg_ℤ, ◌-ℤ◌, +ℤ_idl}
use lib.Dec.{T, leb, lit<, le→leb}
use lib.Arith.{lt→nleb}
use lib.Pow.{pow_pos, pow_mono, pow-add}
use lib.Ieee.{Float, nan, inf, fin, binary64, up, down, fits, round, of_int, in_float, neg, ne, to_bits, to_signed, is_nan}
use lib.Ieee.Bits.{is_false, is_true}
use lib.Ieee.Compare.{differs_from_itself, nan_differs}
use lib.Ieee.Fits.{down_pos, round-fits, neg-fits}
use lib.Ieee.Exact.{HasValue, round_exact}
use lib.Ieee.Back.{round_whole, whole_unique}
use mir.Syntax.{w64}
use mir.Val.{SFits, to_z, of_z}
use mir.ValLaws.{to_z_pos, to_z-of_z}
use Rattle.std.specs.Float.{float_round, round_with, float_with_sign, float_to_signed}
use Rattle.root.specs.Doubles.{finite, negative, one, units_of, magnitude}
use Rattle.root.specs.Patterns.{pattern_units}
use Rattle.root.proofs.Grid.{lt_or_ge}
use Rattle.root.proofs.Patterns.{Is, to_units, pattern_of, units_is, sign_is, finite_is, same_units, units_small}
use Rattle.root.proofs.Nearest.{own}
use Rattle.root.proofs.Doubles.{magnitude_nan, magnitude_inf, magnitude_fin}
use Rattle.rounding.specs.Rounding.{half_up, half_away, IsRounded, rounded}
use Rattle.rounding.proofs.Whole.{half_scaled, half_whole, unit, few, whole_units}

-- ---- NaN and the infinities

pub is_nan_lem : (x : Float) → ne x x ≡ true → x ≡ nan
is_nan_lem x h = differs_from_itself x (subst T (sym h) tt)

pub not_nan : (x : Float) → ne x x ≡ false → T (not (is_nan x))
unfolding is_nan
not_nan nan h = absurd (true≢false (sym nan_differs ∙ h))
not_nan (inf s) h = tt
not_nan (fin s m e) h = tt

-- the pattern of an infinity, without its sign
inf_pattern : (s : Bool) → to_bits binary64 (inf s) % 2 ^ 63 ≡ 2047 * 2 ^ 52
unfolding to_bits
inf_pattern true = refl
inf_pattern false = refl

inf_sign : (s : Bool) → leb (2 ^ 63) (to_bits binary64 (inf s)) ≡ s
unfolding to_bits
inf_sign true = refl
inf_sign false = refl

pub below_finite : (x : Float) → T (not (is_nan x)) → to_bits binary64 x % 2 ^ 63 < 2047 * 2 ^ 52 → T (finite x)
unfolding is_nan
below_finite nan n h = absurd n
below_finite (inf s) n h = absurd (no (to_bits binary64 (inf s) % 2 ^ 63) (inf_pattern s) h)
  where
    no : (a : ℕ) → a ≡ 2047 * 2 ^ 52 → a < 2047 * 2 ^ 52 → ⊥
    no a e l = omega arith
below_finite (fin s m e) n h = tt

-- ---- the sign is the pattern's highest bit
pub bit_is : (x : Float) → T (fits binary64 x) → T (not (is_nan x)) → negative x ≡ leb (2 ^ 63) (to_bits binary64 x)
unfolding is_nan
bit_is nan F n = absurd n
bit_is (inf s) F n = sym (inf_sign s)
bit_is (fin s m e) F n = sign_is (fin s m e) _ _ (pattern_of (fin s m e) F tt).value

pub plus : (x : Float) → T (fits binary64 x) → T (not (is_nan x)) → to_bits binary64 x < 2 ^ 63 → negative x ≡ false
plus x F n h = bit_is x F n ∙ is_false (leb (2 ^ 63) (to_bits binary64 x)) (lt→nleb (2 ^ 63) (to_bits binary64 x) h)

pub minus : (x : Float) → T (fits binary64 x) → T (not (is_nan x)) → 2 ^ 63 ≤ to_bits binary64 x → negative x ≡ true
minus x F n h = bit_is x F n ∙ is_true (leb (2 ^ 63) (to_bits binary64 x)) (le→leb (2 ^ 63) (to_bits binary64 x) h)

-- ---- a number's own fraction, and its units

pub half_units : (s : Bool) (m : ℕ) (e : ℤ) → T (fits binary64 (fin s m e)) → half_up (m * up e) (down e) ≡ half_up (units_of (fin s m e)) one
unfolding one
half_units s m e F =
    sym (half_scaled (m * up e) (down e) (2 ^ 1074) (pow_pos 1074))
    ∙ ap (λ (a : ℕ). half_up a (down e * 2 ^ 1074)) (own s m e F)
    ∙ ap (λ (a : ℕ). half_up (units_of (fin s m e) * down e) a) (mul_comm (down e) (2 ^ 1074))
    ∙ half_scaled (units_of (fin s m e)) (2 ^ 1074) (down e) (down_pos e)

away_units : (x : Float) → T (fits binary64 x) → T (finite x) → half_away x ≡ round binary64 (negative x) (half_up (units_of x) one) 1
unfolding half_away
away_units nan F p = absurd p
away_units (inf s) F p = absurd p
away_units (fin s m e) F p = ap (λ (k : ℕ). round binary64 s k 1) (half_units s m e F)

-- where x is n whole
from_units : (x : Float) (s : Bool) (n : ℕ) → HasValue x s n 1 → Is x s (n * one)
unfolding one
from_units x s n v = to_units x s n (2 ^ 1074) v

rounded_units : (x : Float) → T (fits binary64 x) → T (finite x) → rounded x ≡ cond (negative x) (neg_ℤ (pos (min (2 ^ 63) (half_up (units_of x) one))))
    (pos (min (2 ^ 63 - 1) (half_up (units_of x) one)))
unfolding rounded
rounded_units nan F p = absurd p
rounded_units (inf s) F p = absurd p
rounded_units (fin s m e) F p = ap (λ (k : ℕ). cond s (neg_ℤ (pos (min (2 ^ 63) k))) (pos (min (2 ^ 63 - 1) k))) (half_units s m e F)

-- ---- of a finite x

module _ (x : Float) (F : T (fits binary64 x)) (p : T (finite x)) where
  abbrev c : ℕ
  c = to_bits binary64 x % 2 ^ 63

  abbrev n : ℕ
  n = half_up (units_of x) one

  pub size : units_of x ≡ pattern_units c
  size = units_is x _ _ (pattern_of x F p).value

  pub whole_is : half_up (pattern_units c) one ≡ n
  whole_is = ap (λ (a : ℕ). half_up a one) (sym size)

  -- from 2 ^ 52 on: q * 2 ^ k whole
  module _ (h : 1075 * 2 ^ 52 ≤ c) where
    abbrev q : ℕ
    q = 2 ^ 52 + c % 2 ^ 52

    abbrev k : ℕ
    k = c / 2 ^ 52 - 1075

    pub whole_size : units_of x ≡ q * 2 ^ k * one
    whole_size = size ∙ whole_units c (omega arith)

    pub whole_n : n ≡ q * 2 ^ k
    whole_n = ap (λ (a : ℕ). half_up a one) whole_size ∙ half_whole (q * 2 ^ k) one unit

    large_value : HasValue (round binary64 (negative x) n 1) (negative x) n 1
    unfolding one
    large_value =
        round_exact binary64 (negative x) n 1 q (k + 1074) (lit< tt) (lead c)
        (lt_of_le_of_lt (le_of_eq (ap (λ (a : ℕ). q * a) (pow-add 2 k 1074) ∙ sym (mul_assoc q (2 ^ k) (2 ^ 1074)) ∙ sym whole_size)) (units_small x F p))
        (ap (λ (a : ℕ). a * 2 ^ 1074) whole_n ∙ mul_assoc q (2 ^ k) (2 ^ 1074) ∙ ap (λ (a : ℕ). q * a) (sym (pow-add 2 k 1074)) ∙ sym (mul-one (q * 2 ^ (k + 1074))))
      where
        lead : (c : ℕ) → 2 ^ 52 + c % 2 ^ 52 < 2 ^ 53
        lead c = omega arith

  pub half_away_is : half_away x ≡ round binary64 (negative x) n 1
  half_away_is = away_units x F p

  pub value : HasValue (round binary64 (negative x) n 1) (negative x) n 1
  value = elim (lt_or_ge c (1075 * 2 ^ 52)) [
    | inl l ↦ round_whole binary64 (negative x) n (le_trans (le_of_eq (sym whole_is)) (few c l))
    | inr l ↦ large_value l
  ]

  in_units : Is (half_away x) (negative x) (n * one)
  in_units = subst (λ (v : Float). Is v (negative x) (n * one)) (sym half_away_is) (from_units (round binary64 (negative x) n 1) (negative x) n value)

  -- the whole number is a double, so that rounding to one changes nothing
  pub half_away_lem : IsRounded x (half_away x)
  half_away_lem = record {
    is_finite = finite_is (half_away x) (negative x) (n * one) in_units;
    sign = sign_is (half_away x) (negative x) (n * one) in_units;
    size = units_is (half_away x) (negative x) (n * one) in_units;
  }

  pub rounded_is : rounded x ≡ cond (negative x) (neg_ℤ (pos (min (2 ^ 63) n))) (pos (min (2 ^ 63 - 1) n))
  rounded_is = rounded_units x F p

  -- only one double is the rounded one
  pub rounded_unique : (r : Float) → T (fits binary64 r) → IsRounded x r → r ≡ half_away x
  rounded_unique r G a =
      same_units r (half_away x) G (subst (λ (v : Float). T (fits binary64 v)) (sym half_away_is) (round-fits binary64 (negative x) n 1)) a.is_finite half_away_lem.is_finite
      (a.sign ∙ sym half_away_lem.sign) (a.size ∙ sym half_away_lem.size)

-- ---- a double that is whole already, and no number

already_finite : (x : Float) (F : T (fits binary64 x)) (p : T (finite x)) → 1075 * 2 ^ 52 ≤ to_bits binary64 x % 2 ^ 63 → x ≡ half_away x
already_finite x F p h = rounded_unique x F p x F (record { is_finite = p; sign = refl; size = whole_size x F p h ∙ ap (λ (a : ℕ). a * one) (sym (whole_n x F p h)) })

pub already : (x : Float) → T (fits binary64 x) → T (not (is_nan x)) → 1075 * 2 ^ 52 ≤ to_bits binary64 x % 2 ^ 63 → x ≡ half_away x
unfolding half_away is_nan
already nan F n h = absurd n
already (inf s) F n h = refl
already (fin s m e) F n h = already_finite (fin s m e) F tt h

pub nan_away : (x : Float) → ne x x ≡ true → x ≡ half_away x
unfolding half_away
nan_away x h = is_nan_lem x h ∙ ap half_away (sym (is_nan_lem x h))

-- ---- what the library gives

pub away_is : (x : Float) → float_round binary64 x ≡ half_away x
unfolding round_with half_away half_up
away_is nan = refl
away_is (inf s) = refl
away_is (fin true m e) = refl
away_is (fin false m e) = refl

-- a double that is n whole, as an `i64`
signed_whole : (v : Float) (s : Bool) (n : ℕ) → HasValue v s n 1 → to_signed 63 v ≡ cond s (neg_ℤ (pos (min n (2 ^ 63)))) (pos (min n (2 ^ 63 - 1)))
unfolding to_signed
signed_whole nan s n v = absurd v
signed_whole (inf t) s n v = absurd v
signed_whole (fin t m e) s n v = λ i. cond (v.0 i) (neg_ℤ (pos (min (cut i) (2 ^ 63)))) (pos (min (cut i) (2 ^ 63 - 1)))
  where
    cut : m * up e / down e ≡ n
    cut = ap (λ (x : ℕ). x / down e) (sym (mul-one (m * up e)) ∙ v.1) ∙ mul-div_cancel n (down_pos e)

rounded_finite : (x : Float) (F : T (fits binary64 x)) (p : T (finite x)) → to_signed 63 (half_away x) ≡ rounded x
rounded_finite x F p =
    let n = half_up (units_of x) one in
    ap (to_signed 63) (away_units x F p) ∙ signed_whole (round binary64 (negative x) n 1) (negative x) n (value x F p)
    ∙ (λ i. cond (negative x) (neg_ℤ (pos (min_comm n (2 ^ 63) i))) (pos (min_comm n (2 ^ 63 - 1) i))) ∙ sym (rounded_units x F p)

signed_is : (x : Float) → T (fits binary64 x) → to_signed 63 (half_away x) ≡ rounded x
unfolding half_away rounded to_signed
signed_is nan F = refl
signed_is (inf true) F = refl
signed_is (inf false) F = refl
signed_is (fin s m e) F = rounded_finite (fin s m e) F tt

pub converted_is : (x : Float) → T (fits binary64 x) → float_to_signed w64 (float_round binary64 x) ≡ rounded x
converted_is x F = ap (to_signed 63) (away_is x) ∙ signed_is x F

-- ---- a whole number with the other sign

neg_value : (v : Float) (n : ℕ) → HasValue v false n 1 → HasValue (neg v) true n 1
unfolding neg
neg_value nan n h = h
neg_value (inf t) n h = h
neg_value (fin t m e) n h = (ap not h.0, h.1)

neg_round : (n : ℕ) → n ≤ 2 ^ 53 → neg (round binary64 false n 1) ≡ round binary64 true n 1
neg_round n h =
    whole_unique binary64 (neg (round binary64 false n 1)) (round binary64 true n 1) true n (neg-fits binary64 (round binary64 false n 1) (round-fits binary64 false n 1))
    (round-fits binary64 true n 1) (neg_value (round binary64 false n 1) n (round_whole binary64 false n h)) (round_whole binary64 true n h)

-- ---- `rounded`, from the bits

-- 0 - n, as the machine works it out
module _ (n : ℕ) (h : n < 2 ^ 63) where
  turned : pos 0 -ℤ to_z w64 n ≡ neg_ℤ (pos n)
  turned = ap (λ (k : ℤ). pos 0 -ℤ k) (to_z_pos w64 n h) ∙ flip n
    where
      flip : (n : ℕ) → pos 0 -ℤ pos n ≡ neg_ℤ (pos n)
      flip zero = refl
      flip (suc n) = +ℤ_idl (negsuc n)

  fits_neg : (n : ℕ) → n < 2 ^ 63 → SFits w64 (neg_ℤ (pos n))
  fits_neg zero h = record { sfits = h }
  fits_neg (suc n) h = record { sfits = below n h }
    where
      below : (n : ℕ) → suc n < 2 ^ 63 → n < 2 ^ 63
      below n h = omega arith

  pub turned_fits : SFits w64 (pos 0 -ℤ to_z w64 n)
  turned_fits = subst (λ (k : ℤ). SFits w64 k) (sym turned) (fits_neg n h)

  pub turned_is : to_z w64 (of_z w64 (pos 0 -ℤ to_z w64 n)) ≡ neg_ℤ (pos n)
  turned_is = to_z-of_z w64 (pos 0 -ℤ to_z w64 n) turned_fits ∙ turned

module _ (x : Float) (F : T (fits binary64 x)) (p : T (finite x)) (n : ℕ) (e : n ≡ half_up (pattern_units (to_bits binary64 x % 2 ^ 63)) one) where
  right : n ≡ half_up (units_of x) one
  right = e ∙ whole_is x F p

  signed : (s : Bool) → negative x ≡ s → round binary64 s n 1 ≡ half_away x
  signed s g = ap (λ (z : Bool). round binary64 z n 1) (sym g) ∙ ap (λ (k : ℕ). round binary64 (negative x) k 1) right ∙ sym (half_away_is x F p)

  pub made_plus : negative x ≡ false → of_int binary64 (pos n) ≡ half_away x
  unfolding of_int
  made_plus g = signed false g

  pub made_minus : n ≤ 2 ^ 53 → negative x ≡ true → neg (of_int binary64 (pos n)) ≡ half_away x
  unfolding of_int
  made_minus h g = neg_round n h ∙ signed true g

  pub cast_plus : n < 2 ^ 63 → negative x ≡ false → to_z w64 n ≡ rounded x
  cast_plus h g =
      to_z_pos w64 n h ∙ ap pos (sym (min-eq_right (le_of n h)) ∙ ap (min (2 ^ 63 - 1)) right) ∙ ap
      (λ (z : Bool). cond z (neg_ℤ (pos (min (2 ^ 63) (half_up (units_of x) one)))) (pos (min (2 ^ 63 - 1) (half_up (units_of x) one)))) (sym g) ∙ sym (rounded_units x F p)
    where
      le_of : (n : ℕ) → n < 2 ^ 63 → n ≤ 2 ^ 63 - 1
      le_of n h = omega arith

  pub cast_minus : n < 2 ^ 63 → negative x ≡ true → to_z w64 (of_z w64 (pos 0 -ℤ to_z w64 n)) ≡ rounded x
  cast_minus h g =
      turned_is n h ∙ ap (λ (k : ℕ). neg_ℤ (pos k)) (sym (min-eq_right (le_of_lt h)) ∙ ap (min (2 ^ 63)) right) ∙ ap
      (λ (z : Bool). cond z (neg_ℤ (pos (min (2 ^ 63) (half_up (units_of x) one)))) (pos (min (2 ^ 63 - 1) (half_up (units_of x) one)))) (sym g) ∙ sym (rounded_units x F p)

pub nan_rounded : (x : Float) → ne x x ≡ true → pos 0 ≡ rounded x
unfolding rounded
nan_rounded x h = ap rounded (sym (is_nan_lem x h))

-- ---- from 2 ^ 63 on: the ends of the range

reaches : (x : Float) (F : T (fits binary64 x)) (p : T (finite x)) → 1086 * 2 ^ 52 ≤ to_bits binary64 x % 2 ^ 63 → 2 ^ 63 ≤ half_up (units_of x) one
reaches x F p h =
    let c = to_bits binary64 x % 2 ^ 63 in
    le_trans (mul-le-mul (lead c) (pow_mono (room c h))) (le_of_eq (sym (whole_n x F p (low c h))))
  where
    low : (c : ℕ) → 1086 * 2 ^ 52 ≤ c → 1075 * 2 ^ 52 ≤ c
    low c h = omega arith

    lead : (c : ℕ) → 2 ^ 52 ≤ 2 ^ 52 + c % 2 ^ 52
    lead c = omega arith

    room : (c : ℕ) → 1086 * 2 ^ 52 ≤ c → 11 ≤ c / 2 ^ 52 - 1075
    room c h = omega arith

abbrev ends : Bool → ℤ
ends true = negsuc (2 ^ 63 - 1)
ends false = pos (2 ^ 63 - 1)

far_ends : (s : Bool) (n : ℕ) → 2 ^ 63 ≤ n → cond s (neg_ℤ (pos (min (2 ^ 63) n))) (pos (min (2 ^ 63 - 1) n)) ≡ ends s
far_ends true n h = ap (λ (k : ℕ). neg_ℤ (pos k)) (min-eq_left h)
far_ends false n h = ap pos (min-eq_left (under n h))
  where
    under : (n : ℕ) → 2 ^ 63 ≤ n → 2 ^ 63 - 1 ≤ n
    under n h = omega arith

far : (x : Float) → T (fits binary64 x) → T (not (is_nan x)) → 1086 * 2 ^ 52 ≤ to_bits binary64 x % 2 ^ 63 → rounded x ≡ ends (negative x)
unfolding is_nan rounded
far nan F n h = absurd n
far (inf true) F n h = refl
far (inf false) F n h = refl
far (fin s m e) F n h = rounded_units (fin s m e) F tt ∙ far_ends s (half_up (units_of (fin s m e)) one) (reaches (fin s m e) F tt h)

pub far_plus : (x : Float) → T (fits binary64 x) → T (not (is_nan x)) → 1086 * 2 ^ 52 ≤ to_bits binary64 x % 2 ^ 63 → negative x ≡ false → pos (2 ^ 63 - 1) ≡ rounded x
far_plus x F n h g = sym (far x F n h ∙ ap ends g)

pub far_minus : (x : Float) → T (fits binary64 x) → T (not (is_nan x)) → 1086 * 2 ^ 52 ≤ to_bits binary64 x % 2 ^ 63 → negative x ≡ true → negsuc (2 ^ 63 - 1) ≡ rounded x
far_minus x F n h g = sym (far x F n h ∙ ap ends g)

-- ---- the sign bit cleared

pub abs_is : (x : Float) → T (fits binary64 x) → float_with_sign false x ≡ magnitude x
unfolding float_with_sign
abs_is nan F = sym magnitude_nan
abs_is (inf s) F = sym (magnitude_inf s)
abs_is (fin s m e) F = sym (magnitude_fin s m e F)

-- a whole number up to 2 ^ 53 is a double
pub can_cast : (n : ℕ) → n ≤ 2 ^ 53 → T (in_float binary64 (pos n))
unfolding in_float
can_cast n h = le→leb n (2 ^ 53) h
