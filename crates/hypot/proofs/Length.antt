-- From patterns to doubles: what `hypot` promises, and that only one double is so. Assumes nothing.
use mathlib.Core.Path.{◌≡◌, refl, sym, ap, ◌∙◌, subst, subst₂}
use mathlib.Core.Logic.{◌⊎◌, inl, inr}
use mathlib.Core.Bool.{false, not}
use Prim.Native.Nat.{ℕ, ◌+◌, ◌-◌, ◌*◌, ◌%◌, ◌^◌, ◌≤◌, ◌<◌}
use native.Mathlib.Nat.{add_comm, mul-le-mul, le_trans, le_of_eq, le_antisymm, lt_of_lt_of_le, lt_of_le_of_lt, lt_irrefl, eq-or-lt_of_le}
use native.Mathlib.Omega.{arith}
use lib.Dec.{T, lit<}
use lib.Ieee.{Float, binary64, fits, of_bits, to_bits, nan_bits}
use lib.Ieee.Bits.{to_bits-of_bits, of_bits-fits}
use Rattle.root.specs.Doubles.{finite, negative, one, units_of}
use Rattle.root.specs.Bounds.{Within}
use Rattle.root.specs.Patterns.{pattern_units}
use Rattle.root.proofs.Grid.{lt_or_ge, sq_lt}
use Rattle.root.proofs.Patterns.{Is, plain_pattern, units_is, sign_is, finite_is, no_nan, no_nan_pattern, same_units, placed}
use Rattle.root.proofs.Order.{pattern_less, pattern_le, pattern_back, unsigned, finite_unsigned, finite_less}
use Rattle.root.proofs.Bounds.{within_units}
use Rattle.hypot.specs.Length.{four_squares, four_middle, IsHypot}
use Rattle.hypot.specs.Placing.{twice_middle, LengthAt}

square : {a b : ℕ} → a ≡ b → a * a ≡ b * b
square e = ap (λ (z : ℕ). z * z) e

square_le : {a b : ℕ} → a ≤ b → a * a ≤ b * b
square_le h = mul-le-mul h h

-- ---- the double with the pattern b

module _ (b : ℕ) (B : b + 1 < 2047 * 2 ^ 52) where
  value : Is (of_bits binary64 b) false (pattern_units b)
  value = plain_pattern b (omega arith)

  pub bits_finite : T (finite (of_bits binary64 b))
  bits_finite = finite_is (of_bits binary64 b) false (pattern_units b) value

  bits_units : units_of (of_bits binary64 b) ≡ pattern_units b
  bits_units = units_is (of_bits binary64 b) false (pattern_units b) value

  bits_sign : negative (of_bits binary64 b) ≡ false
  bits_sign = sign_is (of_bits binary64 b) false (pattern_units b) value

  bits_back : to_bits binary64 (of_bits binary64 b) ≡ b
  bits_back = to_bits-of_bits binary64 b (omega arith) (no_nan (of_bits binary64 b) bits_finite)

-- ---- what is said of the neighbours of a pattern holds of every pattern c

module _ {v b : ℕ} (L : LengthAt v b) (c : ℕ) where
  abbrev with_c : ℕ
  with_c = pattern_units b + pattern_units c

  over : b < c → twice_middle b ≤ with_c
  over l = add (pattern_units b) (pattern_le (up l))
    where
      up : b < c → b + 1 ≤ c
      up l = omega arith

      add : (a : ℕ) {x y : ℕ} → x ≤ y → a + x ≤ a + y
      add a h = omega arith

  under : (e : ℕ) → c < b → e + 1 ≡ b → with_c ≤ twice_middle e
  under e l g = subst (λ (x : ℕ). pattern_units x + pattern_units c ≤ twice_middle e) g (add (pattern_units (e + 1)) (pattern_le (down l g)))
    where
      down : c < b → e + 1 ≡ b → c ≤ e
      down l g = omega arith

      add : (a : ℕ) {x y : ℕ} → x ≤ y → a + x ≤ y + a
      add a h = omega arith

  last : c < b → b - 1 + 1 ≡ b
  last l = omega arith

  above_at : b < c → v ≤ with_c * with_c
  above_at l = le_trans L.above (square_le (over l))

  below_at : c < b → with_c * with_c ≤ v
  below_at l = le_trans (square_le (under (b - 1) l (last l))) (L.below (b - 1) (last l))

  even_at : (b < c) ⊎ (c < b) → v ≡ with_c * with_c → b % 2 ≡ 0
  even_at (inl l) e = L.even_above (le_antisymm L.above (le_trans (square_le (over l)) (le_of_eq (sym e))))
  even_at (inr l) e = L.even_below (b - 1) (last l) (le_antisymm (le_trans (le_of_eq e) (square_le (under (b - 1) l (last l)))) (L.below (b - 1) (last l)))

-- ---- and so of every double z

module _ {v b : ℕ} (L : LengthAt v b) (x y : Float) (four : v ≡ four_squares x y) where
  abbrev r : Float
  r = of_bits binary64 b

  module _ (z : Float) (F : T (fits binary64 z)) (p : T (finite z)) where
    r_is : units_of r ≡ pattern_units b
    r_is = bits_units b L.plain

    z_is : units_of z ≡ pattern_units (unsigned z)
    z_is = finite_unsigned z F p

    with_z : four_middle r z ≡ (pattern_units b + pattern_units (unsigned z)) * (pattern_units b + pattern_units (unsigned z))
    with_z = square (ap (λ (k : ℕ). k + units_of z) r_is ∙ ap (λ (k : ℕ). pattern_units b + k) z_is)

    z_above : units_of r < units_of z → four_squares x y ≤ four_middle r z
    z_above l =
        subst₂ ◌≤◌ four (sym with_z) (above_at L (unsigned z) (pattern_back (subst₂ ◌<◌ r_is z_is l)))

    z_below : units_of z < units_of r → four_middle r z ≤ four_squares x y
    z_below l =
        subst₂ ◌≤◌ (sym with_z) four (below_at L (unsigned z) (pattern_back (subst₂ ◌<◌ z_is r_is l)))

    z_even : (units_of r ≡ units_of z → ⊥) → four_squares x y ≡ four_middle r z → to_bits binary64 r % 2 ≡ 0
    z_even n e =
        ap (λ (k : ℕ). k % 2) (bits_back b L.plain)
        ∙ even_at L (unsigned z) (apart b (unsigned z) (λ (g : b ≡ unsigned z). n (r_is ∙ ap pattern_units g ∙ sym z_is))) (four ∙ e ∙ with_z)
      where
        apart : (b c : ℕ) → (b ≡ c → ⊥) → (b < c) ⊎ (c < b)
        apart b c n = elim (lt_or_ge b c) [ inl l ↦ inl l | inr l ↦ elim (eq-or-lt_of_le l) [ inl e ↦ absurd (n (sym e)) | inr g ↦ inr g ] ]

  pub is_hypot : IsHypot x y r
  is_hypot = record { is_finite = bits_finite b L.plain; sign = bits_sign b L.plain; above = z_above; below = z_below; even = z_even }

-- ---- as `hypot` has it

pub four_patterns_lem : (x y : Float) → T (fits binary64 x) → T (fits binary64 y) → T (finite x) → T (finite y)
    → 4 * (pattern_units (unsigned x) * pattern_units (unsigned x) + pattern_units (unsigned y) * pattern_units (unsigned y)) ≡ four_squares x y
four_patterns_lem x y F G p q =
    ap (λ (k : ℕ). 4 * (k + pattern_units (unsigned y) * pattern_units (unsigned y))) (square (sym (finite_unsigned x F p)))
    ∙ ap (λ (k : ℕ). 4 * (units_of x * units_of x + k)) (square (sym (finite_unsigned y G q)))

pub four_turned : (x y : Float) → four_squares y x ≡ four_squares x y
four_turned x y = ap (λ (k : ℕ). 4 * k) (add_comm (units_of y * units_of y) (units_of x * units_of x))

pub plain_length : {v b : ℕ} → LengthAt v b → T (not (nan_bits binary64 b))
plain_length {v} {b} L = no_nan_pattern b (bits_finite b L.plain)

bound_at : pattern_units (2045 * 2 ^ 52) ≡ 2 ^ 52 * 2 ^ 2044
bound_at = placed 2044 (2 ^ 52) (λ _. le_of_eq refl) (omega arith)

too_large : 2 ^ 1021 * one < 2 ^ 52 * 2 ^ 2044
unfolding one
too_large = lit< tt

pub within_pattern : (x : Float) → T (fits binary64 x) → Within (2 ^ 1021) x → unsigned x < 2045 * 2 ^ 52
within_pattern x F h =
    pattern_back
    (lt_of_le_of_lt (le_trans (le_of_eq (sym (finite_unsigned x F h.is_finite))) (within_units (2 ^ 1021) x h)) (lt_of_lt_of_le too_large (le_of_eq (sym bound_at))))

-- ---- only one double is so: of two, each is as near as the other, and no double lies between them; so their patterns are neighbours, and one is odd

module _ (x y : Float) {r s : Float} (F : T (fits binary64 r)) (G : T (fits binary64 s)) (a : IsHypot x y r) (b : IsHypot x y s) (l : units_of s < units_of r) where
  turned : four_middle s r ≡ four_middle r s
  turned = square (add_comm (units_of s) (units_of r))

  tie : four_squares x y ≡ four_middle r s
  tie = le_antisymm (le_trans (b.above r F a.is_finite l) (le_of_eq turned)) (a.below s G b.is_finite l)

  order : unsigned s < unsigned r
  order =
      pattern_back (subst₂ ◌<◌ (finite_unsigned s G b.is_finite) (finite_unsigned r F a.is_finite) l)

  -- the double behind s
  between : unsigned s + 1 < unsigned r → ⊥
  between h =
      let c = unsigned s + 1 in
      let z = of_bits binary64 c in
      let B : c + 1 < 2047 * 2 ^ 52 = omega (arith, finite_less r F a.is_finite) in
      let lo = subst₂ ◌<◌ (sym (finite_unsigned s G b.is_finite)) (sym (bits_units c B)) (pattern_less (unsigned s) c (after (unsigned s))) in
      let hi = subst₂ ◌<◌ (sym (bits_units c B)) (sym (finite_unsigned r F a.is_finite)) (pattern_less c (unsigned r) h) in
      lt_irrefl (four_squares x y)
      (lt_of_le_of_lt (b.above z (of_bits-fits binary64 c) (bits_finite c B) lo)
      (lt_of_lt_of_le (sq_lt (units_of s + units_of z) (units_of s + units_of r) (add (units_of s) hi)) (le_of_eq (turned ∙ sym tie))))
    where
      add : (a : ℕ) {x y : ℕ} → x < y → a + x < a + y
      add a h = omega arith

      after : (c : ℕ) → c < c + 1
      after c = omega arith

  clash : ⊥
  clash = elim (eq-or-lt_of_le (up (unsigned s) (unsigned r) order)) [
    | inl g ↦ odd (unsigned s) (unsigned r) (to_bits binary64 s) (to_bits binary64 r) refl refl g s_even r_even
    | inr g ↦ between g
  ]
    where
      differ : (a b : ℕ) → a < b → a ≡ b → ⊥
      differ a b l e = omega arith

      s_even : to_bits binary64 s % 2 ≡ 0
      s_even = b.even r F a.is_finite (differ (units_of s) (units_of r) l) (tie ∙ sym turned)

      r_even : to_bits binary64 r % 2 ≡ 0
      r_even = a.even s G b.is_finite (λ (g : units_of r ≡ units_of s). differ (units_of s) (units_of r) l (sym g)) tie

      up : (a b : ℕ) → a < b → a + 1 ≤ b
      up a b l = omega arith

      odd : (a b c d : ℕ) → a ≡ c % 2 ^ 63 → b ≡ d % 2 ^ 63 → a + 1 ≡ b → c % 2 ≡ 0 → d % 2 ≡ 0 → ⊥
      odd a b c d e f g h k = omega arith

pub hypot_unique : (x y r s : Float) → T (fits binary64 r) → T (fits binary64 s) → IsHypot x y r → IsHypot x y s → r ≡ s
hypot_unique x y r s F G a b = same_units r s F G a.is_finite b.is_finite (a.sign ∙ sym b.sign) (le_antisymm (no_more F G a b) (no_more G F b a))
  where
    no_more : {r s : Float} → T (fits binary64 r) → T (fits binary64 s) → IsHypot x y r → IsHypot x y s → units_of r ≤ units_of s
    no_more {r} {s} F G a b = elim (lt_or_ge (units_of s) (units_of r)) [ inl l ↦ absurd (clash x y F G a b l) | inr l ↦ l ]
