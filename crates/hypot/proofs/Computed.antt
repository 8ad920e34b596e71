-- The computed length of specs/Length.antt is the length: it meets `IsHypot`, it is the only double that does, and it is at most twice the larger bound of the extents.
-- Assumes nothing.
use mathlib.Core.Path.{◌≡◌, refl, sym, ap, ap₂, ◌∙◌, subst}
use mathlib.Core.Logic.{◌⊎◌, inl, inr}
use mathlib.Core.Bool.{Bool, true, false, cond}
use Prim.Native.Nat.{ℕ, suc, ◌+◌, ◌*◌, ◌%◌, ◌^◌, ◌≤◌, ◌<◌, max, min}
use native.Mathlib.Nat.{
  add_comm,
  max-eq_left,
  max-eq_right,
  min-eq_left,
  min-eq_right,
  mul_comm,
  mul_assoc,
  mul_left_comm,
  mul-mul-mul_comm,
  mul-pos,
  mul-le-mul,
  mul-le-mul_right,
  pow-succ',
  le_trans,
  le_of_eq,
  le_of_lt,
  lt_of_le_of_lt,
  lt_of_lt_of_le,
  lt_irrefl,
}
use native.Mathlib.Omega.{arith}
use lib.Dec.{T, eqb, eqb→eq, eqb_refl, lit<}
use lib.Arith.{lt_of_le-ne}
use lib.Pow.{pow_pos, pow_mono}
use lib.Ieee.{Float, binary64, fits, round, of_bits, to_bits}
use lib.Ieee.Bits.{of_bits-fits}
use lib.Ieee.Fits.{round-fits}
use Rattle.root.specs.Doubles.{finite, one, units_of}
use Rattle.root.specs.Bounds.{Within, Nearest}
use Rattle.root.specs.Root.{whole_root}
use Rattle.root.specs.Patterns.{pattern_units}
use Rattle.root.specs.Drawn.{WholeRoot}
use Rattle.root.proofs.Grid.{lt_or_ge, sq_lt}
use Rattle.root.proofs.Nearest.{round_nearest, round_sign, nearest_same}
use Rattle.root.proofs.Ties.{round_even}
use Rattle.root.proofs.Bounds.{held_pow, round_within, within_units}
use Rattle.root.proofs.WholeRoot.{whole_root_lem, whole_unique}
use Rattle.hypot.specs.Length.{four_squares, IsHypot, more, hypotenuse, Measured}
use Rattle.hypot.specs.Placing.{LengthAt}
use Rattle.hypot.proofs.Length.{is_hypot, four_patterns_lem, within_pattern, hypot_unique}

pub hypotenuse_fits : (x y : Float) → T (fits binary64 (hypotenuse x y))
unfolding hypotenuse
hypotenuse_fits x y = round-fits binary64 false _ _

one_unit : 0 < one
unfolding one
one_unit = pow_pos 1074

-- ---- w is the root of v, and c says whether it is more. Where twice a sum of two doubles lies beside 2 * w + c, the square of the sum lies beside v

module _ {v w c : ℕ} (W : WholeRoot v w) (which : ((w * w ≡ v) × (c ≡ 0)) ⊎ ((w * w < v) × (c ≡ 1))) (s : ℕ) where
  over : 2 * w + c ≤ 2 * s → v ≤ s * s
  over h = elim which [
    | inl e ↦ le_trans (le_of_eq (sym e.0)) (mul-le-mul (reach w c s h) (reach w c s h))
    | inr e ↦ le_trans (le_of_lt W.next) (mul-le-mul (pass w c s h e.1) (pass w c s h e.1))
  ]
    where
      reach : (w c s : ℕ) → 2 * w + c ≤ 2 * s → w ≤ s
      reach w c s h = omega arith

      pass : (w c s : ℕ) → 2 * w + c ≤ 2 * s → c ≡ 1 → w + 1 ≤ s
      pass w c s h e = omega arith

  under : 2 * s ≤ 2 * w + c → s * s ≤ v
  under h = le_trans (mul-le-mul reach reach) W.reaches
    where
      reach : s ≤ w
      reach = elim which [ inl e ↦ omega (arith, e.1) | inr e ↦ omega (arith, e.1) ]

  at : v ≡ s * s → 2 * w + c ≡ 2 * s
  at e = elim which [
    | inl h ↦ sum w c s same h.1
    | inr h ↦ absurd (lt_irrefl v (lt_of_le_of_lt (le_of_eq (e ∙ ap (λ (x : ℕ). x * x) (sym same))) h.0))
  ]
    where
      after : (s : ℕ) → s < s + 1
      after s = omega arith

      same : w ≡ s
      same = whole_unique W (record { reaches = le_of_eq (sym e); next = lt_of_le_of_lt (le_of_eq e) (sq_lt s (s + 1) (after s)) })

      sum : (w c s : ℕ) → w ≡ s → c ≡ 0 → 2 * w + c ≡ 2 * s
      sum w c s e f = omega arith

-- ---- the computed length of extents of at most 2 ^ i

module _ (x y : Float) (i : ℕ) (I : i ≤ 1021) (h : Within (2 ^ i) x) (g : Within (2 ^ i) y) where
  abbrev v : ℕ
  v = four_squares x y

  abbrev w : ℕ
  w = whole_root 2100 v

  abbrev c : ℕ
  c = more v w

  abbrev res : Float
  res = round binary64 false (2 * w + c) (4 * one)

  -- the largest extent, in units
  abbrev most : ℕ
  most = 2 ^ i * one

  some : 0 < most * most
  some = mul-pos (mul-pos (pow_pos i) one_unit) (mul-pos (pow_pos i) one_unit)

  four_most : v < 4 * most * (4 * most)
  four_most =
      lt_of_lt_of_le
      (sum (units_of x * units_of x) (units_of y * units_of y) (most * most) (mul-le-mul (within_units (2 ^ i) x h) (within_units (2 ^ i) x h))
      (mul-le-mul (within_units (2 ^ i) y g) (within_units (2 ^ i) y g)) some) (le_of_eq (sym (mul-mul-mul_comm 4 most 4 most)))
    where
      sum : (a b m : ℕ) → a ≤ m → b ≤ m → 0 < m → 4 * (a + b) < 4 * 4 * m
      sum a b m j k l = omega arith

  small : v < 4 ^ 2100
  unfolding one
  small =
      let t : 4 * most ≤ 4 * (2 ^ 1021 * one) = times (mul-le-mul_right one (pow_mono I)) in
      lt_of_lt_of_le four_most (le_trans (mul-le-mul t t) (le_of_lt (lit< tt)))
    where
      times : {a b : ℕ} → a ≤ b → 4 * a ≤ 4 * b
      times h = omega arith

  is_whole : WholeRoot v w
  is_whole = whole_root_lem 2100 v small

  few : w < 4 * most
  few = elim (lt_or_ge w (4 * most)) [
    | inl l ↦ l
    | inr l ↦ absurd (lt_irrefl v (lt_of_lt_of_le four_most (le_trans (mul-le-mul l l) is_whole.reaches)))
  ]

  which : ((w * w ≡ v) × (c ≡ 0)) ⊎ ((w * w < v) × (c ≡ 1))
  which = go (eqb (w * w) v) (eqb→eq (w * w) v) (λ (e : w * w ≡ v). subst (λ (z : ℕ). T (eqb (w * w) z)) e (eqb_refl (w * w)))
    where
      go : (b : Bool) → (T b → w * w ≡ v) → (w * w ≡ v → T b) → ((w * w ≡ v) × (cond {A = ℕ} b 0 1 ≡ 0)) ⊎ ((w * w < v) × (cond {A = ℕ} b 0 1 ≡ 1))
      go true f g = inl (f tt, refl)
      go false f g = inr (lt_of_le-ne is_whole.reaches g, refl)

  four_units : 0 < 4 * one
  four_units = mul-pos (lit< tt) one_unit

  bit : (c ≡ 0) ⊎ (c ≡ 1)
  bit = elim which [ inl e ↦ inl e.1 | inr e ↦ inr e.1 ]

  room : 2 * w + c ≤ 2 ^ suc i * (4 * one)
  room = le_trans (sum w c most few bit) (le_of_eq (sym (ap (λ (k : ℕ). k * (4 * one)) (pow-succ' 2 i) ∙ mul-mul-mul_comm 2 (2 ^ i) 4 one)))
    where
      sum : (w c m : ℕ) → w < 4 * m → (c ≡ 0) ⊎ (c ≡ 1) → 2 * w + c ≤ 2 * 4 * m
      sum w c m l (inl e) = omega arith
      sum w c m l (inr e) = omega arith

  pub hypotenuse_pow : Within (2 ^ suc i) (hypotenuse x y)
  unfolding hypotenuse
  hypotenuse_pow = round_within binary64 (2 * w + c) (4 * one) (2 ^ suc i) four_units (pow_pos (suc i)) room (held_pow (suc i) (omega arith)) false

  res_finite : T (finite res)
  unfolding hypotenuse
  res_finite = hypotenuse_pow.is_finite

  -- twice the root is (2 * w + c) / 2 units, as far as rounding goes
  res_nearest : Nearest (2 * w + c) 4 res
  unfolding one
  res_nearest = nearest_same ((2 * w + c) * one) (4 * one) (2 * w + c) 4 res four_units (turn (2 * w + c) one) (round_nearest false (2 * w + c) (4 * one) four_units res_finite)
    where
      turn : (a o : ℕ) → a * o * 4 ≡ a * (4 * o)
      turn a o = mul_assoc a o 4 ∙ ap (λ (z : ℕ). a * z) (mul_comm o 4)

  res_even : (z : Float) → T (fits binary64 z) → T (finite z) → (units_of res ≡ units_of z → ⊥) → 2 * w + c ≡ 2 * (units_of res + units_of z) → to_bits binary64 res % 2 ≡ 0
  unfolding one
  res_even z F p n e = round_even false (2 * w + c) (4 * one) four_units res_finite z F p n (ap (λ (k : ℕ). 2 * (k * one)) e ∙ turn (units_of res + units_of z) one)
    where
      turn : (s o : ℕ) → 2 * (2 * s * o) ≡ s * (4 * o)
      turn s o = omega (arith, mul_assoc 2 s o, mul_left_comm s 4 o)

  pub hypotenuse_meets : IsHypot x y (hypotenuse x y)
  unfolding hypotenuse
  hypotenuse_meets = record {
    is_finite = res_finite;
    sign = round_sign false (2 * w + c) (4 * one) res_finite;
    above = λ z F p l. over is_whole which (units_of res + units_of z) (half (2 * w + c) (units_of res + units_of z) (res_nearest.above z F p l));
    below = λ z F p l. under is_whole which (units_of res + units_of z) (half' (2 * w + c) (units_of res + units_of z) (res_nearest.below z F p l));
    even = λ z F p n e. res_even z F p n (at is_whole which (units_of res + units_of z) e);
  }
    where
      half : (a s : ℕ) → 2 * a ≤ s * 4 → a ≤ 2 * s
      half a s h = omega arith

      half' : (a s : ℕ) → s * 4 ≤ 2 * a → 2 * s ≤ a
      half' a s h = omega arith

  pub measured : (r : Float) → T (fits binary64 r) → IsHypot x y r → Measured x y r
  measured r R a = record { nearest = a; computed = hypot_unique x y r (hypotenuse x y) R (hypotenuse_fits x y) a hypotenuse_meets }

-- ---- as `hypot` has it

-- the larger and the lesser of two, in turn
both : (f : ℕ → ℕ) (a b : ℕ) → f (max a b) + f (min a b) ≡ f a + f b
both f a b = elim (lt_or_ge a b) [
  | inl l ↦ ap₂ ◌+◌ (ap f (max-eq_right (le_of_lt l))) (ap f (min-eq_left (le_of_lt l))) ∙ add_comm (f b) (f a)
  | inr l ↦ ap₂ ◌+◌ (ap f (max-eq_left l)) (ap f (min-eq_right l))
]

module _ (x y : Float) (f : fits binary64 x ≡ true) (g : fits binary64 y ≡ true) (h : Within (2 ^ 1021) x) (k : Within (2 ^ 1021) y) where
  F : T (fits binary64 x)
  F = subst T (sym f) tt

  G : T (fits binary64 y)
  G = subst T (sym g) tt

  abbrev greater : ℕ
  greater = max (to_bits binary64 x % 2 ^ 63) (to_bits binary64 y % 2 ^ 63)

  abbrev lesser : ℕ
  lesser = min (to_bits binary64 x % 2 ^ 63) (to_bits binary64 y % 2 ^ 63)

  pub hypot_asks : (lesser ≤ greater) × (greater < 2045 * 2 ^ 52)
  hypot_asks = (omega arith, omega (arith, within_pattern x F h, within_pattern y G k))

  pub hypot_meets : {r : ℕ} → LengthAt (4 * (pattern_units greater * pattern_units greater + pattern_units lesser * pattern_units lesser)) r → Measured x y (of_bits binary64 r)
  hypot_meets {r} L =
      measured x y 1021 (omega arith) h k (of_bits binary64 r) (of_bits-fits binary64 r)
      (is_hypot L x y (ap (λ (n : ℕ). 4 * n) (both (λ (n : ℕ). pattern_units n * pattern_units n) (to_bits binary64 x % 2 ^ 63) (to_bits binary64 y % 2 ^ 63))
      ∙ four_patterns_lem x y F G h.is_finite k.is_finite))
