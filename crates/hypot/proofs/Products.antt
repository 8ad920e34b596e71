-- The square of a number of 54 digits in two words, its quotient by a power of four, and the sum of two squares. Nothing here but whole numbers. Assumes nothing.
use mathlib.Core.Path.{◌≡◌, refl, sym, ap, ◌∙◌, subst}
use Prim.Native.Nat.{ℕ, zero, suc, ◌+◌, ◌-◌, ◌*◌, ◌/◌, ◌%◌, ◌^◌, ◌≤◌, ◌<◌}
use native.Mathlib.Nat.{
  mul_comm,
  mul_assoc,
  mul_right_comm,
  mul-mul-mul_comm,
  add-mul,
  mul-add,
  one-mul,
  pow-succ',
  mul-le-mul,
  mul-le-mul_right,
  mul-div_cancel,
  div-le_self,
  div-add-mod',
  mod-lt,
  mod-eq_of_lt,
  le_trans,
  le_of_eq,
  lt_of_lt_of_le,
  lt_of_mul-lt-mul_right,
}
use native.Mathlib.Omega.{arith}
use lib.Pow.{pow_pos, pow-add, pow_mono}
use Rattle.hypot.specs.Placing.{Squared, Divided, Summed}

-- ---- the square

abbrev most : ℕ
most = (2 ^ 27 - 1) * (2 ^ 27 - 1)

-- the products of the halves of v
pub bounds : (v : ℕ) → v < 2 ^ 54 → (v / 2 ^ 27 * (v / 2 ^ 27) ≤ most) × (v / 2 ^ 27 * (v % 2 ^ 27) ≤ most) × (v % 2 ^ 27 * (v % 2 ^ 27) ≤ most)
bounds v h = (mul-le-mul high high, mul-le-mul high low, mul-le-mul low low)
  where
    high : v / 2 ^ 27 ≤ 2 ^ 27 - 1
    high = omega arith

    low : v % 2 ^ 27 ≤ 2 ^ 27 - 1
    low = omega arith

pub halves : (v : ℕ) → v * v ≡ v / 2 ^ 27 * (v / 2 ^ 27) * 2 ^ 54 + 2 * (v / 2 ^ 27 * (v % 2 ^ 27)) * 2 ^ 27 + v % 2 ^ 27 * (v % 2 ^ 27)
halves v = ap (λ (z : ℕ). z * z) (sym (div-add-mod' v (2 ^ 27))) ∙ expand (v / 2 ^ 27) (v % 2 ^ 27) (2 ^ 27)
  where
    expand : (a b w : ℕ) → (a * w + b) * (a * w + b) ≡ a * a * (w * w) + 2 * (a * b) * w + b * b
    expand a b w = simp (add-mul, mul-add) (omega (arith, mul-mul-mul_comm a w a w, mul_comm b (a * w), mul_right_comm a w b, mul_assoc 2 (a * b) w))

-- x, y and z are the products of the halves
pub squared : (v x y z : ℕ) → v < 2 ^ 54 → v * v ≡ x * 2 ^ 54 + 2 * y * 2 ^ 27 + z → z ≤ most
    → Squared v (x + 2 * y / 2 ^ 27 + (2 * y % 2 ^ 27 * 2 ^ 27 + z) / 2 ^ 54) ((2 * y % 2 ^ 27 * 2 ^ 27 + z) % 2 ^ 54)
squared v x y z h e l = record { is = is (v * v) x y z e; high = under (v * v) x y z e (mul-le-mul up up); low = omega arith }
  where
    up : v ≤ 2 ^ 54 - 1
    up = omega arith

    is : (s x y z : ℕ) → s ≡ x * 2 ^ 54 + 2 * y * 2 ^ 27 + z
        → (x + 2 * y / 2 ^ 27 + (2 * y % 2 ^ 27 * 2 ^ 27 + z) / 2 ^ 54) * 2 ^ 54 + (2 * y % 2 ^ 27 * 2 ^ 27 + z) % 2 ^ 54 ≡ s
    is s x y z e = omega arith

    under : (s x y z : ℕ) → s ≡ x * 2 ^ 54 + 2 * y * 2 ^ 27 + z → s ≤ (2 ^ 54 - 1) * (2 ^ 54 - 1) → x + 2 * y / 2 ^ 27 + (2 * y % 2 ^ 27 * 2 ^ 27 + z) / 2 ^ 54 < 2 ^ 54
    under s x y z e k = omega (arith, is s x y z e)

pub square_of : (v : ℕ) → v < 2 ^ 54
    → Squared v (v / 2 ^ 27 * (v / 2 ^ 27) + 2 * (v / 2 ^ 27 * (v % 2 ^ 27)) / 2 ^ 27 + (2 * (v / 2 ^ 27 * (v % 2 ^ 27)) % 2 ^ 27 * 2 ^ 27 + v % 2 ^ 27 * (v % 2 ^ 27)) / 2 ^ 54)
    ((2 * (v / 2 ^ 27 * (v % 2 ^ 27)) % 2 ^ 27 * 2 ^ 27 + v % 2 ^ 27 * (v % 2 ^ 27)) % 2 ^ 54)
square_of v h = squared v (v / 2 ^ 27 * (v / 2 ^ 27)) (v / 2 ^ 27 * (v % 2 ^ 27)) (v % 2 ^ 27 * (v % 2 ^ 27)) h (halves v) (bounds v h).2

-- ---- powers of four

pub two_four : (d : ℕ) → 2 ^ (2 * d) ≡ 4 ^ d
two_four zero = refl
two_four (suc d) =
    ap (λ (x : ℕ). 2 ^ x) (two d) ∙ pow-succ' 2 (suc (2 * d)) ∙ ap (λ (x : ℕ). 2 * x) (pow-succ' 2 (2 * d)) ∙ four (2 ^ (2 * d)) (4 ^ d) (two_four d) ∙ sym (pow-succ' 4 d)
  where
    two : (d : ℕ) → 2 * suc d ≡ suc (suc (2 * d))
    two d = omega arith

    four : (a b : ℕ) → a ≡ b → 2 * (2 * a) ≡ 4 * b
    four a b e = omega arith

pub four_pos : (d : ℕ) → 0 < 4 ^ d
four_pos d = lt_of_lt_of_le (pow_pos (2 * d)) (le_of_eq (two_four d))

pub four_most : (d : ℕ) → d < 27 → 4 ^ d ≤ 2 ^ 52
four_most d h = le_trans (le_of_eq (sym (two_four d))) (pow_mono twice)
  where
    twice : 2 * d ≤ 52
    twice = omega arith

pub shifted : (d : ℕ) → d < 27 → 1 * 2 ^ (2 * d) % 2 ^ 64 ≡ 4 ^ d
shifted d h = ap (λ (x : ℕ). x % 2 ^ 64) (one-mul (2 ^ (2 * d)) ∙ two_four d) ∙ mod-eq_of_lt (omega (arith, four_most d h))

-- ---- the quotient

-- a power of four of at most 2 ^ 52 divides 2 ^ 54
divides : (d : ℕ) → d < 27 → 2 ^ 54 / 4 ^ d * 4 ^ d ≡ 2 ^ 54
divides d h =
    ap (λ (z : ℕ). 2 ^ 54 / z * z) (sym (two_four d)) ∙ ap (λ (z : ℕ). z / 2 ^ (2 * d) * 2 ^ (2 * d)) whole
    ∙ ap (λ (z : ℕ). z * 2 ^ (2 * d)) (mul-div_cancel (2 ^ (54 - 2 * d)) (pow_pos (2 * d))) ∙ sym whole
  where
    back : (d : ℕ) → d < 27 → 54 ≡ 54 - 2 * d + 2 * d
    back d h = omega arith

    whole : 2 ^ 54 ≡ 2 ^ (54 - 2 * d) * 2 ^ (2 * d)
    whole = ap (λ (z : ℕ). 2 ^ z) (back d h) ∙ pow-add 2 (54 - 2 * d) (2 * d)

-- p is 4 ^ d, and w how often it goes into 2 ^ 54
module _ (h l d p : ℕ) (D : d < 27) (P : p ≡ 4 ^ d) (L : l < 2 ^ 54) where
  abbrev w : ℕ
  w = 2 ^ 54 / p

  some : 0 < p
  some = lt_of_lt_of_le (four_pos d) (le_of_eq (sym P))

  window : w * p ≡ 2 ^ 54
  window = subst (λ (z : ℕ). 2 ^ 54 / z * z ≡ 2 ^ 54) (sym P) (divides d D)

  quotient_less : l / p < w
  quotient_less = lt_of_mul-lt-mul_right p (omega (arith, div-add-mod' l p, window))

  pub low_fits : h % p * w + l / p < 2 ^ 54
  low_fits =
      let last : (h % p + 1) * w ≤ p * w = mul-le-mul_right w (mod_lt_up (mod-lt h some)) in
      omega (arith, quotient_less, last, add-mul (h % p) 1 w, mul_comm p w, window)
    where
      mod_lt_up : {a b : ℕ} → a < b → a + 1 ≤ b
      mod_lt_up h = omega arith

  spread : (h / p * 2 ^ 54 + (h % p * w + l / p)) * p + l % p ≡ h * 2 ^ 54 + l
  spread =
      let a = add-mul (h / p * 2 ^ 54) (h % p * w + l / p) p in
      let b = add-mul (h % p * w) (l / p) p in
      let e : h / p * 2 ^ 54 * p ≡ h / p * p * 2 ^ 54 = mul_right_comm (h / p) (2 ^ 54) p in
      let f : h % p * w * p ≡ h % p * 2 ^ 54 = mul_assoc (h % p) w p ∙ ap (λ (k : ℕ). h % p * k) window in
      omega (arith, a, b, e, f, div-add-mod' h p, div-add-mod' l p)

  pub divided : Divided h l d (h / p) (h % p * w + l / p) (l % p)
  divided = record {
    is = subst (λ (z : ℕ). (h / p * 2 ^ 54 + (h % p * w + l / p)) * z + l % p ≡ h * 2 ^ 54 + l) P spread;
    high = div-le_self h p;
    low = low_fits;
    part = lt_of_lt_of_le (mod-lt l some) (le_of_eq P);
  }

-- ---- the sum
pub summed : {m l d h w h₂ w₂ h' w' f : ℕ} → Squared (2 * m) h w → Squared (2 * l) h₂ w₂ → Divided h₂ w₂ d h' w' f
    → Summed m l d (h + h' + (w + w') / 2 ^ 54) ((w + w') % 2 ^ 54) f
summed {m} {l} {d} {h} {w} {h₂} {w₂} {h'} {w'} {f} a b c = record {
  is =
      let t : (h + h' + (w + w') / 2 ^ 54) * 2 ^ 54 + (w + w') % 2 ^ 54 ≡ h * 2 ^ 54 + w + (h' * 2 ^ 54 + w') = omega arith in
      omega (arith, ap (λ (z : ℕ). z * 4 ^ d) t ∙ add-mul (h * 2 ^ 54 + w) (h' * 2 ^ 54 + w') (4 ^ d), c.is ∙ b.is, ap (λ (z : ℕ). z * 4 ^ d) a.is);
  high = omega (arith, a.high, a.low, b.high, c.high, c.low);
  low = omega arith;
  part = c.part;
}
