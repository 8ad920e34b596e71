-- A root rounded to a grid of doubles is the nearest of all doubles. Nothing here but whole numbers. Assumes nothing.
use mathlib.Core.Path.{◌≡◌, sym, ap, ◌∙◌}
use mathlib.Core.Logic.{◌⊎◌, inl, inr}
use Prim.Native.Nat.{ℕ, ◌+◌, ◌-◌, ◌*◌, ◌^◌, ◌≤◌, ◌<◌}
use native.Mathlib.Nat.{
  mul_comm,
  mul_assoc,
  mul-add,
  add-mul,
  suc-mul,
  mul-le-mul,
  mul-le-mul_left,
  mul-le-mul_right,
  mul-lt-mul_of_pos_right,
  lt_of_mul-lt-mul_right,
  le_trans,
  le_of_eq,
  le_of_lt,
  lt_of_le_of_lt,
  lt_of_lt_of_le,
  mul-mul-mul_comm,
  mul-pos,
  pow-succ',
}
use native.Mathlib.Omega.{arith}
use native.Mathlib.Numerals.{add-one}
use mathlib.Core.Bool.{Bool, true, false, not}
use lib.Dec.{T, ltb, ltb→lt, nltb→le}
use lib.Pow.{pow_pos, pow-add, pow_mono}
use Rattle.root.specs.Digits.{Digits}

pub lt_or_ge : (a b : ℕ) → (a < b) ⊎ (b ≤ a)
lt_or_ge a b = go (ltb a b) (ltb→lt a b) (nltb→le a b)
  where
    go : (t : Bool) → (T t → a < b) → (T (not t) → b ≤ a) → (a < b) ⊎ (b ≤ a)
    go true f g = inl (f tt)
    go false f g = inr (g tt)

-- where k is below h, p * 2 ^ k is below 2 ^ 52 * 2 ^ h, for a p of at most 53 digits
pub finer : (p k h : ℕ) → p < 2 ^ 53 → k < h → p * 2 ^ k < 2 ^ 52 * 2 ^ h
finer p k h P l =
    lt_of_lt_of_le (mul-lt-mul_of_pos_right P (pow_pos k))
    (le_trans (le_of_eq (mul_assoc (2 ^ 52) 2 (2 ^ k) ∙ ap (λ (x : ℕ). 2 ^ 52 * x) (sym (pow-succ' 2 k)))) (mul-le-mul_left (2 ^ 52) (pow_mono l)))

-- where k is h or more, it is a multiple of 2 ^ h
coarser : (p k h : ℕ) → h ≤ k → p * 2 ^ k ≡ p * 2 ^ (k - h) * 2 ^ h
coarser p k h l = ap (λ (x : ℕ). p * 2 ^ x) (back k h l) ∙ ap (λ (x : ℕ). p * x) (pow-add 2 (k - h) h) ∙ sym (mul_assoc p (2 ^ (k - h)) (2 ^ h))
  where
    back : (a b : ℕ) → b ≤ a → a ≡ a - b + b
    back a b g = omega arith

module _ (q h p k : ℕ) (Q : 2 ^ 52 ≤ q) (P : p < 2 ^ 53) where
  abbrev w : ℕ
  w = 2 ^ h

  pub next_up : q * w < p * 2 ^ k → q * w + w ≤ p * 2 ^ k
  next_up l = go (lt_or_ge k h)
    where
      clash : (a b c : ℕ) → a < b → b < c → c ≤ a → ⊥
      clash a b c x y z = omega arith

      go : (k < h) ⊎ (h ≤ k) → q * w + w ≤ p * 2 ^ k
      go (inl g) = absurd (clash (q * w) (p * 2 ^ k) (2 ^ 52 * w) l (finer p k h P g) (mul-le-mul_right w Q))
      go (inr g) =
          let e = coarser p k h g in
          le_trans (le_of_eq (sym (suc-mul q w))) (le_trans (mul-le-mul_right w (lt_of_mul-lt-mul_right w (lt_of_lt_of_le l (le_of_eq e)))) (le_of_eq (sym e)))

  pub next_down : 2 ^ 52 < q → p * 2 ^ k < q * w → p * 2 ^ k + w ≤ q * w
  next_down m l = go (lt_or_ge k h)
    where
      low : (a b c : ℕ) → a < b → b + w ≤ c → a + w ≤ c
      low a b c x y = omega arith

      go : (k < h) ⊎ (h ≤ k) → p * 2 ^ k + w ≤ q * w
      go (inl g) = low (p * 2 ^ k) (2 ^ 52 * w) (q * w) (finer p k h P g) (le_trans (le_of_eq (sym (suc-mul (2 ^ 52) w))) (mul-le-mul_right w m))
      go (inr g) =
          let e = coarser p k h g in
          le_trans (le_of_eq (ap (λ (x : ℕ). x + w) e ∙ sym (suc-mul (p * 2 ^ (k - h)) w))) (mul-le-mul_right w (lt_of_mul-lt-mul_right w (lt_of_le_of_lt (le_of_eq (sym e)) l)))

-- ---- squares
pub double : (a : ℕ) → 2 * a * (2 * a) ≡ 4 * (a * a)
double a = omega (arith, mul_assoc 2 a (2 * a), mul_comm a (2 * a), mul_assoc 2 a a)

pub next_square : (r : ℕ) → (r + 1) * (r + 1) ≡ r * r + 2 * r + 1
next_square r = simp (add-mul, mul-add) (omega arith)

pub sq_lt : (a b : ℕ) → a < b → a * a < b * b
sq_lt a b h = lt_of_le_of_lt (mul-le-mul_left a (le_of_lt h)) (mul-lt-mul_of_pos_right h (pos a b h))
  where
    pos : (a b : ℕ) → a < b → 0 < b
    pos a b h = omega arith

-- 4 * (m * (w * w)) against ((2q ± 1) * w) ^ 2
sq_over : (m q : ℕ) → m ≤ q * q + q → 4 * m < (2 * q + 1) * (2 * q + 1)
sq_over m q h = omega (arith, next_square (2 * q), double q)

sq_under : (m q r : ℕ) → q * q < m + q → r + 1 ≡ q + q → r * r < 4 * m
sq_under m q r h e =
    let z : (r + 1) * (r + 1) ≡ 2 * q * (2 * q) = ap (λ (t : ℕ). t * t) (e ∙ twice q) in
    omega (arith, next_square r, double q)
  where
    twice : (q : ℕ) → q + q ≡ 2 * q
    twice q = omega arith

module _ (m q h p k : ℕ) (d : Digits m q) (low : 2 ^ 104 ≤ m) (P : p < 2 ^ 53) where
  abbrev W : ℕ
  W = 2 ^ h

  four : 4 * (m * 2 ^ (h + h)) ≡ 4 * m * (W * W)
  four = ap (λ (x : ℕ). 4 * (m * x)) (pow-add 2 h h) ∙ sym (mul_assoc 4 m (W * W))

  pub over : q * W < p * 2 ^ k → 4 * (m * 2 ^ (h + h)) < (q * W + p * 2 ^ k) * (q * W + p * 2 ^ k)
  over l =
      let g : (2 * q + 1) * W ≤ q * W + p * 2 ^ k = le_trans (le_of_eq (simp add-mul (omega (arith, mul_assoc 2 q W)))) (far (q * W) W (p * 2 ^ k) (next_up q h p k d.least P l))
      in
      lt_of_le_of_lt (le_of_eq four)
      (lt_of_lt_of_le (mul-lt-mul_of_pos_right (sq_over m q d.over) (mul-pos (pow_pos h) (pow_pos h)))
      (le_trans (le_of_eq (mul-mul-mul_comm (2 * q + 1) (2 * q + 1) W W)) (mul-le-mul g g)))
    where
      far : (a w b : ℕ) → a + w ≤ b → 2 * a + w ≤ a + b
      far a w b x = omega arith

  pub under : p * 2 ^ k < q * W → (q * W + p * 2 ^ k) * (q * W + p * 2 ^ k) < 4 * (m * 2 ^ (h + h))
  under l = go (lt_or_ge (2 ^ 52) q)
    where
      near : (a w b : ℕ) → b + w ≤ a → a + b + w ≤ a + a
      near a w b x = omega arith

      some : (q : ℕ) → 2 ^ 52 ≤ q → q + q - 1 + 1 ≡ q + q
      some q x = omega arith

      twice : (a b : ℕ) → b < a → a + b < 2 * a
      twice a b x = omega arith

      off : (r a b : ℕ) → a + W ≤ b → r * W + W ≡ b → a ≤ r * W
      off r a b x y = omega arith

      go : (2 ^ 52 < q) ⊎ (q ≤ 2 ^ 52) → (q * W + p * 2 ^ k) * (q * W + p * 2 ^ k) < 4 * (m * 2 ^ (h + h))
      go (inl g) =
          let r = q + q - 1 in
          let e : r + 1 ≡ q + q = some q d.least in
          let s : r * W + W ≡ q * W + q * W = sym (suc-mul r W) ∙ ap (λ (x : ℕ). x * W) (sym (add-one r) ∙ e) ∙ add-mul q q W in
          let t : q * W + p * 2 ^ k ≤ r * W = off r (q * W + p * 2 ^ k) (q * W + q * W) (near (q * W) W (p * 2 ^ k) (next_down q h p k d.least P g l)) s in
          lt_of_le_of_lt (mul-le-mul t t)
          (lt_of_le_of_lt (le_of_eq (mul-mul-mul_comm r W r W))
          (lt_of_lt_of_le (mul-lt-mul_of_pos_right (sq_under m q r d.under e) (mul-pos (pow_pos h) (pow_pos h))) (le_of_eq (sym four))))
      go (inr g) =
          let e : q ≡ 2 ^ 52 = omega (arith, d.least) in
          let c : q * q ≤ m = le_trans (le_of_eq (ap (λ (x : ℕ). x * x) e)) low in
          let t : q * W + p * 2 ^ k < 2 * q * W = lt_of_lt_of_le (twice (q * W) (p * 2 ^ k) l) (le_of_eq (sym (mul_assoc 2 q W))) in
          let u : 2 * q * (2 * q) ≤ 4 * m = omega (arith, mul_assoc 2 q (2 * q), mul_comm q (2 * q), mul_assoc 2 q q, c) in
          lt_of_lt_of_le (sq_lt (q * W + p * 2 ^ k) (2 * q * W) t)
          (le_trans (le_of_eq (mul-mul-mul_comm (2 * q) W (2 * q) W)) (le_trans (mul-le-mul_right (W * W) u) (le_of_eq (sym four))))
