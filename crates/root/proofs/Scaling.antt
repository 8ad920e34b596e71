-- From the digits of a root to its pattern: the exponent is halved, and a small number is moved up. Assumes nothing.
use mathlib.Core.Path.{◌≡◌, refl, sym, ap, ◌∙◌, subst}
use Prim.Native.Nat.{ℕ, ◌+◌, ◌-◌, ◌*◌, ◌/◌, ◌%◌, ◌^◌, ◌≤◌, ◌<◌}
use native.Mathlib.Nat.{mul_assoc, mul-le-mul_right, mul-lt-mul_of_pos_right, mod-eq_of_lt, le_trans, le_of_eq, lt_of_le_of_lt, lt_of_lt_of_le, lt_of_not-le, lt_irrefl}
use native.Mathlib.Omega.{arith}
use lib.Pow.{pow_pos, pow-add, pow_mono}
use Rattle.root.specs.Digits.{Digits, RootAt}

-- a * 2 ^ k for a k that is j more than i
pub shift : (a i j k : ℕ) → k ≡ j + i → a * 2 ^ k ≡ a * 2 ^ j * 2 ^ i
shift a i j k e = ap (λ (x : ℕ). a * 2 ^ x) e ∙ ap (λ (x : ℕ). a * x) (pow-add 2 j i) ∙ sym (mul_assoc a (2 ^ j) (2 ^ i))

big : (a : ℕ) → 2 ^ 52 ≤ a → 2 ^ 104 ≤ a * 2 ^ 52
big a h = omega arith

even_split : (e : ℕ) → 1022 ≤ e → e % 2 ≡ 0 → e ≡ 52 + ((e - 52) / 2 + (e - 52) / 2)
even_split e h p = omega arith

odd_split : (e : ℕ) → 1022 ≤ e → (e % 2 ≡ 0 → ⊥) → e ≡ 53 + ((e - 53) / 2 + (e - 53) / 2)
odd_split e h p = omega arith

pub even : (a e q : ℕ) → 2 ^ 52 ≤ a → 1022 ≤ e → e < 3200 → e % 2 ≡ 0 → Digits (a * 2 ^ 52) q → RootAt (a * 2 ^ e) ((e - 52) / 2 * 2 ^ 52 + q)
even a e q l lo hi p d = record {
  h = (e - 52) / 2;
  m = a * 2 ^ 52;
  q = q;
  digits = d;
  low = big a l;
  scaled = shift a ((e - 52) / 2 + (e - 52) / 2) 52 e (even_split e lo p);
  pattern = refl;
  range = omega arith;
}

twice : (a : ℕ) → a * 2 ^ 53 ≡ a * 2 * 2 ^ 52
twice a = omega arith

pub uneven : (a e q : ℕ) → 2 ^ 52 ≤ a → 1022 ≤ e → e < 3200 → (e % 2 ≡ 0 → ⊥) → Digits (a * 2 * 2 ^ 52) q → RootAt (a * 2 ^ e) ((e - 53) / 2 * 2 ^ 52 + q)
uneven a e q l lo hi p d = record {
  h = (e - 53) / 2;
  m = a * 2 * 2 ^ 52;
  q = q;
  digits = d;
  low = omega arith;
  scaled = shift a ((e - 53) / 2 + (e - 53) / 2) 53 e (odd_split e lo p) ∙ ap (λ (x : ℕ). x * 2 ^ ((e - 53) / 2 + (e - 53) / 2)) (twice a);
  pattern = refl;
  range = omega arith;
}

-- ---- a number t below 2 ^ 52 moved up until it has 53 digits: 2 ^ r is the largest power of two in it
pub pow_lt_back : (i p : ℕ) → 2 ^ i < 2 ^ p → i < p
pow_lt_back i p h = lt_of_not-le (λ (g : p ≤ i). lt_irrefl (2 ^ i) (lt_of_lt_of_le h (pow_mono g)))

module _ (t r : ℕ) (T : t < 2 ^ 52) (P : 2 ^ r ≤ t) (N : t < 2 * 2 ^ r) where
  abbrev d : ℕ
  d = t * 2 ^ (52 - r)

  pub few : r < 52
  few = pow_lt_back r 52 (lt_of_le_of_lt P T)

  whole : 2 ^ r * 2 ^ (52 - r) ≡ 2 ^ 52
  whole = sym (pow-add 2 r (52 - r)) ∙ ap (λ (k : ℕ). 2 ^ k) (back r few)
    where
      back : (r : ℕ) → r < 52 → r + (52 - r) ≡ 52
      back r h = omega arith

  least : 2 ^ 52 ≤ d
  least = le_trans (le_of_eq (sym whole)) (mul-le-mul_right (2 ^ (52 - r)) P)

  under : d < 2 ^ 53
  under = lt_of_lt_of_le (mul-lt-mul_of_pos_right N (pow_pos (52 - r))) (le_of_eq (mul_assoc 2 (2 ^ r) (2 ^ (52 - r)) ∙ ap (λ (x : ℕ). 2 * x) whole))

  in_word : d % 2 ^ 64 ≡ d
  in_word = mod-eq_of_lt (omega (arith, under))

  pub asked : (2 ^ 52 ≤ d % 2 ^ 64) × (d % 2 ^ 64 < 2 ^ 53) × (1022 ≤ 1074 - (52 - r)) × (1074 - (52 - r) < 3200)
  asked = (omega (arith, in_word, least), omega (arith, in_word, under), omega arith, omega arith)

  pub moved : {b : ℕ} → RootAt (d % 2 ^ 64 * 2 ^ (1074 - (52 - r))) b → RootAt (t * 2 ^ 1074) b
  moved {b} = subst (λ (n : ℕ). RootAt n b) (ap (λ (x : ℕ). x * 2 ^ (1074 - (52 - r))) in_word ∙ sym (shift t (1074 - (52 - r)) (52 - r) 1074 (back r few)))
    where
      back : (r : ℕ) → r < 52 → 1074 ≡ 52 - r + (1074 - (52 - r))
      back r h = omega arith
