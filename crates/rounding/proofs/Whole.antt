-- The whole number nearest to a fraction, and to a double from its bit pattern. Assumes nothing.
use mathlib.Core.Path.{◌≡◌, refl, sym, ap, ◌∙◌}
use Prim.Native.Nat.{ℕ, zero, suc, ◌+◌, ◌-◌, ◌*◌, ◌/◌, ◌%◌, ◌^◌, ◌≤◌, ◌<◌}
use native.Mathlib.Nat.{mul_comm, mul_assoc, one-mul, add-mul, mod-lt, div-eq_of_lt, mul-div-mul_right, div-le_of_le-mul, lt_of_lt_of_le, lt_of_le_of_lt, le_trans, le_of_eq, pow-succ'}
use native.Mathlib.Omega.{arith}
use lib.Dec.{lit<, lit≤}
use lib.Arith.{digits_div}
use lib.Pow.{pow_pos, pow_mono, pow-add, shl_lt, shl_exact}
use Rattle.root.specs.Doubles.{one}
use Rattle.root.specs.Patterns.{field_units, pattern_units}
use Rattle.root.proofs.Scaling.{shift}
use Rattle.root.proofs.Patterns.{pattern_is, at}
use Rattle.rounding.specs.Rounding.{half_up}
use Rattle.rounding.specs.Whole.{WholeOf}

-- ---- of a fraction

-- below a half
half_none : (a u h : ℕ) → u ≡ h + h → a < h → 0 ≡ half_up a u
unfolding half_up
half_none a u h e l = sym (div-eq_of_lt (less u a h e l))
  where
    less : (u a h : ℕ) → u ≡ h + h → a < h → 2 * a + u < 2 * u
    less u a h e l = omega arith

-- the same fraction with both parts multiplied by p
pub half_scaled : (n d p : ℕ) → 0 < p → half_up (n * p) (d * p) ≡ half_up n d
unfolding half_up
half_scaled n d p P =
    ap (λ (x : ℕ). x / (2 * (d * p))) (ap (λ (x : ℕ). x + d * p) (sym (mul_assoc 2 n p)) ∙ sym (add-mul (2 * n) d p))
    ∙ ap (λ (x : ℕ). (2 * n + d) * p / x) (sym (mul_assoc 2 d p))
    ∙ mul-div-mul_right (2 * n + d) (2 * d) P

-- a whole number
pub half_whole : (n u : ℕ) → 0 < u → half_up (n * u) u ≡ n
unfolding half_up
half_whole n u U = ap (λ (x : ℕ). (x + u) / (2 * u)) (sym (mul_assoc 2 n u) ∙ ap (λ (x : ℕ). x * u) (mul_comm 2 n) ∙ mul_assoc n 2 u) ∙ digits_div n (more u U)
  where
    more : (u : ℕ) → 0 < u → u < 2 * u
    more u h = omega arith

-- ---- of a pattern, by its exponent's field x. Below 1075 there are few whole numbers

light : (x t : ℕ) → t < 2 ^ 52 → x < 1075 → field_units x t < 2 ^ 1126
unfolding field_units
light zero t h l = lt_of_lt_of_le h (lit≤ tt)
light (suc j) t h l = lt_of_lt_of_le (shl_lt 53 j (lead t h)) (pow_mono (room j l))
  where
    lead : (t : ℕ) → t < 2 ^ 52 → 2 ^ 52 + t < 2 ^ 53
    lead t h = omega arith

    room : (j : ℕ) → suc j < 1075 → 53 + j ≤ 1126
    room j l = omega arith

half_few : (n d : ℕ) → n < 2 ^ 52 * d → half_up n d ≤ 2 ^ 53
unfolding half_up
half_few n d h = div-le_of_le-mul (2 * d) (bound n d h)
  where
    bound : (n d : ℕ) → n < 2 ^ 52 * d → 2 * n + d ≤ 2 * d * 2 ^ 53
    bound n d h = omega arith

pub few : (b : ℕ) → b < 1075 * 2 ^ 52 → half_up (pattern_units b) one ≤ 2 ^ 53
unfolding one
few b h = half_few (pattern_units b) (2 ^ 1074)
    (lt_of_le_of_lt (le_of_eq (pattern_is b)) (lt_of_lt_of_le (light (b / 2 ^ 52) (b % 2 ^ 52) (mod-lt b (lit< tt)) (low b h)) (le_of_eq (pow-add 2 52 1074))))
  where
    low : (b : ℕ) → b < 1075 * 2 ^ 52 → b / 2 ^ 52 < 1075
    low b h = omega arith

-- ---- of a pattern, by its exponent's field x. Below 1022 the double is below a half

tiny : (x t : ℕ) → t < 2 ^ 52 → x < 1022 → field_units x t < 2 ^ 1073
unfolding field_units
tiny zero t h l = lt_of_lt_of_le h (lit≤ tt)
tiny (suc j) t h l = lt_of_lt_of_le (shl_lt 53 j (lead t h)) (pow_mono (room j l))
  where
    lead : (t : ℕ) → t < 2 ^ 52 → 2 ^ 52 + t < 2 ^ 53
    lead t h = omega arith

    room : (j : ℕ) → suc j < 1022 → 53 + j ≤ 1073
    room j l = omega arith

none_is : (b : ℕ) → b / 2 ^ 52 < 1022 → 0 ≡ half_up (pattern_units b) one
unfolding one
none_is b h = half_none (pattern_units b) (2 ^ 1074) (2 ^ 1073) refl (lt_of_le_of_lt (le_of_eq (pattern_is b)) (tiny (b / 2 ^ 52) (b % 2 ^ 52) (mod-lt b (lit< tt)) h))

pub none : (b : ℕ) → b / 2 ^ 52 < 1022 → WholeOf b 0
none b h = record { is = none_is b h; few = λ l. lit≤ tt; small = lit< tt }

-- ---- below 1075 it has a fraction: it is q / w

-- w, as the machine has it
weight : (x : ℕ) → 1022 ≤ x → 1 * 2 ^ (1075 - x) % 2 ^ 64 ≡ 2 ^ (1075 - x)
weight x h = shl_exact 1 (1075 - x) 64 (lit< tt) (room x h) ∙ one-mul (2 ^ (1075 - x))
  where
    room : (x : ℕ) → 1022 ≤ x → 1 + (1075 - x) ≤ 64
    room x h = omega arith

pub weight_small : (x : ℕ) → 1022 ≤ x → 1 * 2 ^ (1075 - x) % 2 ^ 64 ≤ 2 ^ 53
weight_small x h = le_trans (le_of_eq (weight x h)) (pow_mono (room x h))
  where
    room : (x : ℕ) → 1022 ≤ x → 1075 - x ≤ 53
    room x h = omega arith

-- what the code shifts out
abbrev Shifted : ℕ → ℕ → ℕ
Shifted x t = (2 * (2 ^ 52 + t) + 1 * 2 ^ (1075 - x) % 2 ^ 64) / 2 ^ (1076 - x)

shifted : (x t : ℕ) → 1022 ≤ x → x < 1075 → Shifted x t ≡ (2 * (2 ^ 52 + t) + 2 ^ (1075 - x)) / (2 * 2 ^ (1075 - x))
shifted x t h l =
    ap (λ (a : ℕ). (2 * (2 ^ 52 + t) + a) / 2 ^ (1076 - x)) (weight x h)
    ∙ ap (λ (a : ℕ). (2 * (2 ^ 52 + t) + 2 ^ (1075 - x)) / a) (ap (λ (k : ℕ). 2 ^ k) (step x l) ∙ pow-succ' 2 (1075 - x))
  where
    step : (x : ℕ) → x < 1075 → 1076 - x ≡ suc (1075 - x)
    step x l = omega arith

some_is : (x t : ℕ) → 1022 ≤ x → x < 1075 → Shifted x t ≡ half_up (field_units x t) one
unfolding one half_up
some_is zero t h l = absurd (no h)
  where
    no : 1022 ≤ 0 → ⊥
    no h = omega arith
some_is (suc j) t h l =
    let q = 2 ^ 52 + t in
    let w = 2 ^ (1075 - suc j) in
    shifted (suc j) t h l
    ∙ sym (half_scaled q w (2 ^ j) (pow_pos j))
    ∙ ap (λ (a : ℕ). half_up (q * 2 ^ j) a) (sym (pow-add 2 (1075 - suc j) j) ∙ ap (λ (k : ℕ). 2 ^ k) (back j l))
    ∙ ap (λ (a : ℕ). half_up a (2 ^ 1074)) (sym (at j t))
  where
    back : (j : ℕ) → suc j < 1075 → 1075 - suc j + j ≡ 1074
    back j l = omega arith

some_small : (x t : ℕ) → t < 2 ^ 52 → 1022 ≤ x → x < 1075 → Shifted x t ≤ 2 ^ 53
some_small x t T h l = le_trans (le_of_eq (shifted x t h l)) (div-le_of_le-mul (2 * 2 ^ (1075 - x)) (bound t (2 ^ (1075 - x)) T (pow_pos (1075 - x))))
  where
    bound : (t w : ℕ) → t < 2 ^ 52 → 0 < w → 2 * (2 ^ 52 + t) + w ≤ 2 * w * 2 ^ 53
    bound t w T h = omega arith

pub some : (b : ℕ) → 1022 ≤ b / 2 ^ 52 → b / 2 ^ 52 < 1075 → WholeOf b (Shifted (b / 2 ^ 52) (b % 2 ^ 52))
some b h l =
    let m = some_small (b / 2 ^ 52) (b % 2 ^ 52) (mod-lt b (lit< tt)) h l in
    record {
      is = some_is (b / 2 ^ 52) (b % 2 ^ 52) h l ∙ ap (λ (a : ℕ). half_up a one) (sym (pattern_is b));
      few = λ k. m;
      small = lt_of_le_of_lt m (lit< tt);
    }

-- ---- from 1075 on it is whole

large : (x t : ℕ) → 1075 ≤ x → field_units x t ≡ (2 ^ 52 + t) * 2 ^ (x - 1075) * one
unfolding one
large zero t h = absurd (no h)
  where
    no : 1075 ≤ 0 → ⊥
    no h = omega arith
large (suc j) t h = at j t ∙ shift (2 ^ 52 + t) 1074 (suc j - 1075) j (split j h)
  where
    split : (j : ℕ) → 1075 ≤ suc j → j ≡ suc j - 1075 + 1074
    split j h = omega arith

pub whole_units : (b : ℕ) → 1075 ≤ b / 2 ^ 52 → pattern_units b ≡ (2 ^ 52 + b % 2 ^ 52) * 2 ^ (b / 2 ^ 52 - 1075) * one
whole_units b h = pattern_is b ∙ large (b / 2 ^ 52) (b % 2 ^ 52) h

pub unit : 0 < one
unfolding one
unit = pow_pos 1074

pub all : (b : ℕ) → b < 1086 * 2 ^ 52 → 1075 ≤ b / 2 ^ 52 → WholeOf b ((2 ^ 52 + b % 2 ^ 52) * 2 ^ (b / 2 ^ 52 - 1075) % 2 ^ 64)
all b w h = record {
  is = exact ∙ sym (half_whole (q * 2 ^ k) one unit) ∙ ap (λ (a : ℕ). half_up a one) (sym (whole_units b h));
  few = λ l. absurd (no b l h);
  small = lt_of_le_of_lt (le_of_eq exact) (lt_of_lt_of_le (shl_lt 53 k (lead b)) (pow_mono (room b w)));
}
  where
    q : ℕ
    q = 2 ^ 52 + b % 2 ^ 52

    k : ℕ
    k = b / 2 ^ 52 - 1075

    no : (b : ℕ) → b < 1075 * 2 ^ 52 → 1075 ≤ b / 2 ^ 52 → ⊥
    no b l h = omega arith

    lead : (b : ℕ) → 2 ^ 52 + b % 2 ^ 52 < 2 ^ 53
    lead b = omega arith

    room : (b : ℕ) → b < 1086 * 2 ^ 52 → 53 + (b / 2 ^ 52 - 1075) ≤ 63
    room b w = omega arith

    wide : (b : ℕ) → b < 1086 * 2 ^ 52 → 53 + (b / 2 ^ 52 - 1075) ≤ 64
    wide b w = omega arith

    exact : q * 2 ^ k % 2 ^ 64 ≡ q * 2 ^ k
    exact = shl_exact 53 k 64 (lead b) (wide b w)
