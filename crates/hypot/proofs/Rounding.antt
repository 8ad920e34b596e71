-- From a root in half units to the pattern of the nearest double, the even one of two. Nothing here but patterns and whole numbers. Assumes nothing.
use mathlib.Core.Path.{◌≡◌, sym, ap, ◌∙◌, subst}
use mathlib.Core.Logic.{◌⊎◌, inl, inr}
use mathlib.Core.Bool.{Bool, true, false, ◌||◌}
use lib.Dec.{eqb}
use Prim.Native.Nat.{ℕ, ◌+◌, ◌*◌, ◌/◌, ◌%◌, ◌^◌, ◌≤◌, ◌<◌}
use native.Mathlib.Nat.{mul_comm, mul_assoc, add-mul, pow-succ', mul-le-mul, mul-le-mul_right, mul-lt-mul_of_pos_right, le_trans, le_of_eq, le_of_lt, lt_of_lt_of_le, lt_of_le_of_lt}
use native.Mathlib.Numerals.{add-one}
use native.Mathlib.Omega.{arith}
use lib.Pow.{pow_pos}
use Rattle.root.specs.Patterns.{pattern_units}
use Rattle.root.proofs.Grid.{lt_or_ge, sq_lt}
use Rattle.root.proofs.Patterns.{placed}
use Rattle.root.proofs.Order.{pattern_less}
use Rattle.hypot.specs.Placing.{Near, twice_middle, LengthAt, Placed}

clash : {a b : ℕ} → a < b → b ≡ a → ⊥
clash h e = omega arith

-- ---- the root of v, against the double with the pattern b and its neighbours

-- it is no less than b's double, and does not pass the middle to the next
stays : (v b t : ℕ) → b + 1 < 2047 * 2 ^ 52 → 2 * pattern_units b ≤ t → t * t ≤ v → v ≤ twice_middle b * twice_middle b → (v ≡ twice_middle b * twice_middle b → b % 2 ≡ 0)
    → LengthAt v b
stays v b t B l r h k = record {
  plain = B;
  above = h;
  below = λ c g. le_of_lt (under c g);
  even_above = k;
  even_below = λ c g x. absurd (clash (under c g) x);
}
  where
    less : (x y t : ℕ) → y < x → 2 * x ≤ t → y + x < t
    less x y t i j = omega arith

    last : (c b : ℕ) → c + 1 ≡ b → c < b
    last c b g = omega arith

    under : (c : ℕ) → c + 1 ≡ b → twice_middle c * twice_middle c < v
    under c g =
        lt_of_lt_of_le
        (sq_lt (twice_middle c) t (subst (λ (x : ℕ). pattern_units c + pattern_units x < t) (sym g) (less (pattern_units b) (pattern_units c) t (pattern_less c b (last c b g)) l))) r

-- it is beyond the middle between b's double and the next, or on it, and below the next
rises : (v b t : ℕ) → b + 1 + 1 < 2047 * 2 ^ 52 → twice_middle b * twice_middle b ≤ v → v < t * t → t ≤ 2 * pattern_units (b + 1)
    → (v ≡ twice_middle b * twice_middle b → (b + 1) % 2 ≡ 0) → LengthAt v (b + 1)
rises v b t B l h r k = record {
  plain = B;
  above = le_of_lt over;
  below = λ c g. subst (λ (x : ℕ). twice_middle x * twice_middle x ≤ v) (same b c g) l;
  even_above = λ x. absurd (clash over (sym x));
  even_below = λ c g x. k (x ∙ ap (λ (y : ℕ). twice_middle y * twice_middle y) (sym (same b c g)));
}
  where
    same : (b c : ℕ) → c + 1 ≡ b + 1 → b ≡ c
    same b c g = omega arith

    more : (x y t : ℕ) → x < y → t ≤ 2 * x → t ≤ x + y
    more x y t i j = omega arith

    after : (b : ℕ) → b < b + 1
    after b = omega arith

    over : v < twice_middle (b + 1) * twice_middle (b + 1)
    over = let m = more (pattern_units (b + 1)) (pattern_units (b + 1 + 1)) t (pattern_less (b + 1) (b + 1 + 1) (after (b + 1))) r in lt_of_lt_of_le h (mul-le-mul m m)

-- ---- q half units, at p whole ones of 2 ^ j

module _ (v q : ℕ) (s : Bool) (j p : ℕ) (n : Near v q s j) (J : j < 2045) (p< : p < 2 ^ 53) (L : 0 < j → 2 ^ 52 ≤ p) where
  abbrev u : ℕ
  u = 2 ^ j

  abbrev b : ℕ
  b = j * 2 ^ 52 + p

  at_p : pattern_units b ≡ p * u
  at_p = placed j p L (le_of_lt p<)

  at_next : pattern_units (b + 1) ≡ (p + 1) * u
  at_next = ap pattern_units (behind (j * 2 ^ 52) p) ∙ placed j (p + 1) (λ (h : 0 < j). more p (L h)) (up p p<)
    where
      behind : (a p : ℕ) → a + p + 1 ≡ a + (p + 1)
      behind a p = omega arith

      more : (p : ℕ) → 2 ^ 52 ≤ p → 2 ^ 52 ≤ p + 1
      more p h = omega arith

      up : (p : ℕ) → p < 2 ^ 53 → p + 1 ≤ 2 ^ 53
      up p h = omega arith

  middle : twice_middle b ≡ (2 * p + 1) * u
  middle = ap (λ (x : ℕ). x + pattern_units (b + 1)) at_p ∙ ap (λ (x : ℕ). p * u + x) at_next ∙ sym (add-mul p (p + 1) u) ∙ ap (λ (x : ℕ). x * u) (sum p)
    where
      sum : (p : ℕ) → p + (p + 1) ≡ 2 * p + 1
      sum p = omega arith

  twice : (d : ℕ) {x : ℕ} → x ≡ d * u → 2 * x ≡ 2 * d * u
  twice d e = ap (λ (z : ℕ). 2 * z) e ∙ sym (mul_assoc 2 d u)

  -- an even q is a whole number of units, and the root does not reach the middle
  pub even_stays : q ≡ 2 * p → LengthAt v b
  even_stays e =
      let h = subst (λ (x : ℕ). v < x * x) (ap (λ (x : ℕ). (x + 1) * u) e ∙ sym middle) n.next in
      stays v b (q * u) (omega arith) (le_of_eq (twice p at_p ∙ ap (λ (x : ℕ). x * u) (sym e))) n.reaches (le_of_lt h) (λ x. absurd (clash h (sym x)))

  -- an odd q is a middle
  module _ (e : q ≡ 2 * p + 1) where
    here : q * u ≡ twice_middle b
    here = ap (λ (x : ℕ). x * u) e ∙ sym middle

    -- the root is on it: the even one
    pub tie_stays : s ≡ false → b % 2 ≡ 0 → LengthAt v b
    tie_stays z k =
        stays v b (q * u) (omega arith) (le_trans (le_of_eq (twice p at_p)) (mul-le-mul_right u (omega arith))) n.reaches
        (le_of_eq (sym (n.exact z) ∙ ap (λ (x : ℕ). x * x) here)) (λ _. k)

    up_to : (v ≡ twice_middle b * twice_middle b → (b + 1) % 2 ≡ 0) → LengthAt v (b + 1)
    up_to k =
        rises v b ((q + 1) * u) (omega arith) (subst (λ (x : ℕ). x * x ≤ v) here n.reaches) n.next
        (le_of_eq (ap (λ (x : ℕ). x * u) (next q p e) ∙ sym (twice (p + 1) at_next))) k
      where
        next : (q p : ℕ) → q ≡ 2 * p + 1 → q + 1 ≡ 2 * (p + 1)
        next q p e = omega arith

    pub tie_rises : (b + 1) % 2 ≡ 0 → LengthAt v (b + 1)
    tie_rises k = up_to (λ _. k)

    -- the root is beyond it
    pub more_rises : s ≡ true → LengthAt v (b + 1)
    more_rises z = up_to (λ x. absurd (clash (subst (λ (y : ℕ). y * y < v) here (n.more z)) x))

-- ---- as `place` has it

lead_half : (j q : ℕ) → (0 < j → 2 ^ 53 ≤ q) → 0 < j → 2 ^ 52 ≤ q / 2
lead_half j q f h = omega (arith, f h)

module _ (j q : ℕ) (s : Bool) (J : j < 2045) (Q : q < 2 ^ 54) (L : 0 < j → 2 ^ 53 ≤ q) where
  abbrev low : ℕ
  low = j * 2 ^ 52 + q / 2

  pub place_even : q % 2 ≡ 0 → Placed j q s low
  place_even e = record { nearest = λ v n. even_stays v q s j (q / 2) n J (omega arith) (lead_half j q L) (omega arith) }

  pub place_tie : (q % 2 ≡ 0 → ⊥) → s ≡ false → Placed j q s (low + low % 2)
  place_tie e z = record {
    nearest = λ v n. elim (lt_or_ge (low % 2) 1) [
      | inl h ↦ let k = stay low h in subst (LengthAt v) k.1 (tie_stays v q s j (q / 2) n J (omega arith) (lead_half j q L) (omega arith) z k.0)
      | inr h ↦ let k = rise low h in subst (LengthAt v) k.1 (tie_rises v q s j (q / 2) n J (omega arith) (lead_half j q L) (omega arith) k.0)
    ];
  }
    where
      stay : (b : ℕ) → b % 2 < 1 → (b % 2 ≡ 0) × (b ≡ b + b % 2)
      stay b h = omega arith

      rise : (b : ℕ) → 1 ≤ b % 2 → ((b + 1) % 2 ≡ 0) × (b + 1 ≡ b + b % 2)
      rise b h = omega arith

  pub place_more : (q % 2 ≡ 0 → ⊥) → s ≡ true → Placed j q s (low + 1)
  place_more e z = record { nearest = λ v n. more_rises v q s j (q / 2) n J (omega arith) (lead_half j q L) (omega arith) z }

-- ---- a digit less: units twice as large

near_half : {v q j : ℕ} {s t : Bool} → (t ≡ false → (s ≡ false) × (q % 2 ≡ 0)) → (t ≡ true → (s ≡ true) ⊎ (q % 2 ≡ 1)) → Near v q s j → Near v (q / 2) t (j + 1)
near_half {v} {q} {j} N M n = record {
  reaches = le_trans (mul-le-mul low low) n.reaches;
  next = lt_of_lt_of_le n.next (mul-le-mul high high);
  exact = λ z. ap (λ (x : ℕ). x * x) (double (q / 2) ∙ ap (λ (x : ℕ). x * 2 ^ j) (whole q (N z).1)) ∙ n.exact (N z).0;
  more = λ z. elim (M z) [
    | inl h ↦ lt_of_le_of_lt (mul-le-mul low low) (n.more h)
    | inr h ↦ lt_of_lt_of_le (sq_lt (q / 2 * 2 ^ (j + 1)) (q * 2 ^ j) (less h)) n.reaches
  ];
}
  where
    double : (h : ℕ) → h * 2 ^ (j + 1) ≡ 2 * h * 2 ^ j
    double h =
        ap (λ (x : ℕ). h * x) (ap (λ (x : ℕ). 2 ^ x) (add-one j) ∙ pow-succ' 2 j) ∙ sym (mul_assoc h 2 (2 ^ j)) ∙ ap (λ (x : ℕ). x * 2 ^ j) (mul_comm h 2)

    whole : (q : ℕ) → q % 2 ≡ 0 → 2 * (q / 2) ≡ q
    whole q e = omega arith

    low : q / 2 * 2 ^ (j + 1) ≤ q * 2 ^ j
    low = le_trans (le_of_eq (double (q / 2))) (mul-le-mul_right (2 ^ j) (omega arith))

    high : (q + 1) * 2 ^ j ≤ (q / 2 + 1) * 2 ^ (j + 1)
    high = le_trans (mul-le-mul_right (2 ^ j) (omega arith)) (le_of_eq (sym (double (q / 2 + 1))))

    less : q % 2 ≡ 1 → q / 2 * 2 ^ (j + 1) < q * 2 ^ j
    less h = lt_of_le_of_lt (le_of_eq (double (q / 2))) (mul-lt-mul_of_pos_right (omega arith) (pow_pos j))

pub placed_half : {j q b : ℕ} {s : Bool} → Placed (j + 1) (q / 2) (s || eqb (q % 2) 1) b → Placed j q s b
placed_half {j} {q} {b} {s} p = record { nearest = λ v n. p.nearest v (near_half (none s q) (some s q) n) }
  where
    none : (s : Bool) (q : ℕ) → (s || eqb (q % 2) 1) ≡ false → (s ≡ false) × (q % 2 ≡ 0)
    none s q e = grind arith

    some : (s : Bool) (q : ℕ) → (s || eqb (q % 2) 1) ≡ true → (s ≡ true) ⊎ (q % 2 ≡ 1)
    some s q e = grind arith
