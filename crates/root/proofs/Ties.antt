-- Where two doubles are equally near, `round` gives the even one: the last binary digit of its pattern is 0. Assumes nothing.
use mathlib.Core.Path.{◌≡◌, refl, sym, ap, ◌∙◌, subst}
use mathlib.Core.Logic.{inl, inr}
use mathlib.Core.Bool.{Bool}
use Prim.Native.Nat.{ℕ, suc, ◌+◌, ◌-◌, ◌*◌, ◌/◌, ◌%◌, ◌^◌, ◌≤◌, ◌<◌, compare}
use native.Mathlib.Nat.{le_trans, le_of_eq, lt_of_lt_of_le, eq-or-lt_of_le, div-lt_iff_lt-mul, div-div-eq-div-mul}
use native.Mathlib.Omega.{arith}
use lib.Dec.{T}
use lib.Pow.{pow_pos, pow-add, pow_mono}
use lib.Ieee.{Float, binary64, fits, round, size, to_bits}
use lib.Ieee.Digits.{size-lt}
use lib.Ieee.Fits.{round-fits, nearest-le}
use lib.Ieee.Order.{kept, drop}
use Rattle.root.specs.Doubles.{finite, units_of}
use Rattle.root.proofs.Grid.{lt_or_ge}
use Rattle.root.proofs.Patterns.{units_is, on_grid, placed}
use Rattle.root.proofs.Order.{unsigned, finite_unsigned, pattern_same}
use Rattle.root.proofs.Nearest.{lead, even_above, even_below, round_is_units}

-- ---- the number that `round` keeps is the end of the pattern

kept_most : (n den : ℕ) → kept 53 n den ≤ 2 ^ 53
kept_most n den =
    let k = drop 53 n den in
    let u = den * 2 ^ k in
    le_trans (nearest-le (n / u) (compare (n % u * 2) u)) (subst (λ (x : ℕ). suc x ≤ 2 ^ 53) (div-div-eq-div-mul n den (2 ^ k)) few)
  where
    over : (z : ℕ) → z ≤ 53 + (z - 53)
    over z = omega arith

    few : n / den / 2 ^ drop 53 n den < 2 ^ 53
    few =
        (div-lt_iff_lt-mul (pow_pos (drop 53 n den))).1
        (lt_of_lt_of_le (size-lt (n / den)) (le_trans (pow_mono (over (size (n / den)))) (le_of_eq (pow-add 2 53 (drop 53 n den)))))

module _ (s : Bool) (num den : ℕ) (D : 0 < den) (p : T (finite (round binary64 s num den))) where
  abbrev r : Float
  r = round binary64 s num den

  abbrev n : ℕ
  n = num * 2 ^ 1074

  abbrev q : ℕ
  q = kept 53 n den

  abbrev k : ℕ
  k = drop 53 n den

  units : units_of r ≡ q * 2 ^ k
  units = units_is r s (q * 2 ^ k) (round_is_units s num den p)

  pattern : unsigned r ≡ k * 2 ^ 52 + q
  pattern = pattern_same (sym (finite_unsigned r (round-fits binary64 s num den) p) ∙ units ∙ sym (placed k q (lead n den D) (kept_most n den)))

  same_parity : (b c k q : ℕ) → b ≡ c % 2 ^ 63 → b ≡ k * 2 ^ 52 + q → q % 2 ≡ 0 → c % 2 ≡ 0
  same_parity b c k q e f h = omega arith

  -- y is another double, and num / den is the middle between the two
  pub round_even : (y : Float) → T (fits binary64 y) → T (finite y) → (units_of r ≡ units_of y → ⊥) → 2 * n ≡ (units_of r + units_of y) * den → to_bits binary64 r % 2 ≡ 0
  round_even y F f other e =
      let g = on_grid y F f in
      let t : 2 * n ≡ (q * 2 ^ k + g.1 * 2 ^ g.0) * den = e ∙ ap (λ (x : ℕ). (x + units_of y) * den) units ∙ ap (λ (x : ℕ). (q * 2 ^ k + x) * den) g.2 in
      same_parity (unsigned r) (to_bits binary64 r) k q refl pattern (elim (lt_or_ge (q * 2 ^ k) (g.1 * 2 ^ g.0)) [
        | inl l ↦ even_above n den D g.1 g.0 g.3 l t
        | inr l ↦ elim (eq-or-lt_of_le l) [
          | inl h ↦ absurd (other (units ∙ sym h ∙ sym g.2))
          | inr h ↦ even_below n den D g.1 g.0 g.3 h t
        ]
      ])
