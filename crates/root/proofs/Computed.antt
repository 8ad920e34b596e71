-- The computed root of specs/Root.antt is the root: it meets `IsRoot`, and it is the only double that does. Assumes nothing.
use mathlib.Core.Path.{◌≡◌, refl, sym, ap, ◌∙◌, subst}
use mathlib.Core.Logic.{◌⊎◌, inl, inr}
use mathlib.Core.Bool.{Bool, true, false, cond}
use Prim.Native.Nat.{ℕ, ◌+◌, ◌*◌, ◌^◌, ◌≤◌, ◌<◌}
use native.Mathlib.Nat.{
  mul_comm,
  mul_assoc,
  mul-le-mul,
  mul-lt-mul_of_pos_right,
  le_trans,
  le_of_eq,
  le_of_lt,
  lt_of_lt_of_le,
  lt_of_le_of_lt,
  lt_irrefl,
  mul-le-mul_right,
  eq-zero-or-pos,
  zero-mul,
  one-mul,
  add-zero,
}
use native.Mathlib.Omega.{arith}
use lib.Dec.{T, eqb, eqb→eq, eqb_refl, lit<, lit≤}
use lib.Arith.{lt_of_le-ne}
use lib.Pow.{pow_pos}
use lib.Ieee.{Float, binary64, fits, round, eq, of_bits, to_bits}
use lib.Ieee.Fits.{round-fits}
use lib.Ieee.Bits.{of_bits-fits}
use lib.Ieee.Exact.{round_exact}
use lib.Ieee.Scale.{round_same}
use Rattle.root.specs.Doubles.{finite, negative, one, units_of}
use Rattle.root.specs.Bounds.{Nearest, Within}
use Rattle.root.specs.Drawn.{WholeRoot}
use Rattle.root.specs.Root.{rootable, IsRoot, whole_root, root_of_square, root, Rooted}
use Rattle.root.proofs.Scaling.{shift}
use Rattle.root.proofs.Grid.{lt_or_ge}
use Rattle.root.proofs.Patterns.{Is, units_is, finite_is, plain_pattern, written, on_grid, units_small, units_even}
use Rattle.root.proofs.Nearest.{round_nearest, round_sign, nearest_same, nearest_at_least}
use Rattle.root.proofs.Bounds.{Held, held_pow, round_within}
use Rattle.root.proofs.WholeRoot.{whole_root_lem, whole_small, exact_above, exact_below, between_above, between_below, OnGrid, square_on_grid}
use Rattle.root.proofs.Root.{root_unique, root_le, root_ge, root_within}
use Rattle.root.specs.Digits.{RootAt}
use Rattle.root.specs.Patterns.{pattern_units}
use Rattle.root.proofs.RootAt.{rootable_finite, zero_root, is_root}

-- ---- a double of 2 ^ 54 units, from which on all are even

abbrev large : Float
large = of_bits binary64 (2 * 2 ^ 52 + 2 ^ 52)

large_is : Is large false (2 ^ 52 * 2 ^ 2)
large_is = subst (λ (a : ℕ). Is large false a) (written 2 (2 ^ 52) (lit≤ tt) (lit≤ tt)) (plain_pattern (2 * 2 ^ 52 + 2 ^ 52) (lit< tt))

large_fits : T (fits binary64 large)
large_fits = of_bits-fits binary64 (2 * 2 ^ 52 + 2 ^ 52)

large_finite : T (finite large)
large_finite = finite_is large false (2 ^ 52 * 2 ^ 2) large_is

large_units : units_of large ≡ 2 ^ 54
large_units = units_is large false (2 ^ 52 * 2 ^ 2) large_is

pub root_fits : (x : Float) → T (fits binary64 (root x))
unfolding root root_of_square
root_fits x = round-fits binary64 (negative x) _ _

module _ (x : Float) (F : T (fits binary64 x)) (p : T (rootable x)) where
  abbrev n : ℕ
  n = units_of x * one

  abbrev w : ℕ
  w = whole_root 1586 n

  abbrev c : ℕ
  c = cond (eqb (w * w) n) 0 1

  abbrev q : Float
  q = round binary64 (negative x) (2 * w + c) (2 * one)

  small : n < 4 ^ 1586
  unfolding one
  small = lt_of_lt_of_le (mul-lt-mul_of_pos_right (units_small x F (rootable_finite x p)) (pow_pos 1074)) (lit≤ tt)

  is_whole : WholeRoot n w
  is_whole = whole_root_lem 1586 n small

  unit : 0 < 2 * one
  unfolding one
  unit = lit< tt

  one_unit : 0 < one
  unfolding one
  one_unit = pow_pos 1074

  bit : (b : Bool) → cond b 0 1 ≤ 1
  bit true = lit≤ tt
  bit false = lit≤ tt

  room : 2 * w + c ≤ 2 ^ 1023 * (2 * one)
  unfolding one
  room = le_trans (few w c (2 ^ 1586) (whole_small 1586 n) (bit (eqb (w * w) n))) (lit≤ tt)
    where
      few : (w c m : ℕ) → w < m → c ≤ 1 → 2 * w + c ≤ 2 * m
      few w c m h l = omega arith

  q_finite : T (finite q)
  q_finite = (round_within binary64 (2 * w + c) (2 * one) (2 ^ 1023) unit (pow_pos 1023) room (held_pow 1023 (lit≤ tt)) (negative x)).is_finite

  q_fits : T (fits binary64 q)
  q_fits = round-fits binary64 (negative x) (2 * w + c) (2 * one)

  q_nearest : Nearest (2 * w + c) 2 q
  unfolding one
  q_nearest =
      nearest_same ((2 * w + c) * 2 ^ 1074) (2 * 2 ^ 1074) (2 * w + c) 2 q unit (mul_assoc (2 * w + c) (2 ^ 1074) 2 ∙ ap (λ (z : ℕ). (2 * w + c) * z) (mul_comm (2 ^ 1074) 2))
      (round_nearest (negative x) (2 * w + c) (2 * 2 ^ 1074) unit q_finite)

  -- the root is w, or lies between w and w + 1
  which : ((w * w ≡ n) × (c ≡ 0)) ⊎ ((w * w < n) × (c ≡ 1))
  which = go (eqb (w * w) n) (eqb→eq (w * w) n) (λ (e : w * w ≡ n). subst (λ (z : ℕ). T (eqb (w * w) z)) e (eqb_refl (w * w)))
    where
      go : (b : Bool) → (T b → w * w ≡ n) → (w * w ≡ n → T b) → ((w * w ≡ n) × (cond {A = ℕ} b 0 1 ≡ 0)) ⊎ ((w * w < n) × (cond {A = ℕ} b 0 1 ≡ 1))
      go true f g = inl (f tt, refl)
      go false f g = inr (lt_of_le-ne is_whole.reaches g, refl)

  -- ---- the root is w: it has few digits, so it is a double, and nothing is rounded
  module _ (e : w * w ≡ n) (z : c ≡ 0) where
    is_double : OnGrid w
    unfolding one
    is_double =
        let g = on_grid x F (rootable_finite x p) in
        square_on_grid g.1 (g.0 + 1074) w g.3 (e ∙ ap (λ (k : ℕ). k * 2 ^ 1074) g.2 ∙ sym (shift g.1 1074 g.0 (g.0 + 1074) refl))

    halves : q ≡ round binary64 (negative x) w one
    halves = round_same binary64 (negative x) (2 * w + c) (2 * one) w one unit one_unit (twice w c one z)
      where
        twice : (w c u : ℕ) → c ≡ 0 → (2 * w + c) * u ≡ w * (2 * u)
        twice w c u h = simp (h, add-zero) (omega (arith, mul_assoc 2 w u, mul_assoc w 2 u, mul_comm w 2))

    value : Is (round binary64 (negative x) w one) (negative x) w
    unfolding one
    value = round_exact binary64 (negative x) w (2 ^ 1074) is_double.digits is_double.places (pow_pos 1074) is_double.few
        (lt_of_le_of_lt (le_of_eq (sym is_double.is)) (lt_of_lt_of_le (whole_small 1586 n) (lit≤ tt))) (ap (λ (k : ℕ). k * 2 ^ 1074) is_double.is)

    pub exact : units_of q ≡ w
    exact = ap units_of halves ∙ units_is (round binary64 (negative x) w one) (negative x) w value

  -- ---- between w and w + 1 units: all are large
  module _ (some : w * w < n) (o : c ≡ 1) where
    n_large : one ≤ n
    n_large = elim (eq-zero-or-pos (units_of x)) [
      | inl z ↦ absurd (none n (w * w) some (ap (λ (k : ℕ). k * one) z ∙ zero-mul one))
      | inr h ↦ le_trans (le_of_eq (sym (one-mul one))) (mul-le-mul_right one h)
    ]
      where
        none : (n k : ℕ) → k < n → n ≡ 0 → ⊥
        none n k h e = omega arith

    reach : 2 ^ 108 ≤ n
    unfolding one
    reach = le_trans (lit≤ tt) n_large

    w_large : 2 ^ 54 ≤ w
    w_large = elim (lt_or_ge w (2 ^ 54)) [
      | inl h ↦ absurd (lt_irrefl n (lt_of_lt_of_le is_whole.next (le_trans (mul-le-mul (up h) (up h)) reach)))
      | inr h ↦ h
    ]
      where
        up : {w : ℕ} → w < 2 ^ 54 → w + 1 ≤ 2 ^ 54
        up h = omega arith

    q_large : 2 ^ 54 ≤ units_of q
    q_large =
        le_trans (le_of_eq (sym large_units)) (nearest_at_least (2 * w + c) 2 q large (lit< tt) q_nearest large_fits large_finite
        (le_trans (le_of_eq (ap (λ (z : ℕ). z * 2) large_units)) (twice w c w_large)))
      where
        twice : (w c : ℕ) → 2 ^ 54 ≤ w → 2 ^ 54 * 2 ≤ 2 * w + c
        twice w c h = omega arith

    q_even : (h : ℕ) × (units_of q ≡ h + h)
    q_even = units_even q q_fits q_finite (le_trans (lit≤ tt) q_large)

    -- another double y
    module _ (y : Float) (G : T (fits binary64 y)) (f : T (finite y)) where
      over : units_of q < units_of y → 2 * (w + 1) ≤ units_of q + units_of y
      over l =
          let h = units_even y G f (le_trans (lit≤ tt) (le_trans q_large (le_of_lt l))) in
          even (units_of q) (units_of y) w c q_even.0 h.0 (q_nearest.above y G f l) o q_even.1 h.1
        where
          even : (Q Y w c h k : ℕ) → 2 * (2 * w + c) ≤ (Q + Y) * 2 → c ≡ 1 → Q ≡ h + h → Y ≡ k + k → 2 * (w + 1) ≤ Q + Y
          even Q Y w c h k a b d e = omega arith

      under : units_of y < units_of q → units_of q + units_of y ≤ 2 * w
      under l = elim (lt_or_ge (units_of y) (2 ^ 53)) [
        | inl s ↦ elim (lt_or_ge (units_of large) (units_of q)) [
          | inl m ↦ far (units_of q) (units_of large) (units_of y) w c (q_nearest.below large large_fits large_finite m) o large_units s
          | inr m ↦ near (units_of q) (units_of large) (units_of y) w m large_units s w_large
        ]
        | inr s ↦ let h = units_even y G f s in even (units_of q) (units_of y) w c q_even.0 h.0 (q_nearest.below y G f l) o q_even.1 h.1
      ]
        where
          far : (Q L Y w c : ℕ) → (Q + L) * 2 ≤ 2 * (2 * w + c) → c ≡ 1 → L ≡ 2 ^ 54 → Y < 2 ^ 53 → Q + Y ≤ 2 * w
          far Q L Y w c a b d e = omega arith

          near : (Q L Y w : ℕ) → Q ≤ L → L ≡ 2 ^ 54 → Y < 2 ^ 53 → 2 ^ 54 ≤ w → Q + Y ≤ 2 * w
          near Q L Y w a b d e = omega arith

          even : (Q Y w c h k : ℕ) → (Q + Y) * 2 ≤ 2 * (2 * w + c) → c ≡ 1 → Q ≡ h + h → Y ≡ k + k → Q + Y ≤ 2 * w
          even Q Y w c h k a b d e = omega arith

  -- ---- in either case
  pub root_meets : IsRoot x (root x)
  unfolding root root_of_square
  root_meets = record {
    is_finite = q_finite;
    sign = round_sign (negative x) (2 * w + c) (2 * one) q_finite;
    above = λ y G f l. elim which [
      | inl e ↦ exact_above is_whole (units_of q + units_of y) e.0 (more (units_of q) (units_of y) w (exact e.0 e.1) l)
      | inr e ↦ between_above is_whole (units_of q + units_of y) (over e.0 e.1 y G f l)
    ];
    below = λ y G f l. elim which [
      | inl e ↦ exact_below is_whole (units_of q + units_of y) e.0 (less (units_of q) (units_of y) w (exact e.0 e.1) l)
      | inr e ↦ between_below is_whole (units_of q + units_of y) e.0 (under e.0 e.1 y G f l)
    ];
  }
    where
      more : (Q Y w : ℕ) → Q ≡ w → Q < Y → 2 * w < Q + Y
      more Q Y w e l = omega arith

      less : (Q Y w : ℕ) → Q ≡ w → Y < Q → Q + Y < 2 * w
      less Q Y w e l = omega arith

  pub root_computed : (r : Float) → T (fits binary64 r) → IsRoot x r → r ≡ root x
  unfolding root root_of_square
  root_computed r G a = root_unique x r q G q_fits a root_meets

  pub rooted : (r : Float) → T (fits binary64 r) → IsRoot x r → Rooted x r
  rooted r G a = record { nearest = a; computed = root_computed r G a }

  -- ---- the laws of proofs/Root.antt, of the computed root

  pub computed_le : (y : Float) → T (fits binary64 y) → T (finite y) → n ≤ units_of y * units_of y → units_of (root x) ≤ units_of y
  computed_le y G f h = root_le x (root x) y root_meets G f h

  pub computed_ge : (y : Float) → T (fits binary64 y) → T (finite y) → units_of y * units_of y ≤ n → units_of y ≤ units_of (root x)
  computed_ge y G f h = root_ge x (root x) y root_meets G f h

  pub computed_within : (B : ℕ) → Held binary64 B → Within (B * B) x → Within B (root x)
  computed_within B R h = root_within x (root x) B root_meets (root_fits x) R h

-- ---- as `sqrt` has them
pub sqrt_zero : (x : Float) → fits binary64 x ≡ true → T (rootable x) → eq x (of_bits binary64 0) ≡ true → Rooted x x
sqrt_zero x f p h =
    let F : T (fits binary64 x) = subst T (sym f) tt in
    rooted x F p x F (zero_root x p h)

pub sqrt_bits : (x : Float) → fits binary64 x ≡ true → T (rootable x) → eq x (of_bits binary64 0) ≡ false → {b : ℕ} → RootAt (pattern_units (to_bits binary64 x) * 2 ^ 1074) b
    → Rooted x (of_bits binary64 b)
sqrt_bits x f p h {b} s =
    let F : T (fits binary64 x) = subst T (sym f) tt in
    rooted x F p (of_bits binary64 b) (of_bits-fits binary64 b) (is_root x F p h b s)
