-- The logic's `round` gives a nearest double, in the words of units, and so do the product, the quotient and the sum. Assumes nothing.
use mathlib.Core.Path.{◌≡◌, refl, sym, ap, ◌∙◌, subst}
use mathlib.Core.Logic.{◌⊎◌, inl, inr}
use mathlib.Core.Bool.{Bool, true, false, not, ◌&&◌, cond, true≢false}
use Prim.Native.Nat.{ℕ, zero, suc, ◌+◌, ◌-◌, ◌*◌, ◌/◌, ◌%◌, ◌^◌, ◌≤◌, ◌<◌, compare, Ordering}
use native.Mathlib.Nat.{
  mul_comm,
  mul_assoc,
  mul_left_comm,
  mul_right_comm,
  mul-one,
  one-mul,
  add-mul,
  mul-add,
  suc-mul,
  mul-pos,
  mul-le-mul_left,
  mul-le-mul_right,
  le_of_mul-le-mul_right,
  mul-lt-mul_of_pos_right,
  mul-mul-mul_comm,
  div-add-mod',
  mod-lt,
  le-div_iff_mul-le,
  le_trans,
  le_of_eq,
  le_of_lt,
  lt_of_lt_of_le,
  lt_of_le_of_lt,
  lt_irrefl,
  le_antisymm,
  eq-zero-or-pos,
  zero-lt-suc,
  zero-mul,
  zero-div,
  mul-sub,
}
use native.Mathlib.Omega.{arith}
use lib.IntN.{ℤ}
use lib.Dec.{T, is_le, compare_is_eq, ltb, eqb, ltb→lt, leb→le, nleb→lt, eqb→eq, eqb_refl, eqb-suc-zero, nltb→le}
use lib.Arith.{lt_of_le-ne}
use lib.Pow.{pow_pos, pow-add}
use lib.Ieee.{Float, nan, inf, fin, binary64, up, down, unlike, size, nearest, odd, round, add, sum, mul, div, fits}
use lib.Ieee as Ieee
use lib.Ieee.Digits.{size_reaches}
use lib.Ieee.Fits.{round_is, down_pos, up_pos}
use lib.Ieee.Exact.{units_val}
use lib.Ieee.Nearest.{closest, nearest-ge}
use lib.Ieee.Order.{kept, drop}
use lib.Ieee.Positive.{first_pos}
use Rattle.root.specs.Doubles.{finite, negative, one, units_of}
use Rattle.root.specs.Bounds.{Nearest}
use Rattle.root.proofs.Grid.{lt_or_ge, next_up, next_down}
use Rattle.root.proofs.Patterns.{Is, units_is, sign_is, on_grid, pattern_of}

-- ---- `closest a b` is within half a b of a

abbrev Cmp : Ordering → ℕ → ℕ → Type 0
Cmp Ordering.lt a b = a < b
Cmp Ordering.eq a b = a ≡ b
Cmp Ordering.gt a b = b < a

cmp : (a b : ℕ) → Cmp (compare a b) a b
cmp a b = go (compare a b) (leb→le a b) (nleb→lt a b) (eqb→eq a b) (λ (e : a ≡ b). subst (λ (x : ℕ). T (eqb a x)) e (eqb_refl a))
  where
    go : (o : Ordering) → (T (is_le o) → a ≤ b) → (T (not (is_le o)) → b < a) → (T (compare_is_eq o) → a ≡ b) → (a ≡ b → T (compare_is_eq o)) → Cmp o a b
    go Ordering.lt h k e n = lt_of_le-ne (h tt) n
    go Ordering.eq h k e n = e tt
    go Ordering.gt h k e n = k tt

-- a is w * b + r
half : (w r b a : ℕ) (o : Ordering) → w * b + r ≡ a → r < b → Cmp o (r * 2) b → (2 * a ≤ (2 * nearest w o + 1) * b) × (2 * nearest w o * b ≤ 2 * a + b)
half w r b a Ordering.lt e l c = (le_trans (lo (w * b) a r b e c) (le_of_eq (sym (odd_times w b))), le_trans (le_of_eq (mul_assoc 2 w b)) (hi (w * b) a r b e))
  where
    odd_times : (w b : ℕ) → (2 * w + 1) * b ≡ 2 * (w * b) + b
    odd_times w b = simp add-mul (omega (arith, mul_assoc 2 w b))

    lo : (x a r b : ℕ) → x + r ≡ a → r * 2 < b → 2 * a ≤ 2 * x + b
    lo x a r b e c = omega arith

    hi : (x a r b : ℕ) → x + r ≡ a → 2 * x ≤ 2 * a + b
    hi x a r b e = omega arith
half w r b a Ordering.gt e l c =
    (le_trans (lo (w * b) a r b e l) (le_of_eq (sym (odd_times w b))), le_trans (le_of_eq (mul_assoc 2 (suc w) b ∙ ap (λ (x : ℕ). 2 * x) (suc-mul w b))) (hi (w * b) a r b e c))
  where
    odd_times : (w b : ℕ) → (2 * suc w + 1) * b ≡ 2 * (w * b) + 3 * b
    odd_times w b = simp add-mul (omega (arith, mul_assoc 2 (suc w) b, suc-mul w b))

    lo : (x a r b : ℕ) → x + r ≡ a → r < b → 2 * a ≤ 2 * x + 3 * b
    lo x a r b e c = omega arith

    hi : (x a r b : ℕ) → x + r ≡ a → b < r * 2 → 2 * (x + b) ≤ 2 * a + b
    hi x a r b e c = omega arith
half w r b a Ordering.eq e l c = go (w % 2) (small w)
  where
    small : (w : ℕ) → w % 2 < 2
    small w = omega arith

    lo : (x a r b : ℕ) → x + r ≡ a → r * 2 ≡ b → (2 * a ≤ 2 * x + b) × (2 * x ≤ 2 * a + b) × (2 * a ≤ 2 * x + 3 * b) × (2 * (x + b) ≤ 2 * a + b)
    lo x a r b e c = omega arith

    go : (z : ℕ) → z < 2 → (2 * a ≤ (2 * (w + z) + 1) * b) × (2 * (w + z) * b ≤ 2 * a + b)
    go zero h =
        let k = lo (w * b) a r b e c in (
          le_trans k.0 (le_of_eq (sym (simp (add-mul, mul-add) (omega (arith, mul_assoc 2 w b))))),
          le_trans (le_of_eq (simp (add-mul, mul-add) (omega (arith, mul_assoc 2 w b))))
              k.1,
        )
    go (suc zero) h =
        let k = lo (w * b) a r b e c in (
          le_trans k.2 (le_of_eq (sym (simp (add-mul, mul-add) (omega (arith, mul_assoc 2 w b))))),
          le_trans (le_of_eq (simp (add-mul, mul-add) (omega (arith, mul_assoc 2 w b))))
              k.3,
        )
    go (suc (suc z)) h = absurd (no z h)
      where
        no : (z : ℕ) → suc (suc z) < 2 → ⊥
        no z h = omega arith

closest_half : (a b : ℕ) → 0 < b → (2 * a ≤ (2 * closest a b + 1) * b) × (2 * closest a b * b ≤ 2 * a + b)
closest_half a b B = half (a / b) (a % b) b a (compare (a % b * 2) b) (div-add-mod' a b) (mod-lt a B) (cmp (a % b * 2) b)

-- and where it is just half a b off, it is even
half_even : (w r b a : ℕ) (o : Ordering) → w * b + r ≡ a → r < b → Cmp o (r * 2) b → (2 * a ≡ (2 * nearest w o + 1) * b) ⊎ (2 * nearest w o * b ≡ 2 * a + b) → nearest w o % 2 ≡ 0
half_even w r b a Ordering.eq e l c t = even w
  where
    even : (w : ℕ) → (w + w % 2) % 2 ≡ 0
    even w = omega arith
half_even w r b a Ordering.lt e l c t = absurd (elim t [
  | inl h ↦ over (w * b) a r b e c (h ∙ add-mul (2 * w) 1 b) (mul_assoc 2 w b)
  | inr h ↦ under (w * b) a r b e l (sym (mul_assoc 2 w b) ∙ h)
])
  where
    over : (x a r b : ℕ) {y : ℕ} → x + r ≡ a → r * 2 < b → 2 * a ≡ y + 1 * b → y ≡ 2 * x → ⊥
    over x a r b e c h i = omega arith

    under : (x a r b : ℕ) → x + r ≡ a → r < b → 2 * x ≡ 2 * a + b → ⊥
    under x a r b e l h = omega arith
half_even w r b a Ordering.gt e l c t = absurd (elim t [
  | inl h ↦ over (w * b) a r b e l (h ∙ add-mul (2 * suc w) 1 b) (mul_assoc 2 (suc w) b ∙ ap (λ (x : ℕ). 2 * x) (suc-mul w b))
  | inr h ↦ under (w * b) a r b e c (sym (mul_assoc 2 (suc w) b ∙ ap (λ (x : ℕ). 2 * x) (suc-mul w b)) ∙ h)
])
  where
    over : (x a r b : ℕ) {y : ℕ} → x + r ≡ a → r < b → 2 * a ≡ y + 1 * b → y ≡ 2 * (x + b) → ⊥
    over x a r b e l h i = omega arith

    under : (x a r b : ℕ) → x + r ≡ a → b < r * 2 → 2 * (x + b) ≡ 2 * a + b → ⊥
    under x a r b e c h = omega arith

closest_even : (a b : ℕ) → 0 < b → (2 * a ≡ (2 * closest a b + 1) * b) ⊎ (2 * closest a b * b ≡ 2 * a + b) → closest a b % 2 ≡ 0
closest_even a b B = half_even (a / b) (a % b) b a (compare (a % b * 2) b) (div-add-mod' a b) (mod-lt a B) (cmp (a % b * 2) b)

-- ---- what `round` keeps of n / den, as Q * 2 ^ k units
module _ (n den : ℕ) (D : 0 < den) where
  abbrev k : ℕ
  k = drop 53 n den

  abbrev w : ℕ
  w = 2 ^ k

  abbrev u : ℕ
  u = den * w

  abbrev Q : ℕ
  Q = kept 53 n den

  U : 0 < u
  U = mul-pos D (pow_pos k)

  -- where digits were dropped, 53 are left
  full : 0 < k → 2 ^ 52 * u ≤ n
  full h =
      le_trans (le_of_eq (turn (2 ^ 52) den w))
      ((le-div_iff_mul-le D).0 (le_trans (le_of_eq (sym (pow-add 2 52 k))) (size_reaches (n / den) (52 + k) (in_use (size (n / den)) h))))
    where
      turn : (a b c : ℕ) → a * (b * c) ≡ a * c * b
      turn a b c = simp (mul_assoc, mul_comm)

      in_use : (z : ℕ) → 0 < z - 53 → 52 + (z - 53) < z
      in_use z h = omega arith

  pub lead : 0 < k → 2 ^ 52 ≤ Q
  lead h = le_trans ((le-div_iff_mul-le U).1 (full h)) (nearest-ge (n / u) (compare (n % u * 2) u))

  twice : (a : ℕ) → 2 * (Q * w) * den ≡ 2 * Q * u
  twice a = simp (mul_assoc, mul_comm, mul_left_comm)

  -- p * 2 ^ j is any other double
  module _ (p j : ℕ) (P : p < 2 ^ 53) where
    abbrev Y : ℕ
    Y = p * 2 ^ j

    gap_up : Q * w < Y → Q * w + w ≤ Y
    gap_up l = elim (eq-zero-or-pos k) [
      | inl z ↦ subst (λ (x : ℕ). Q * w + x ≤ Y) (sym (ap (λ (x : ℕ). 2 ^ x) z)) (next (Q * w) Y l)
      | inr h ↦ next_up Q k p j (lead h) P l
    ]
      where
        next : (a b : ℕ) → a < b → a + 1 ≤ b
        next a b l = omega arith

    -- half a unit above Q is no more than half the way to Y
    half_up_lem : Q * w < Y → (2 * Q + 1) * u ≤ (Q * w + Y) * den
    half_up_lem l = le_trans (le_of_eq odd_times) (mul-le-mul_right den (far (Q * w) w Y (gap_up l)))
      where
        far : (a w b : ℕ) → a + w ≤ b → 2 * a + w ≤ a + b
        far a w b x = omega arith

        odd_times : (2 * Q + 1) * u ≡ (2 * (Q * 2 ^ k) + 2 ^ k) * den
        odd_times = simp (add-mul, mul_assoc, mul_comm, mul_left_comm, one-mul)

    pub nearest_above : Q * w < Y → 2 * n ≤ (Q * w + Y) * den
    nearest_above l = le_trans (closest_half n u U).0 (half_up_lem l)

    pub even_above : Q * w < Y → 2 * n ≡ (Q * w + Y) * den → Q % 2 ≡ 0
    even_above l e = closest_even n u U (inl (le_antisymm (closest_half n u U).0 (le_trans (half_up_lem l) (le_of_eq (sym e)))))

    gap_down : (k ≡ 0) ⊎ (2 ^ 52 < Q) → Y < Q * w → Y + w ≤ Q * w
    gap_down (inl z) l = subst (λ (x : ℕ). Y + x ≤ Q * w) (sym (ap (λ (x : ℕ). 2 ^ x) z)) (next Y (Q * w) l)
      where
        next : (a b : ℕ) → a < b → a + 1 ≤ b
        next a b l = omega arith
    gap_down (inr h) l = next_down Q k p j (le_of_lt h) P h l

    -- half a unit below Q is no less than half the way to Y
    half_down : (k ≡ 0) ⊎ (2 ^ 52 < Q) → Y < Q * w → (Q * w + Y) * den + u ≤ 2 * Q * u
    half_down c l =
        le_trans (le_of_eq (ap (λ (x : ℕ). (Q * w + Y) * den + x) (mul_comm den w) ∙ sym (add-mul (Q * w + Y) w den)))
        (le_trans (mul-le-mul_right den (far (Q * w) w Y (gap_down c l))) (le_of_eq (twice 0)))
      where
        far : (a w b : ℕ) → b + w ≤ a → a + b + w ≤ 2 * a
        far a w b x = omega arith

    -- a power of two: below it doubles are closer to each other, but n / den is no less than it
    edge : 0 < k → Q ≤ 2 ^ 52 → Y < Q * w → (Q * w + Y) * den < 2 * n
    edge h g l =
        lt_of_lt_of_le (mul-lt-mul_of_pos_right (less (Q * w) Y l) D)
        (le_trans (le_of_eq (twice 0 ∙ mul_assoc 2 Q u)) (mul-le-mul_left 2 (le_trans (mul-le-mul_right u g) (full h))))
      where
        less : (a b : ℕ) → b < a → a + b < 2 * a
        less a b x = omega arith

    by_edge : ((k ≡ 0) ⊎ (2 ^ 52 < Q)) ⊎ ((0 < k) × (Q ≤ 2 ^ 52))
    by_edge = elim (eq-zero-or-pos k) [
      | inl z ↦ inl (inl z)
      | inr h ↦ elim (lt_or_ge (2 ^ 52) Q) [ inl g ↦ inl (inr g) | inr g ↦ inr (h, g) ]
    ]

    pub nearest_below : Y < Q * w → (Q * w + Y) * den ≤ 2 * n
    nearest_below l = elim by_edge [
      | inl c ↦ cut ((Q * w + Y) * den) u (2 * Q * u) (2 * n) (half_down c l) (closest_half n u U).1
      | inr c ↦ le_of_lt (edge c.0 c.1 l)
    ]
      where
        cut : (a u c d : ℕ) → a + u ≤ c → c ≤ d + u → a ≤ d
        cut a u c d x y = omega arith

    pub even_below : Y < Q * w → 2 * n ≡ (Q * w + Y) * den → Q % 2 ≡ 0
    even_below l e = elim by_edge [
      | inl c ↦ closest_even n u U (inr (le_antisymm (closest_half n u U).1 (le_trans (le_of_eq (ap (λ (x : ℕ). x + u) e)) (half_down c l))))
      | inr c ↦ absurd (lt_irrefl (2 * n) (lt_of_le_of_lt (le_of_eq e) (edge c.0 c.1 l)))
    ]

-- ---- a finite result of `round`
no_overflow : (s : Bool) (q k : ℕ) → T (finite (Ieee.units binary64 s q k)) → q * 2 ^ k < 2 ^ 2098
unfolding Ieee.units
no_overflow s q k h = go (ltb (q * 2 ^ k) (2 ^ 2098)) (ltb→lt (q * 2 ^ k) (2 ^ 2098)) h
  where
    go : (b : Bool) → (T b → q * 2 ^ k < 2 ^ 2098) → T (finite (cond b (odd 54 s q k 1074) (inf s))) → q * 2 ^ k < 2 ^ 2098
    go true g t = g tt
    go false g t = absurd t

pub round_is_units : (s : Bool) (num den : ℕ) → T (finite (round binary64 s num den)) → Is (round binary64 s num den) s
    (kept 53 (num * 2 ^ 1074) den * 2 ^ drop 53 (num * 2 ^ 1074) den)
round_is_units s num den p =
    let n = num * 2 ^ 1074 in
    let q = kept 53 n den in
    let k = drop 53 n den in
    let is = round_is binary64 s num den in
    subst (λ (z : Float). Is z s (q * 2 ^ k)) (sym is) (units_val binary64 s q k (no_overflow s q k (subst (λ (z : Float). T (finite z)) is p)))

pub round_sign : (s : Bool) (num den : ℕ) → T (finite (round binary64 s num den)) → negative (round binary64 s num den) ≡ s
round_sign s num den p = sign_is (round binary64 s num den) s _ (round_is_units s num den p)

pub round_nearest : (s : Bool) (num den : ℕ) → 0 < den → T (finite (round binary64 s num den)) → Nearest (num * 2 ^ 1074) den (round binary64 s num den)
round_nearest s num den D p =
    let n = num * 2 ^ 1074 in
    let q = kept 53 n den in
    let k = drop 53 n den in
    let r = round binary64 s num den in
    let R : units_of r ≡ q * 2 ^ k = units_is r s (q * 2 ^ k) (round_is_units s num den p) in
    record {
      is_finite = p;
      above = λ y F f l.
          let g = on_grid y F f in
          subst (λ (x : ℕ). 2 * n ≤ (x + units_of y) * den) (sym R)
          (subst (λ (x : ℕ). 2 * n ≤ (q * 2 ^ k + x) * den) (sym g.2)
          (nearest_above n den D g.1 g.0 g.3 (subst (λ (x : ℕ). x < g.1 * 2 ^ g.0) R (subst (λ (x : ℕ). units_of r < x) g.2 l))));
      below = λ y F f l.
          let g = on_grid y F f in
          subst (λ (x : ℕ). (x + units_of y) * den ≤ 2 * n) (sym R)
          (subst (λ (x : ℕ). (q * 2 ^ k + x) * den ≤ 2 * n) (sym g.2)
          (nearest_below n den D g.1 g.0 g.3 (subst (λ (x : ℕ). g.1 * 2 ^ g.0 < x) R (subst (λ (x : ℕ). x < units_of r) g.2 l))));
    }

-- ---- the same fraction, written in another way
pub nearest_same : (n d n' d' : ℕ) (r : Float) → 0 < d → n * d' ≡ n' * d → Nearest n d r → Nearest n' d' r
nearest_same n d n' d' r D e a = record {
  is_finite = a.is_finite;
  above =
      λ y F f l. le_of_mul-le-mul_right (le_trans (le_of_eq (mul_assoc 2 n' d ∙ ap (λ (x : ℕ). 2 * x) (sym e) ∙ sym (mul_assoc 2 n d')))
      (le_trans (mul-le-mul_right d' (a.above y F f l)) (le_of_eq (mul_right_comm (units_of r + units_of y) d d')))) D;
  below =
      λ y F f l. le_of_mul-le-mul_right (le_trans (le_of_eq (mul_right_comm (units_of r + units_of y) d' d))
      (le_trans (mul-le-mul_right d' (a.below y F f l)) (le_of_eq (mul_assoc 2 n d' ∙ ap (λ (x : ℕ). 2 * x) e ∙ sym (mul_assoc 2 n' d))))) D;
}

-- ---- the operations

-- a finite double as its size in units, from its own fields
pub own : (s : Bool) (m : ℕ) (e : ℤ) → T (fits binary64 (fin s m e)) → m * up e * 2 ^ 1074 ≡ units_of (fin s m e) * down e
own s m e F =
    let z = pattern_of (fin s m e) F tt in
    z.value.1 ∙ ap (λ (x : ℕ). x * down e) (sym (units_is (fin s m e) _ _ z.value))

product : (a b X Y c d U : ℕ) → a * U ≡ X * c → b * U ≡ Y * d → a * b * U * U ≡ X * Y * (c * d)
product a b X Y c d U p q = mul_assoc (a * b) U U ∙ mul-mul-mul_comm a b U U ∙ ap (λ (x : ℕ). x * (b * U)) p ∙ ap (λ (x : ℕ). X * c * x) q ∙ mul-mul-mul_comm X c Y d

-- a product is nearest to X * Y / 2 ^ 1074 units
pub mul_nearest : (x y : Float) → T (fits binary64 x) → T (fits binary64 y) → T (finite x) → T (finite y) → T (finite (mul binary64 x y)) → Nearest (units_of x * units_of y) one
    (mul binary64 x y)
unfolding mul one
mul_nearest nan y F G p q h = absurd p
mul_nearest (inf s) y F G p q h = absurd p
mul_nearest (fin s m e) nan F G p q h = absurd q
mul_nearest (fin s m e) (inf t) F G p q h = absurd q
mul_nearest (fin s m e) (fin t n d) F G p q h =
    nearest_same (m * up e * (n * up d) * 2 ^ 1074) (down e * down d) (units_of (fin s m e) * units_of (fin t n d)) (2 ^ 1074)
    (round binary64 (unlike s t) (m * up e * (n * up d)) (down e * down d)) (mul-pos (down_pos e) (down_pos d))
    (product (m * up e) (n * up d) (units_of (fin s m e)) (units_of (fin t n d)) (down e) (down d) (2 ^ 1074) (own s m e F) (own t n d G))
    (round_nearest (unlike s t) (m * up e * (n * up d)) (down e * down d) (mul-pos (down_pos e) (down_pos d)) h)

quotient : (a b X Y c d U : ℕ) → a * U ≡ X * c → b * U ≡ Y * d → a * d * U * Y ≡ X * U * (b * c)
quotient a b X Y c d U p q =
    let l : a * d * U * Y ≡ a * U * (Y * d) = simp (mul_assoc, mul_comm, mul_left_comm) in
    l ∙ ap (λ (x : ℕ). x * (Y * d)) p ∙ ap (λ (x : ℕ). X * c * x) (sym q) ∙ simp (mul_assoc, mul_comm, mul_left_comm)

not_zero : (s : Bool) (n : ℕ) (d : ℤ) → T (fits binary64 (fin s (suc n) d)) → 0 < units_of (fin s (suc n) d)
not_zero s n d F = first_pos (units_of (fin s (suc n) d)) (down d) (lt_of_lt_of_le (mul-pos (mul-pos (zero-lt-suc n) (up_pos d)) (pow_pos 1074)) (le_of_eq (own s (suc n) d F)))

-- a quotient is nearest to X * 2 ^ 1074 / Y units, where Y is not 0
pub div_nearest : (x y : Float) → T (fits binary64 x) → T (fits binary64 y) → T (finite x) → T (finite y) → 0 < units_of y → T (finite (div binary64 x y)) → Nearest (units_of x * one)
    (units_of y) (div binary64 x y)
unfolding div units_of one
div_nearest nan y F G p q z h = absurd p
div_nearest (inf s) y F G p q z h = absurd p
div_nearest (fin s m e) nan F G p q z h = absurd q
div_nearest (fin s m e) (inf t) F G p q z h = absurd q
div_nearest (fin s m e) (fin t zero d) F G p q z h = absurd (no (0 * up d * 2 ^ 1074 / down d) z (ap (λ (x : ℕ). x * 2 ^ 1074 / down d) (zero-mul (up d)) ∙ zero-div (down d)))
  where
    no : (a : ℕ) → 0 < a → a ≡ 0 → ⊥
    no a p e = omega arith
div_nearest (fin s m e) (fin t (suc n) d) F G p q z h =
    let N = m * up e * down d in
    let D = suc n * up d * down e in
    let r = round binary64 (unlike s t) N D in
    let pos : 0 < D = mul-pos (mul-pos (zero-lt-suc n) (up_pos d)) (down_pos e) in
    let is : div binary64 (fin s m e) (fin t (suc n) d) ≡ r = ap (λ (b : Bool). cond b (cond (eqb m 0) nan (inf (unlike s t))) r) (eqb-suc-zero n) in
    subst (λ (v : Float). Nearest (units_of (fin s m e) * 2 ^ 1074) (units_of (fin t (suc n) d)) v) (sym is)
    (nearest_same (N * 2 ^ 1074) D (units_of (fin s m e) * 2 ^ 1074) (units_of (fin t (suc n) d)) r pos
    (quotient (m * up e) (suc n * up d) (units_of (fin s m e)) (units_of (fin t (suc n) d)) (down e) (down d) (2 ^ 1074) (own s m e F) (own t (suc n) d G))
    (round_nearest (unlike s t) N D pos (subst (λ (v : Float). T (finite v)) is h)))

-- ---- the sum, of a / c and b / c, which are X and Y units
sum_is : (s t : Bool) → s ≡ t → (a b c : ℕ) → sum binary64 s a t b c ≡ round binary64 s (a + b) c
unfolding sum
sum_is true true e a b c = refl
sum_is false false e a b c = refl
sum_is true false e a b c = absurd (true≢false e)
sum_is false true e a b c = absurd (true≢false (sym e))

-- of two signs, the difference, with the sign of the larger; +0 where there is none
sum_not : (s : Bool) (a b c : ℕ) → sum binary64 s a (not s) b c ≡ cond (ltb a b) (round binary64 (not s) (b - a) c) (round binary64 (s && ltb b a) (a - b) c)
unfolding sum
sum_not true a b c = refl
sum_not false a b c = refl

module _ (s t : Bool) (a b c X Y : ℕ) (C : 0 < c) (p : a * 2 ^ 1074 ≡ X * c) (q : b * 2 ^ 1074 ≡ Y * c) where
  same : (r : Float) (k Z : ℕ) → k * 2 ^ 1074 ≡ Z * c → Nearest (k * 2 ^ 1074) c r → Nearest Z 1 r
  same r k Z e h = nearest_same (k * 2 ^ 1074) c Z 1 r C (mul-one (k * 2 ^ 1074) ∙ e) h

  pub sum_same : s ≡ t → T (finite (sum binary64 s a t b c)) → Nearest (X + Y) 1 (sum binary64 s a t b c)
  sum_same e f =
      subst (λ (v : Float). Nearest (X + Y) 1 v) (sym (is s t e))
      (same (round binary64 s (a + b) c) (a + b) (X + Y) (add-mul a b (2 ^ 1074) ∙ ap (λ (x : ℕ). x + b * 2 ^ 1074) p ∙ ap (λ (x : ℕ). X * c + x) q ∙ sym (add-mul X Y c))
      (round_nearest s (a + b) c C (subst (λ (v : Float). T (finite v)) (is s t e) f)))
    where
      is : (s t : Bool) → s ≡ t → sum binary64 s a t b c ≡ round binary64 s (a + b) c
      is s t e = sum_is s t e a b c

  sub_mul : (m n k : ℕ) → (m - n) * k ≡ m * k - n * k
  sub_mul m n k = mul_comm (m - n) k ∙ mul-sub k m n ∙ ap (λ (x : ℕ). x - k * n) (mul_comm k m) ∙ ap (λ (x : ℕ). m * k - x) (mul_comm k n)

  -- one of the two differences is 0
  pub sum_differ : t ≡ not s → T (finite (sum binary64 s a t b c)) → Nearest (X - Y + (Y - X)) 1 (sum binary64 s a t b c)
  sum_differ e f =
      subst (λ (v : Float). Nearest (X - Y + (Y - X)) 1 v) (sym is)
      (go (ltb a b) (ltb→lt a b) (nltb→le a b) (subst (λ (v : Float). T (finite v)) is f))
    where
      is : sum binary64 s a t b c ≡ cond (ltb a b) (round binary64 (not s) (b - a) c) (round binary64 (s && ltb b a) (a - b) c)
      is = ap (λ (k : Bool). sum binary64 s a k b c) e ∙ sum_not s a b c

      -- the order of a and b is that of X and Y
      order : (a b X Y : ℕ) → a ≤ b → a * 2 ^ 1074 ≡ X * c → b * 2 ^ 1074 ≡ Y * c → X ≤ Y
      order a b X Y l p q = le_of_mul-le-mul_right (le_trans (le_of_eq (sym p)) (le_trans (mul-le-mul_right (2 ^ 1074) l) (le_of_eq q))) C

      gone : (x y : ℕ) → x ≤ y → y - x ≡ x - y + (y - x)
      gone x y l = omega arith

      gone' : (x y : ℕ) → y ≤ x → x - y ≡ x - y + (y - x)
      gone' x y l = omega arith

      scaled : (a b X Y : ℕ) → a * 2 ^ 1074 ≡ X * c → b * 2 ^ 1074 ≡ Y * c → (b - a) * 2 ^ 1074 ≡ (Y - X) * c
      scaled a b X Y p q = sub_mul b a (2 ^ 1074) ∙ ap (λ (x : ℕ). x - a * 2 ^ 1074) q ∙ ap (λ (x : ℕ). Y * c - x) p ∙ sym (sub_mul Y X c)

      go : (k : Bool) → (T k → a < b) → (T (not k) → b ≤ a) → T (finite (cond k (round binary64 (not s) (b - a) c) (round binary64 (s && ltb b a) (a - b) c))) → Nearest
          (X - Y + (Y - X)) 1 (cond k (round binary64 (not s) (b - a) c) (round binary64 (s && ltb b a) (a - b) c))
      go true l m h =
          same (round binary64 (not s) (b - a) c) (b - a) (X - Y + (Y - X)) (scaled a b X Y p q ∙ ap (λ (x : ℕ). x * c) (gone X Y (order a b X Y (le_of_lt (l tt)) p q)))
          (round_nearest (not s) (b - a) c C h)
      go false l m h =
          same (round binary64 (s && ltb b a) (a - b) c) (a - b) (X - Y + (Y - X)) (scaled b a Y X q p ∙ ap (λ (x : ℕ). x * c) (gone' X Y (order b a Y X (m tt) q p)))
          (round_nearest (s && ltb b a) (a - b) c C h)

shared : (a X e d U : ℕ) → a * U ≡ X * e → a * d * U ≡ X * (e * d)
shared a X e d U p = mul_right_comm a d U ∙ ap (λ (x : ℕ). x * d) p ∙ mul_assoc X e d

shared' : (a X e d U : ℕ) → a * U ≡ X * e → a * d * U ≡ X * (d * e)
shared' a X e d U p = shared a X e d U p ∙ ap (λ (x : ℕ). X * x) (mul_comm e d)

-- a sum is nearest to X + Y units where the signs are the same, and to the difference where they are not
pub add_same : (x y : Float) → T (fits binary64 x) → T (fits binary64 y) → T (finite x) → T (finite y) → negative x ≡ negative y → T (finite (add binary64 x y)) → Nearest
    (units_of x + units_of y) 1 (add binary64 x y)
unfolding add
add_same nan y F G p q e h = absurd p
add_same (inf s) y F G p q e h = absurd p
add_same (fin s m a) nan F G p q e h = absurd q
add_same (fin s m a) (inf t) F G p q e h = absurd q
add_same (fin s m a) (fin t n d) F G p q e h =
    sum_same s t (m * up a * down d) (n * up d * down a) (down a * down d) (units_of (fin s m a)) (units_of (fin t n d)) (mul-pos (down_pos a) (down_pos d))
    (shared (m * up a) (units_of (fin s m a)) (down a) (down d) (2 ^ 1074) (own s m a F)) (shared' (n * up d) (units_of (fin t n d)) (down d) (down a) (2 ^ 1074) (own t n d G)) e h

pub add_differ : (x y : Float) → T (fits binary64 x) → T (fits binary64 y) → T (finite x) → T (finite y) → negative y ≡ not (negative x) → T (finite (add binary64 x y)) → Nearest
    (units_of x - units_of y + (units_of y - units_of x)) 1 (add binary64 x y)
unfolding add
add_differ nan y F G p q e h = absurd p
add_differ (inf s) y F G p q e h = absurd p
add_differ (fin s m a) nan F G p q e h = absurd q
add_differ (fin s m a) (inf t) F G p q e h = absurd q
add_differ (fin s m a) (fin t n d) F G p q e h =
    sum_differ s t (m * up a * down d) (n * up d * down a) (down a * down d) (units_of (fin s m a)) (units_of (fin t n d)) (mul-pos (down_pos a) (down_pos d))
    (shared (m * up a) (units_of (fin s m a)) (down a) (down d) (2 ^ 1074) (own s m a F)) (shared' (n * up d) (units_of (fin t n d)) (down d) (down a) (2 ^ 1074) (own t n d G)) e h

-- ---- what follows from `Nearest` alone: a double at or above n / d is at or above r, one at or below is at or below, and one that is n / d is r

two_times : (a d : ℕ) → 2 * (a * d) ≡ (a + a) * d
two_times a d = simp add-mul (omega arith)

pub nearest_le : (n d : ℕ) (r y : Float) → 0 < d → Nearest n d r → T (fits binary64 y) → T (finite y) → n ≤ units_of y * d → units_of r ≤ units_of y
nearest_le n d r y D a F p h = elim (lt_or_ge (units_of y) (units_of r)) [
  | inl l ↦ absurd (lt_irrefl (2 * n) (lt_of_le_of_lt (le_trans (mul-le-mul_left 2 h) (le_of_eq (two_times (units_of y) d)))
      (lt_of_lt_of_le (mul-lt-mul_of_pos_right (more (units_of y) (units_of r) l) D) (a.below y F p l))))
  | inr l ↦ l
]
  where
    more : (a b : ℕ) → a < b → a + a < b + a
    more a b l = omega arith

pub nearest_at_least : (n d : ℕ) (r y : Float) → 0 < d → Nearest n d r → T (fits binary64 y) → T (finite y) → units_of y * d ≤ n → units_of y ≤ units_of r
nearest_at_least n d r y D a F p h = elim (lt_or_ge (units_of r) (units_of y)) [
  | inl l ↦ absurd (lt_irrefl (2 * n) (lt_of_le_of_lt (a.above y F p l)
      (lt_of_lt_of_le (mul-lt-mul_of_pos_right (more (units_of y) (units_of r) l) D) (le_trans (le_of_eq (sym (two_times (units_of y) d))) (mul-le-mul_left 2 h)))))
  | inr l ↦ l
]
  where
    more : (a b : ℕ) → b < a → b + a < a + a
    more a b l = omega arith

pub nearest_exact : (n d : ℕ) (r y : Float) → 0 < d → Nearest n d r → T (fits binary64 y) → T (finite y) → units_of y * d ≡ n → units_of r ≡ units_of y
nearest_exact n d r y D a F p h = le_antisymm (nearest_le n d r y D a F p (le_of_eq (sym h))) (nearest_at_least n d r y D a F p (le_of_eq h))
