-- The root drawn of a sum of squares, and the pattern of the length: where the exponents are near to each other, and where they are far apart.
-- Nothing here but patterns and whole numbers. Assumes nothing.
use mathlib.Core.Path.{◌≡◌, refl, sym, ap, ◌∙◌, subst, subst₂}
use mathlib.Core.Logic.{inl, inr}
use mathlib.Core.Bool.{Bool, true, false, not, ◌||◌}
use lib.Dec.{ltb, eqb}
use borrow.Author.Tests.{ltb-true, ltb-false}
use Prim.Native.Nat.{ℕ, ◌+◌, ◌-◌, ◌*◌, ◌/◌, ◌%◌, ◌^◌, ◌≤◌, ◌<◌}
use native.Mathlib.Nat.{
  mul_comm,
  mul_assoc,
  add-mul,
  mul-add,
  mul-one,
  zero-mul,
  mul-pos,
  mul-mul-mul_comm,
  mul-le-mul,
  mul-le-mul_left,
  mul-le-mul_right,
  mul-lt-mul_of_pos_right,
  le_trans,
  le_of_eq,
  le_of_lt,
  lt_of_le_of_lt,
  lt_of_lt_of_le,
  lt_irrefl,
}
use native.Mathlib.Omega.{arith}
use lib.Pow.{pow_pos, pow-add, pow_mono}
use Rattle.root.specs.Patterns.{pattern_units}
use Rattle.root.specs.Drawn.{Drawn, Appended}
use Rattle.root.proofs.Grid.{lt_or_ge, double}
use Rattle.root.proofs.Patterns.{placed}
use Rattle.root.proofs.Digits.{from_nothing, appended_then, appended_room}
use Rattle.hypot.specs.Placing.{Parts, Summed, Near, RootOf, LengthAt, Placed}
use Rattle.hypot.proofs.Products.{two_four, four_pos}
use Rattle.hypot.proofs.Rounding.{even_stays}

-- ---- the root q of z, whose square leaves y, is that of four times the sum of the squares of m * 2 ^ (k + d) and l * 2 ^ k

module _ {m l d h w f q y : ℕ} (S : Summed m l d h w f) (D : Drawn (h * 2 ^ 54 + w) q y) (k : ℕ) where
  abbrev t : ℕ
  t = 2 ^ k

  abbrev u : ℕ
  u = 2 ^ (k + d)

  abbrev p : ℕ
  p = 4 ^ d

  abbrev z : ℕ
  z = h * 2 ^ 54 + w

  abbrev v : ℕ
  v = 4 * (m * u * (m * u) + l * t * (l * t))

  units_square : u * u ≡ p * (t * t)
  units_square =
      ap (λ (x : ℕ). x * x) (pow-add 2 k d) ∙ mul-mul-mul_comm t (2 ^ d) t (2 ^ d)
      ∙ ap (λ (x : ℕ). t * t * x) (sym (pow-add 2 d d) ∙ ap (λ (x : ℕ). 2 ^ x) (two d) ∙ two_four d) ∙ mul_comm (t * t) p
    where
      two : (d : ℕ) → d + d ≡ 2 * d
      two d = omega arith

  scaled : (a : ℕ) → a * u * (a * u) ≡ a * a * p * (t * t)
  scaled a = mul-mul-mul_comm a u a u ∙ ap (λ (x : ℕ). a * a * x) units_square ∙ sym (mul_assoc (a * a) p (t * t))

  value : v ≡ (z * p + f) * (t * t)
  value =
      ap (λ (x : ℕ). 4 * (x + l * t * (l * t))) (scaled m) ∙ ap (λ (x : ℕ). 4 * (m * m * p * (t * t) + x)) (mul-mul-mul_comm l t l t)
      ∙ ap (λ (x : ℕ). 4 * x) (sym (add-mul (m * m * p) (l * l) (t * t))) ∙ sym (mul_assoc 4 (m * m * p + l * l) (t * t))
      ∙ ap (λ (x : ℕ). x * (t * t)) (fours ∙ sym S.is)
    where
      fours : 4 * (m * m * p + l * l) ≡ 2 * m * (2 * m) * p + 2 * l * (2 * l)
      fours = omega (arith, ap (λ (x : ℕ). x * p) (double m) ∙ mul_assoc 4 (m * m) p, double l)

  -- z * p is q * q * p and what is left
  left : z * p ≡ q * q * p + y * p
  left = ap (λ (x : ℕ). x * p) (sym D.left) ∙ add-mul (q * q) y p

  wide : y ≤ y * p
  wide = le_trans (le_of_eq (sym (mul-one y))) (mul-le-mul_left y (four_pos d))

  some : 0 < t * t
  some = mul-pos (pow_pos k) (pow_pos k)

  upper : z * p + f < (q + 1) * (q + 1) * p
  upper = lt_of_lt_of_le (more (z * p) f p S.part) (le_trans (le_of_eq (sym (next z p))) (mul-le-mul_right p (up z ((q + 1) * (q + 1)) D.largest.next)))
    where
      more : (a f e : ℕ) → f < e → a + f < a + e
      more a f e h = omega arith

      next : (a w : ℕ) → (a + 1) * w ≡ a * w + w
      next a w = simp add-mul (omega arith)

      up : (a b : ℕ) → a < b → a + 1 ≤ b
      up a b h = omega arith

  near_sum : {s : Bool} → (s ≡ false → (y ≡ 0) × (f ≡ 0)) → (s ≡ true → 0 < y + f) → Near v q s (k + d)
  near_sum N M = record {
    reaches = le_trans (le_of_eq (scaled q)) (le_trans (mul-le-mul_right (t * t) (omega (arith, left))) (le_of_eq (sym value)));
    next = lt_of_le_of_lt (le_of_eq value) (lt_of_lt_of_le (mul-lt-mul_of_pos_right upper some) (le_of_eq (sym (scaled (q + 1)))));
    exact = λ e. scaled q ∙ ap (λ (x : ℕ). x * (t * t)) (all (N e).0 (N e).1) ∙ sym value;
    more = λ e. lt_of_le_of_lt (le_of_eq (scaled q)) (lt_of_lt_of_le (mul-lt-mul_of_pos_right (over (M e)) some) (le_of_eq (sym value)));
  }
    where
      all : y ≡ 0 → f ≡ 0 → q * q * p ≡ z * p + f
      all e g = omega (arith, left, ap (λ (x : ℕ). x * p) e ∙ zero-mul p)

      over : 0 < y + f → q * q * p < z * p + f
      over e = omega (arith, left, wide)

-- 28 and 27 digits drawn: there is more if something is left of the number or of the division
pub root_of : {m l d h w f r y r' y' : ℕ} → Summed m l d h w f → Appended 28 h 0 0 r y → Appended 27 w r y r' y' → RootOf m l d r' (not (eqb y' 0) || not (eqb f 0))
root_of {m} {l} {d} {h} {w} {f} {r} {y} {r'} {y'} S a b =
    let c : Appended 55 (h * 2 ^ 54 + w) 0 0 r' y' = appended_then a b in
    record { near = λ k. near_sum S (from_nothing c) k (none y' f) (some y' f); few = appended_room c }
  where
    none : (a b : ℕ) → (not (eqb a 0) || not (eqb b 0)) ≡ false → (a ≡ 0) × (b ≡ 0)
    none a b e = grind arith

    some : (a b : ℕ) → (not (eqb a 0) || not (eqb b 0)) ≡ true → 0 < a + b
    some a b e = grind arith

-- ---- far apart: of m * 2 ^ j and l * 2 ^ k the second is too small to count

module _ (m l j k : ℕ) (M : 2 ^ 52 ≤ m) (L : l < 2 ^ 53) (far : 27 + k ≤ j) where
  abbrev P : ℕ
  P = m * 2 ^ j

  abbrev Y : ℕ
  Y = l * 2 ^ k

  -- the smaller square is at most P times a unit
  small : Y * Y ≤ P * 2 ^ j
  small =
      le_trans (mul-le-mul a a)
      (le_trans (le_of_eq (mul-mul-mul_comm (2 ^ 53) t (2 ^ 53) t ∙ split (t * t) ∙ ap (λ (x : ℕ). 2 ^ 52 * x) (sym (mul-mul-mul_comm (2 ^ 27) t (2 ^ 27) t))))
      (le_trans (mul-le-mul_left (2 ^ 52) (mul-le-mul b b)) (le_trans (mul-le-mul_right (2 ^ j * 2 ^ j) M) (le_of_eq (sym (mul_assoc m (2 ^ j) (2 ^ j)))))))
    where
      t : ℕ
      t = 2 ^ k

      a : Y ≤ 2 ^ 53 * t
      a = mul-le-mul_right t (le_of_lt L)

      b : 2 ^ 27 * t ≤ 2 ^ j
      b = le_trans (le_of_eq (sym (pow-add 2 27 k))) (pow_mono far)

      split : (x : ℕ) → 2 ^ 53 * 2 ^ 53 * x ≡ 2 ^ 52 * (2 ^ 27 * 2 ^ 27 * x)
      split x = omega arith

  square : 2 * m * 2 ^ j * (2 * m * 2 ^ j) ≡ 4 * (P * P)
  square = ap (λ (x : ℕ). x * x) (mul_assoc 2 m (2 ^ j)) ∙ double P

  square_next : (2 * m + 1) * 2 ^ j * ((2 * m + 1) * 2 ^ j) ≡ 4 * (P * P) + 4 * (P * 2 ^ j) + 2 ^ j * 2 ^ j
  square_next = ap (λ (x : ℕ). x * x) sum ∙ expand P (2 ^ j)
    where
      sum : (2 * m + 1) * 2 ^ j ≡ 2 * P + 2 ^ j
      sum = omega (arith, add-mul (2 * m) 1 (2 ^ j), mul_assoc 2 m (2 ^ j))

      expand : (a b : ℕ) → (2 * a + b) * (2 * a + b) ≡ 4 * (a * a) + 4 * (a * b) + b * b
      expand a b = simp (add-mul, mul-add) (omega (arith, double a, mul_comm b (2 * a), mul_assoc 2 a b))

  near_far : Near (4 * (P * P + Y * Y)) (2 * m) (ltb 0 Y) j
  near_far = record {
    reaches = le_trans (le_of_eq square) (omega arith);
    next = lt_of_lt_of_le (under (P * P) (Y * Y) (P * 2 ^ j) (2 ^ j * 2 ^ j) small (mul-pos (pow_pos j) (pow_pos j))) (le_of_eq (sym square_next));
    exact = λ e. square ∙ none (P * P) (Y * Y) (ap (λ (x : ℕ). x * Y) (nothing Y (ltb-false 0 Y e)) ∙ zero-mul Y);
    more = λ h. lt_of_le_of_lt (le_of_eq square) (over (P * P) (Y * Y) (mul-pos (ltb-true 0 Y h) (ltb-true 0 Y h)));
  }
    where
      under : (a b p w : ℕ) → b ≤ p → 0 < w → 4 * (a + b) < 4 * a + 4 * p + w
      under a b p w h g = omega arith

      nothing : (y : ℕ) → y ≤ 0 → y ≡ 0
      nothing y l = omega arith

      none : (a b : ℕ) → b ≡ 0 → 4 * a ≡ 4 * (a + b)
      none a b e = omega arith

      over : (a b : ℕ) → 0 < b → 4 * a < 4 * (a + b)
      over a b h = omega arith

-- ---- patterns

-- the exponent of a pattern: a field of 0 counts as a field of 1
pub parts_small : (a : ℕ) → a / 2 ^ 52 ≡ 0 → Parts a 0
parts_small a e = record { m = a; is = omega arith; few = omega arith; lead = λ h. omega arith }

pub parts_large : (a : ℕ) → (a / 2 ^ 52 ≡ 0 → ⊥) → Parts a (a / 2 ^ 52 - 1)
parts_large a e = record { m = 2 ^ 52 + a % 2 ^ 52; is = omega arith; few = omega arith; lead = λ h. omega arith }

parts_units : {a j : ℕ} (p : Parts a j) → pattern_units a ≡ p.m * 2 ^ j
parts_units {a} {j} p = ap pattern_units p.is ∙ placed j p.m p.lead (le_of_lt p.few)

-- a larger pattern has no smaller exponent
pub order : {a b j k : ℕ} → Parts a j → Parts b k → b ≤ a → k ≤ j
order {a} {b} {j} {k} p q h = elim (lt_or_ge j k) [
  | inl l ↦ absurd (no j k p.m q.m a b l p.is q.is p.few (q.lead (less j k l)) h)
  | inr l ↦ l
]
  where
    less : (j k : ℕ) → j < k → 0 < k
    less j k l = omega arith

    no : (j k m l a b : ℕ) → j < k → a ≡ j * 2 ^ 52 + m → b ≡ k * 2 ^ 52 + l → m < 2 ^ 53 → 2 ^ 52 ≤ l → b ≤ a → ⊥
    no j k m l a b g e f i n o = omega arith

abbrev four_patterns : ℕ → ℕ → ℕ
four_patterns a b = 4 * (pattern_units a * pattern_units a + pattern_units b * pattern_units b)

-- the sum of the squares by the parts of both patterns
by_parts : {a b j k : ℕ} (p : Parts a j) (q : Parts b k) → 4 * (p.m * 2 ^ j * (p.m * 2 ^ j) + q.m * 2 ^ k * (q.m * 2 ^ k)) ≡ four_patterns a b
by_parts p q = λ i. 4 * (sym (parts_units p) i * sym (parts_units p) i + sym (parts_units q) i * sym (parts_units q) i)

pub far_length : {a b j k : ℕ} → Parts a j → Parts b k → j < 2044 → 26 < j - k → LengthAt (four_patterns a b) a
far_length {a} {b} {j} {k} p q J far =
    let v = 4 * (p.m * 2 ^ j * (p.m * 2 ^ j) + q.m * 2 ^ k * (q.m * 2 ^ k)) in
    let n : Near v (2 * p.m) (ltb 0 (q.m * 2 ^ k)) j = near_far p.m q.m j k (p.lead (omega arith)) q.few (omega arith) in
    subst₂ LengthAt (by_parts p q) (sym p.is) (even_stays v (2 * p.m) (ltb 0 (q.m * 2 ^ k)) j p.m n (omega arith) p.few p.lead refl)

-- near to each other

module _ {a b j k q : ℕ} {s : Bool} (p : Parts a j) (p' : Parts b k) (o : k ≤ j) (r : RootOf (a - j * 2 ^ 52) (b - k * 2 ^ 52) (j - k) q s) where
  taken_off : (a j m : ℕ) → a ≡ j * 2 ^ 52 + m → a - j * 2 ^ 52 ≡ m
  taken_off a j m e = omega arith

  back : (j k : ℕ) → k ≤ j → k + (j - k) ≡ j
  back j k h = omega arith

  near : Near (four_patterns a b) q s j
  near =
      subst (λ (x : ℕ). Near x q s j) (by_parts p p')
      (subst₂ (λ (x y : ℕ). Near (4 * (x * 2 ^ j * (x * 2 ^ j) + y * 2 ^ k * (y * 2 ^ k))) q s j) (taken_off a j p.m p.is) (taken_off b k p'.m p'.is)
      (subst (λ (x : ℕ). Near (4 * ((a - j * 2 ^ 52) * 2 ^ x * ((a - j * 2 ^ 52) * 2 ^ x) + (b - k * 2 ^ 52) * 2 ^ k * ((b - k * 2 ^ 52) * 2 ^ k))) q s x) (back j k o) (r.near k)))

  pub near_length : {c : ℕ} → Placed j q s c → LengthAt (four_patterns a b) c
  near_length n = n.nearest (four_patterns a b) near

  -- a root has as many digits as the larger number
  pub root_lead : 0 < j → 2 ^ 53 ≤ q
  root_lead h = elim (lt_or_ge q (2 ^ 53)) [
    | inl l ↦ absurd (lt_irrefl (four_patterns a b) (lt_of_lt_of_le near.next (le_trans (mul-le-mul (least l) (least l)) (le_trans (le_of_eq (double (p.m * 2 ^ j))) reached))))
    | inr l ↦ l
  ]
    where
      up : (q m : ℕ) → q < 2 ^ 53 → 2 ^ 52 ≤ m → q + 1 ≤ 2 * m
      up q m l g = omega arith

      least : q < 2 ^ 53 → (q + 1) * 2 ^ j ≤ 2 * (p.m * 2 ^ j)
      least l = le_trans (mul-le-mul_right (2 ^ j) (up q p.m l (p.lead h))) (le_of_eq (mul_assoc 2 p.m (2 ^ j)))

      low : (a b : ℕ) → 4 * a ≤ 4 * (a + b)
      low a b = omega arith

      reached : 4 * (p.m * 2 ^ j * (p.m * 2 ^ j)) ≤ four_patterns a b
      reached = le_trans (low (p.m * 2 ^ j * (p.m * 2 ^ j)) (p'.m * 2 ^ k * (p'.m * 2 ^ k))) (le_of_eq (by_parts p p'))
