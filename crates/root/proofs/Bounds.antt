-- Sums, products and quotients of bounded doubles are bounded, and so finite. Assumes nothing.
use mathlib.Core.Path.{◌≡◌, refl, sym, ap, ◌∙◌, subst}
use mathlib.Core.Logic.{◌⊎◌, inl, inr}
use mathlib.Core.Bool.{Bool, true, false, ◌&&◌, ◌||◌, beq, cond, true≢false}
use Prim.Native.Nat.{ℕ, zero, suc, ◌+◌, ◌-◌, ◌*◌, ◌^◌, ◌≤◌, ◌<◌, zero-le}
use native.Mathlib.Nat.{
  mul_comm,
  mul_assoc,
  mul-one,
  one-mul,
  mul_right_comm,
  mul-mul-mul_comm,
  mul-pos,
  mul-le-mul,
  mul-le-mul_left,
  mul-le-mul_right,
  le_antisymm,
  le_of_mul-le-mul_right,
  le_trans,
  le_of_eq,
  le_of_lt,
  div-le_of_le-mul,
  lt_of_le_of_lt,
  eq-zero-or-pos,
  add-mul,
  zero-lt-suc,
  zero-mul,
  mul-zero,
  mul_left_comm,
}
use native.Mathlib.Omega.{arith}
use lib.IntN.{ℤ, pos}
use lib.Dec.{T, ltb, eqb, ltb→lt, eqb-suc-zero, eqb→eq, lit<}
use lib.Pow.{pow_pos, pow-add, pow-lt}
use lib.Ieee.{Float, nan, inf, fin, Format, binary64, prec, emax, low, up, down, unlike, odd, units, round, neg, sum, add, sub, mul, div, le, lt, eq, fits}
use lib.Ieee.Fits.{round_is, down_pos, up_pos}
use lib.Ieee.Exact.{HasValue, round_exact, units_val, odd_sign}
use lib.Ieee.Order.{round_mono, kept, drop}
use lib.Ieee.Positive.{num, den, den_pos, values_of_le, positive_of_value}
use lib.Ieee.Back.{round_whole}
use Rattle.root.specs.Doubles.{finite, negative}
use Rattle.root.specs.Doubles as spec
use Rattle.root.specs.Bounds.{Within, Ratio, AtLeast}
use Rattle.root.specs.Root.{rootable}
use borrow.Author.Tests.{lt-ltb, eq-eqb}
use Rattle.root.proofs.Grid.{lt_or_ge}
use Rattle.root.proofs.Patterns.{pattern_of, units_is}

-- B is a value of the format
abbrev pub Held : Format → ℕ → Type 0
Held f B = HasValue (round f false B 1) false B 1

pub held_small : (f : Format) (B : ℕ) → B ≤ 2 ^ prec f → Held f B
held_small f B h = round_whole f false B h

pub held_pow : (k : ℕ) → k ≤ 1023 → Held binary64 (2 ^ k)
held_pow k h =
    round_exact binary64 false (2 ^ k) 1 1 (k + 1074) (zero-lt-suc 0) (lit< tt)
    (lt_of_le_of_lt (le_of_eq (one-mul (2 ^ (k + 1074)))) (pow-lt (room k h)))
    (sym (pow-add 2 k 1074) ∙ sym (one-mul (2 ^ (k + 1074))) ∙ sym (mul-one (1 * 2 ^ (k + 1074))))
  where
    room : (k : ℕ) → k ≤ 1023 → k + 1074 < 2098
    room k h = omega arith

no_inf : (y : Float) (B : ℕ) → HasValue y false B 1 → T (le (inf false) y) → ⊥
unfolding le
no_inf nan B v h = v
no_inf (inf s) B v h = v
no_inf (fin s m e) B v h = h

under : (f : Format) (q k B : ℕ) (y : Float) → HasValue y false B 1 → T (le (units f false q k) y) → q * 2 ^ k < 2 ^ (low f + suc (emax f))
unfolding units
under f q k B y v h = go (ltb (q * 2 ^ k) (2 ^ (low f + suc (emax f)))) (ltb→lt (q * 2 ^ k) (2 ^ (low f + suc (emax f)))) h
  where
    go : (b : Bool) → (T b → q * 2 ^ k < 2 ^ (low f + suc (emax f))) → T (le (cond b (odd (suc (prec f)) false q k (low f)) (inf false)) y) → q * 2 ^ k < 2 ^ (low f + suc (emax f))
    go true g t = g tt
    go false g t = absurd (no_inf y B v t)

-- a value of g units of 2 ^ -l is at most B
bounded : (x : Float) (s : Bool) (g l B : ℕ) → 0 < l → HasValue x s g l → g ≤ B * l → Within B x
bounded nan s g l B L v h = absurd v
bounded (inf t) s g l B L v h = absurd v
bounded (fin t m e) s g l B L v h = record {
  is_finite = tt;
  size = le_of_mul-le-mul_right (le_trans (le_of_eq v.1) (le_trans (mul-le-mul_right (down e) h) (le_of_eq (mul_right_comm B l (down e))))) L;
}

module _ (f : Format) (nu de B : ℕ) (D : 0 < de) (P : 0 < B) (h : nu ≤ B * de) (R : Held f B) where
  abbrev q : ℕ
  q = kept (prec f) (nu * 2 ^ low f) de

  abbrev k : ℕ
  k = drop (prec f) (nu * 2 ^ low f) de

  order : T (le (units f false q k) (round f false B 1))
  order = subst (λ (z : Float). T (le z (round f false B 1))) (round_is f false nu de) (round_mono f nu de B 1 D (zero-lt-suc 0) (le_trans (le_of_eq (mul-one nu)) h))

  fine : q * 2 ^ k < 2 ^ (low f + suc (emax f))
  fine = under f q k B (round f false B 1) R order

  size : q * 2 ^ k ≤ B * 2 ^ low f
  size = elim (eq-zero-or-pos (q * 2 ^ k)) [
    | inl z ↦ subst (λ (a : ℕ). a ≤ B * 2 ^ low f) (sym z) zero-le
    | inr p ↦
        let v = units_val f false q k fine in
        le_trans (le_of_eq (sym (mul-one (q * 2 ^ k))))
        (values_of_le (units f false q k) (round f false B 1) (q * 2 ^ k) (2 ^ low f) B 1 (positive_of_value (units f false q k) (q * 2 ^ k) (2 ^ low f) v p)
        (positive_of_value (round f false B 1) B 1 R P) v R order)
  ]

  pub round_within : (s : Bool) → Within B (round f s nu de)
  round_within s =
      subst (λ (z : Float). Within B z) (sym (round_is f s nu de)) (bounded (units f s q k) s (q * 2 ^ k) (2 ^ low f) B (pow_pos (low f)) (units_val f s q k fine) size)

-- ---- the operations

pub mul_within : (f : Format) {A B : ℕ} {x y : Float} → 0 < A * B → Held f (A * B) → Within A x → Within B y → Within (A * B) (mul f x y)
unfolding mul
mul_within f {A = A} {B = B} {x = nan} {y = y} P R h k = absurd h.is_finite
mul_within f {A = A} {B = B} {x = inf s} {y = y} P R h k = absurd h.is_finite
mul_within f {A = A} {B = B} {x = fin s m e} {y = nan} P R h k = absurd k.is_finite
mul_within f {A = A} {B = B} {x = fin s m e} {y = inf t} P R h k = absurd k.is_finite
mul_within f {A = A} {B = B} {x = fin s m e} {y = fin t n d} P R h k =
    round_within f (m * up e * (n * up d)) (down e * down d) (A * B) (mul-pos (down_pos e) (down_pos d)) P
    (le_trans (mul-le-mul h.size k.size) (le_of_eq (mul-mul-mul_comm A (down e) B (down d)))) R (unlike s t)

-- a and b are at most A and B times c
sum_within : (f : Format) (s : Bool) (a : ℕ) (t : Bool) (b c A B : ℕ) → 0 < c → 0 < A + B → Held f (A + B) → a ≤ A * c → b ≤ B * c → Within (A + B) (sum f s a t b c)
unfolding sum
sum_within f s a t b c A B C P R h k = go (beq s t) (ltb a b)
  where
    both : (a b p q r : ℕ) → r ≡ p + q → a ≤ p → b ≤ q → a + b ≤ r
    both a b p q r e x y = omega arith

    left : (a b p q r : ℕ) → r ≡ p + q → a ≤ p → a - b ≤ r
    left a b p q r e x = omega arith

    right : (a b p q r : ℕ) → r ≡ p + q → b ≤ q → b - a ≤ r
    right a b p q r e x = omega arith

    e : (A + B) * c ≡ A * c + B * c
    e = add-mul A B c

    go : (u v : Bool) → Within (A + B) (cond u (round f s (a + b) c) (cond v (round f t (b - a) c) (round f (s && ltb b a) (a - b) c)))
    go true v = round_within f (a + b) c (A + B) C P (both a b (A * c) (B * c) ((A + B) * c) e h k) R s
    go false true = round_within f (b - a) c (A + B) C P (right a b (A * c) (B * c) ((A + B) * c) e k) R t
    go false false = round_within f (a - b) c (A + B) C P (left a b (A * c) (B * c) ((A + B) * c) e h) R (s && ltb b a)

pub add_within : (f : Format) {A B : ℕ} {x y : Float} → 0 < A + B → Held f (A + B) → Within A x → Within B y → Within (A + B) (add f x y)
unfolding add
add_within f {A = A} {B = B} {x = nan} {y = y} P R h k = absurd h.is_finite
add_within f {A = A} {B = B} {x = inf s} {y = y} P R h k = absurd h.is_finite
add_within f {A = A} {B = B} {x = fin s m e} {y = nan} P R h k = absurd k.is_finite
add_within f {A = A} {B = B} {x = fin s m e} {y = inf t} P R h k = absurd k.is_finite
add_within f {A = A} {B = B} {x = fin s m e} {y = fin t n d} P R h k =
    sum_within f s (m * up e * down d) t (n * up d * down e) (down e * down d) A B (mul-pos (down_pos e) (down_pos d)) P R
    (le_trans (mul-le-mul_right (down d) h.size) (le_of_eq (mul_assoc A (down e) (down d))))
    (le_trans (mul-le-mul_right (down e) k.size) (le_of_eq (mul_assoc B (down d) (down e) ∙ ap (λ (z : ℕ). B * z) (mul_comm (down d) (down e)))))

pub neg_within : {B : ℕ} {x : Float} → Within B x → Within B (neg x)
unfolding neg
neg_within {B = B} {x = nan} h = absurd h.is_finite
neg_within {B = B} {x = inf s} h = absurd h.is_finite
neg_within {B = B} {x = fin s m e} h = record { is_finite = tt; size = h.size }

pub sub_within : (f : Format) {A B : ℕ} {x y : Float} → 0 < A + B → Held f (A + B) → Within A x → Within B y → Within (A + B) (sub f x y)
unfolding sub
sub_within f P R h k = add_within f P R h (neg_within k)

pub div_within : (f : Format) {B : ℕ} {x y : Float} → 0 < B → Held f B → Ratio B x y → Within B (div f x y)
unfolding div
div_within f {B = B} {x = nan} {y = y} P R h = absurd h.left_finite
div_within f {B = B} {x = inf s} {y = y} P R h = absurd h.left_finite
div_within f {B = B} {x = fin s m e} {y = nan} P R h = absurd h.right_finite
div_within f {B = B} {x = fin s m e} {y = inf t} P R h = absurd h.right_finite
div_within f {B = B} {x = fin s m e} {y = fin t zero d} P R h = absurd (none (0 * up d) h.some (zero-mul (up d)))
  where
    none : (a : ℕ) → 0 < a → a ≡ 0 → ⊥
    none a k e = omega arith
div_within f {B = B} {x = fin s m e} {y = fin t (suc n) d} P R h =
    subst (λ (b : Bool). Within B (cond b (cond (eqb m 0) nan (inf (unlike s t))) (round f (unlike s t) (m * up e * down d) (suc n * up d * down e)))) (sym (eqb-suc-zero n))
    (round_within f (m * up e * down d) (suc n * up d * down e) B (mul-pos h.some (down_pos e)) P h.size R (unlike s t))

-- ---- the bound in units, both ways
pub within_units : (B : ℕ) (x : Float) → Within B x → spec.units_of x ≤ B * spec.one
unfolding spec.units_of spec.one
within_units B nan h = absurd h.is_finite
within_units B (inf s) h = absurd h.is_finite
within_units B (fin s m e) h =
    div-le_of_le-mul (down e) (le_trans (mul-le-mul_right (2 ^ 1074) h.size) (le_of_eq (ap (λ (a : ℕ). a * 2 ^ 1074) (mul_comm B (down e)) ∙ mul_assoc (down e) B (2 ^ 1074))))

pub units_within : (B : ℕ) (x : Float) → T (fits binary64 x) → T (finite x) → spec.units_of x ≤ B * spec.one → Within B x
unfolding spec.one
units_within B x F p h =
    let z = pattern_of x F p in
    bounded x _ _ (2 ^ 1074) B (pow_pos 1074) z.value (le_trans (le_of_eq (sym (units_is x _ _ z.value))) h)

-- ---- the bound from two tests, with n * 2 ^ k: what `x <= 1e9` and `x >= -1e9` say
neither_inf : (s : Bool) (n k : ℕ) → T (le (inf s) (fin false n (pos k))) → T (le (fin true n (pos k)) (inf s)) → ⊥
unfolding le
neither_inf true n k a b = b
neither_inf false n k a b = a

either : (a b : ℕ) (r : Bool) → T (ltb a b || (eqb a b && r)) → a ≤ b
either a b r h = go (ltb a b) (eqb a b) (ltb→lt a b) (eqb→eq a b) h
  where
    go : (p q : Bool) → (T p → a < b) → (T q → a ≡ b) → T (p || (q && r)) → a ≤ b
    go true q f g t = le_of_lt (f tt)
    go false true f g t = le_of_eq (g tt)
    go false false f g t = absurd t

either_back : (a b : ℕ) (r : Bool) → T (ltb a b || (eqb b a && r)) → a ≤ b
either_back a b r h = go (ltb a b) (eqb b a) (ltb→lt a b) (eqb→eq b a) h
  where
    go : (p q : Bool) → (T p → a < b) → (T q → b ≡ a) → T (p || (q && r)) → a ≤ b
    go true q f g t = le_of_lt (f tt)
    go false true f g t = le_of_eq (sym (g tt))
    go false false f g t = absurd t

tidy : (a p d : ℕ) → a * 1 ≤ p * d → a ≤ p * d
tidy a p d h = le_trans (le_of_eq (sym (mul-one a))) h

pub within_tests : (x : Float) (n k : ℕ) → T (le x (fin false n (pos k))) → T (le (fin true n (pos k)) x) → Within (n * 2 ^ k) x
unfolding le
within_tests nan n k a b = absurd a
within_tests (inf s) n k a b = absurd (neither_inf s n k a b)
within_tests (fin false m e) n k a b = record { is_finite = tt; size = tidy (m * up e) (n * 2 ^ k) (down e) (either (m * up e * 1) (n * 2 ^ k * down e) true a) }
within_tests (fin true m e) n k a b = record { is_finite = tt; size = tidy (m * up e) (n * 2 ^ k) (down e) (either_back (m * up e * 1) (n * 2 ^ k * down e) true b) }

-- ---- no sign

units_plus : (f : Format) (q k : ℕ) → negative (units f false q k) ≡ false
unfolding units
units_plus f q k = go (ltb (q * 2 ^ k) (2 ^ (low f + suc (emax f))))
  where
    go : (b : Bool) → negative (cond b (odd (suc (prec f)) false q k (low f)) (inf false)) ≡ false
    go true = of (odd (suc (prec f)) false q k (low f)) (odd_sign (suc (prec f)) false q k (low f))
      where
        of : (v : Float) → HasValue v false (q * 2 ^ k) (2 ^ low f) → negative v ≡ false
        of nan h = refl
        of (inf s) h = absurd h
        of (fin s m e) h = h.0
    go false = refl

round_plus : (f : Format) (a c : ℕ) → negative (round f false a c) ≡ false
round_plus f a c = ap negative (round_is f false a c) ∙ units_plus f _ _

-- a square has no sign, and nor has a sum of two values that have none
pub square_plus : (f : Format) {B : ℕ} {x : Float} → Within B x → negative (mul f x x) ≡ false
unfolding mul
square_plus f {B = B} {x = nan} h = absurd h.is_finite
square_plus f {B = B} {x = inf s} h = absurd h.is_finite
square_plus f {B = B} {x = fin true m e} h = round_plus f _ _
square_plus f {B = B} {x = fin false m e} h = round_plus f _ _

pub add_plus : (f : Format) {A B : ℕ} {x y : Float} → Within A x → Within B y → negative x ≡ false → negative y ≡ false → negative (add f x y) ≡ false
unfolding add sum
add_plus f {A = A} {B = B} {x = nan} {y = y} h k p q = absurd h.is_finite
add_plus f {A = A} {B = B} {x = inf s} {y = y} h k p q = absurd h.is_finite
add_plus f {A = A} {B = B} {x = fin s m e} {y = nan} h k p q = absurd k.is_finite
add_plus f {A = A} {B = B} {x = fin s m e} {y = inf t} h k p q = absurd k.is_finite
add_plus f {A = A} {B = B} {x = fin true m e} {y = fin t n d} h k p q = absurd (true≢false p)
add_plus f {A = A} {B = B} {x = fin false m e} {y = fin true n d} h k p q = absurd (true≢false q)
add_plus f {A = A} {B = B} {x = fin false m e} {y = fin false n d} h k p q = round_plus f _ _

pub plain_rootable : {B : ℕ} {x : Float} → Within B x → negative x ≡ false → T (rootable x)
plain_rootable {B = B} {x = nan} h p = absurd h.is_finite
plain_rootable {B = B} {x = inf s} h p = absurd h.is_finite
plain_rootable {B = B} {x = fin true m e} h p = absurd (true≢false p)
plain_rootable {B = B} {x = fin false m e} h p = tt

pub within_mono : {A B : ℕ} {x : Float} → A ≤ B → Within A x → Within B x
within_mono {A} {B} {x} l h = record { is_finite = h.is_finite; size = le_trans h.size (mul-le-mul_right (den x) l) }

-- ---- a quotient's bound: from the operands' bounds, and from tests

pub ratio_bounds : {A C : ℕ} {x y : Float} → Within A x → AtLeast C y → Ratio (A * C) x y
ratio_bounds {A} {C} {x} {y} h k = record {
  left_finite = h.is_finite;
  right_finite = k.is_finite;
  some = elim (eq-zero-or-pos (num y)) [ inl z ↦ absurd (none (den y) (den_pos y) (le_trans k.size (le_of_eq (ap (λ (a : ℕ). C * a) z ∙ mul-zero C)))) | inr p ↦ p ];
  size = le_trans (mul-le-mul h.size k.size) (le_of_eq (turn A (den x) C (num y)));
}
  where
    none : (a : ℕ) → 0 < a → a ≤ 0 → ⊥
    none a p q = omega arith

    turn : (a b c d : ℕ) → a * b * (c * d) ≡ a * c * (d * b)
    turn a b c d = simp (mul_assoc, mul_comm, mul_left_comm)

above_zero : (n : ℕ) (d : ℤ) → T (ltb (0 * 1 * down d) (n * up d * 1)) → 0 < n
above_zero zero d h = absurd (no (0 * 1 * down d) (0 * up d * 1) (ltb→lt (0 * 1 * down d) (0 * up d * 1) h) (ap (λ (z : ℕ). z * 1) (zero-mul (up d))))
  where
    no : (a b : ℕ) → a < b → b ≡ 0 → ⊥
    no a b l e = omega arith
above_zero (suc n) d h = zero-lt-suc n

-- 0 < y, x <= y and x >= -y
pub ratio_tests : (x y : Float) → T (finite y) → T (lt (fin false 0 (pos 0)) y) → T (le x y) → T (le (neg y) x) → Ratio 1 x y
unfolding le lt eq neg
ratio_tests x nan p z a b = absurd p
ratio_tests x (inf s) p z a b = absurd p
ratio_tests nan (fin t n d) p z a b = absurd a
ratio_tests (inf true) (fin true n d) p z a b = absurd z
ratio_tests (inf true) (fin false n d) p z a b = absurd b
ratio_tests (inf false) (fin t n d) p z a b = absurd a
ratio_tests (fin s m e) (fin true n d) p z a b = absurd z
ratio_tests (fin false m e) (fin false n d) p z a b =
    record {
      left_finite = tt;
      right_finite = tt;
      some = mul-pos (above_zero n d z) (up_pos d);
      size = le_trans (either (m * up e * down d) (n * up d * down e) true a)
          (le_of_eq (sym (one-mul (n * up d * down e))));
    }
ratio_tests (fin true m e) (fin false n d) p z a b =
    record {
      left_finite = tt;
      right_finite = tt;
      some = mul-pos (above_zero n d z) (up_pos d);
      size = le_trans (either_back (m * up e * down d) (n * up d * down e) true b)
          (le_of_eq (sym (one-mul (n * up d * down e))));
    }

-- ---- a product by a number below 1, and the tests that a bounded number with no sign passes

-- y is at most A, and x at most B / A
pub mul_below : (f : Format) {A B : ℕ} (x : Float) {y : Float} → 0 < B → Held f B → T (finite x) → num x * A ≤ B * den x → Within A y → Within B (mul f x y)
unfolding mul
mul_below f {A = A} {B = B} nan {y = y} P R h s k = absurd h
mul_below f {A = A} {B = B} (inf s) {y = y} P R h z k = absurd h
mul_below f {A = A} {B = B} (fin s m e) {y = nan} P R h z k = absurd k.is_finite
mul_below f {A = A} {B = B} (fin s m e) {y = inf t} P R h z k = absurd k.is_finite
mul_below f {A = A} {B = B} (fin s m e) {y = fin t n d} P R h z k =
    round_within f (m * up e * (n * up d)) (down e * down d) B (mul-pos (down_pos e) (down_pos d)) P
    (le_trans (mul-le-mul_left (m * up e) k.size)
    (le_trans (le_of_eq (sym (mul_assoc (m * up e) A (down d))))
    (le_trans (mul-le-mul_right (down d) z) (le_of_eq (mul_assoc B (down e) (down d)))))) R (unlike s t)

pub mul_plus : (f : Format) (x y : Float) → T (finite x) → T (finite y) → negative x ≡ false → negative y ≡ false → negative (mul f x y) ≡ false
unfolding mul
mul_plus f nan y h k p q = absurd h
mul_plus f (inf s) y h k p q = absurd h
mul_plus f (fin s m e) nan h k p q = absurd k
mul_plus f (fin s m e) (inf t) h k p q = absurd k
mul_plus f (fin true m e) (fin t n d) h k p q = absurd (true≢false p)
mul_plus f (fin false m e) (fin true n d) h k p q = absurd (true≢false q)
mul_plus f (fin false m e) (fin false n d) h k p q = round_plus f _ _

at_most : (a b : ℕ) (v : Bool) → a ≤ b → (ltb a b || (eqb a b && (true || v))) ≡ true
at_most a b v h = elim (lt_or_eq a b h) [
  | inl l ↦ ap (λ (t : Bool). t || (eqb a b && (true || v))) (lt-ltb a b l)
  | inr e ↦ go (ltb a b) (eq-eqb a b e)
]
  where
    lt_or_eq : (a b : ℕ) → a ≤ b → (a < b) ⊎ (a ≡ b)
    lt_or_eq a b h = elim (lt_or_ge a b) [
      | inl l ↦ inl l
      | inr g ↦ inr (le_antisymm h g)
    ]

    go : (t : Bool) → eqb a b ≡ true → (t || (eqb a b && (true || v))) ≡ true
    go true e = refl
    go false e = ap (λ (u : Bool). u && (true || v)) e

-- a number with no sign is at least 0, and at most the whole number B where its size is
pub plus_from_zero : {B : ℕ} {x : Float} → Within B x → negative x ≡ false → le (fin false 0 (pos 0)) x ≡ true
unfolding le lt eq
plus_from_zero {B = B} {x = nan} h p = absurd h.is_finite
plus_from_zero {B = B} {x = inf s} h p = absurd h.is_finite
plus_from_zero {B = B} {x = fin true m e} h p = absurd (true≢false p)
plus_from_zero {B =
    B} {x = fin false m e} h p = at_most (0 * 1 * down e) (m * up e * 1) (eqb (0 * 1 * down e) 0) (subst (λ (a : ℕ). a ≤ m * up e * 1) (sym (zero-mul (down e))) zero-le)

pub plus_to_one : {x : Float} → Within 1 x → negative x ≡ false → le x (fin false 1 (pos 0)) ≡ true
unfolding le lt eq
plus_to_one {x = nan} h p = absurd h.is_finite
plus_to_one {x = inf s} h p = absurd h.is_finite
plus_to_one {x = fin true m e} h p = absurd (true≢false p)
plus_to_one {x = fin false m e} h p = at_most (m * up e * 1) (1 * down e) (eqb (m * up e * 1) 0) (le_trans (le_of_eq (mul-one (m * up e))) h.size)
