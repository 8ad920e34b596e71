-- The pattern that the digits give (specs/Digits.antt) is that of the root; and what the proof of `sqrt` asks of x. Assumes nothing.
use mathlib.Core.Path.{◌≡◌, refl, sym, ap, ◌∙◌, subst}
use mathlib.Core.Logic.{inl, inr}
use mathlib.Core.Bool.{Bool, true, false, not, ◌||◌, beq, true≢false}
use Prim.Native.Nat.{ℕ, ◌+◌, ◌*◌, ◌/◌, ◌%◌, ◌^◌, ◌≤◌, ◌<◌}
use native.Mathlib.Nat.{mul-one, zero-mul, mul-pos, mod-eq_of_lt, eq-zero-or-pos, zero-div}
use native.Mathlib.Omega.{arith}
use lib.IntN.{ℤ, pos}
use lib.Dec.{T, leb, eqb, eqb→eq, nleb→lt}
use lib.Ieee.{Float, nan, inf, fin, binary64, up, down, level, eq, fits, of_bits, to_bits, nan_bits, is_nan}
use lib.Ieee.Bits.{of_bits-to_bits}
use lib.Ieee.Fits.{and_l}
use Rattle.root.specs.Doubles.{finite, negative, one, units_of}
use Rattle.root.specs.Root.{rootable, IsRoot}
use Rattle.root.specs.Patterns.{pattern_units}
use Rattle.root.specs.Digits.{RootAt}
use Rattle.root.proofs.Patterns.{Is, Pattern, pattern_of, plain_pattern, units_is, sign_is, finite_is, on_grid, written, no_nan, no_nan_pattern, small_pattern, large_pattern}
use Rattle.root.proofs.Grid.{over, under}

pub rootable_finite : (x : Float) → T (rootable x) → T (finite x)
rootable_finite nan h = absurd h
rootable_finite (inf s) h = absurd h
rootable_finite (fin s m e) h = tt

-- 0.0 as MIR has it, by its bit pattern
zero_is : of_bits binary64 0 ≡ fin false 0 (pos 0)
unfolding of_bits
zero_is = refl

-- ---- zero
flat : (e : ℤ) → (0 * up e * 1 ≡ 0) × (0 * 1 * down e ≡ 0)
flat e = (ap (λ (x : ℕ). x * 1) (zero-mul (up e)), zero-mul (down e))

level_zero : (s : Bool) → level s 0 false 0 ≡ true
level_zero true = refl
level_zero false = refl

zero_eq : (s : Bool) (e : ℤ) → eq (fin s 0 e) (fin false 0 (pos 0)) ≡ true
unfolding eq
zero_eq s e = ap (λ (a : ℕ). level s a false (0 * 1 * down e)) (flat e).0 ∙ ap (λ (a : ℕ). level s 0 false a) (flat e).1 ∙ level_zero s

yes : {b : Bool} → b ≡ true → T b
yes h = subst T (sym h) tt

-- what equals zero is 0 units
tidy : (n d : ℕ) → n * 1 ≡ 0 * 1 * d → n ≡ 0
tidy n d h = sym (mul-one n) ∙ h ∙ zero-mul d

none : (d : ℕ) → 0 * 2 ^ 1074 / d ≡ 0
none d = zero-div d

size_of : (x : Float) → T (eq x (fin false 0 (pos 0))) → units_of x ≡ 0
unfolding eq units_of one
size_of nan h = refl
size_of (inf s) h = refl
size_of (fin s m e) h =
    let z : m * up e ≡ 0 = tidy (m * up e) (down e) (eqb→eq (m * up e * 1) (0 * 1 * down e)
    (and_l (eqb (m * up e * 1) (0 * 1 * down e)) (beq s false || eqb (m * up e * 1) 0) h)) in
    ap (λ (a : ℕ). a * 2 ^ 1074 / down e) z ∙ none (down e)

zero_size : (x : Float) → eq x (of_bits binary64 0) ≡ true → units_of x ≡ 0
zero_size x h = size_of x (yes (ap (λ (z : Float). eq x z) (sym zero_is) ∙ h))

pub zero_root : (x : Float) → T (rootable x) → eq x (of_bits binary64 0) ≡ true → IsRoot x x
unfolding one
zero_root x p h =
    let z = zero_size x h in
    record {
      is_finite = rootable_finite x p;
      sign = refl;
      above = λ y F q l. small (units_of x) (units_of y) z l;
      below = λ y F q l. absurd (no (units_of x) (units_of y) z l);
    }
  where
    no : (a b : ℕ) → a ≡ 0 → b < a → ⊥
    no a b e l = omega arith

    sum : (b : ℕ) → 0 < b → 0 < 0 + b
    sum b h = omega arith

    at_zero : (b : ℕ) → 0 < b → 4 * (0 * 2 ^ 1074) < (0 + b) * (0 + b)
    at_zero b h = mul-pos (sum b h) (sum b h)

    small : (a b : ℕ) → a ≡ 0 → a < b → 4 * (a * 2 ^ 1074) < (a + b) * (a + b)
    small a b e l = subst (λ (k : ℕ). 4 * (k * 2 ^ 1074) < (k + b) * (k + b)) (sym e) (at_zero b (omega arith))

-- ---- above zero

-- of an x that is not equal to 0.0: the sign is clear
clear : (x : Float) → T (rootable x) → eq x (of_bits binary64 0) ≡ false → negative x ≡ false
clear nan p h = absurd p
clear (inf s) p h = absurd p
clear (fin false m e) p h = refl
clear (fin true m e) p h =
    absurd (true≢false (sym (zero_eq true e) ∙ ap (λ (k : ℕ). eq (fin true k e) (fin false 0 (pos 0))) (sym (eqb→eq m 0 p)) ∙ ap (λ (z : Float). eq (fin true m e) z) (sym zero_is)
    ∙ h))

module _ (x : Float) (F : T (fits binary64 x)) (p : T (rootable x)) (n : eq x (of_bits binary64 0) ≡ false) where
  abbrev b : ℕ
  b = to_bits binary64 x

  z : Pattern x b
  z = pattern_of x F (rootable_finite x p)

  small : b < 2 ^ 63
  small = nleb→lt (2 ^ 63) b (subst (λ (t : Bool). T (not t)) (sym (clear x p n) ∙ sign_is x (leb (2 ^ 63) b) (pattern_units (b % 2 ^ 63)) z.value) tt)

  same : b % 2 ^ 63 ≡ b
  same = mod-eq_of_lt small

  size : units_of x ≡ pattern_units b
  size = units_is x (leb (2 ^ 63) b) (pattern_units (b % 2 ^ 63)) z.value ∙ ap pattern_units same

  some : 0 < b
  some = elim (eq-zero-or-pos b) [
    | inl e ↦ absurd (true≢false (sym (ap (λ (v : Float). eq v (fin false 0 (pos 0))) (sym (of_bits-to_bits binary64 x F) ∙ ap (of_bits binary64) e ∙ zero_is) ∙ zero_eq false (pos 0))
        ∙ ap (λ (v : Float). eq x v) (sym zero_is) ∙ n))
    | inr g ↦ g
  ]

  pub asked : (0 < b) × (b < 2047 * 2 ^ 52)
  asked = (some, omega (arith, z.field, same))

pub number : (x : Float) → T (rootable x) → T (not (is_nan x))
number x p = no_nan x (rootable_finite x p)

-- ---- the result
plain : (h q : ℕ) → h < 1600 → q ≤ 2 ^ 53 → h * 2 ^ 52 + q < (2047 * 2 ^ 52)
plain h q a c = omega arith

pub result_is : {n r : ℕ} (s : RootAt n r) → Is (of_bits binary64 r) false (s.q * 2 ^ s.h)
result_is {n} {r} s =
    let e : pattern_units r ≡ s.q * 2 ^ s.h = ap pattern_units s.pattern ∙ written s.h s.q s.digits.least s.digits.most in
    subst (λ (a : ℕ). Is (of_bits binary64 r) false a) e (plain_pattern r
    (subst (λ (k : ℕ). k < 2047 * 2 ^ 52) (sym s.pattern) (plain s.h s.q s.range s.digits.most)))

pub plain_root : {n r : ℕ} → RootAt n r → T (not (nan_bits binary64 r))
plain_root {n} {r} s = no_nan_pattern r (finite_is (of_bits binary64 r) _ _ (result_is s))

pub is_root : (x : Float) (F : T (fits binary64 x)) (p : T (rootable x)) (n : eq x (of_bits binary64 0) ≡ false) (r : ℕ) → RootAt (pattern_units (to_bits binary64 x) * 2 ^ 1074) r →
    IsRoot x (of_bits binary64 r)
unfolding one
is_root x F p n r s =
    let v = of_bits binary64 r in
    let a = s.q * 2 ^ s.h in
    let i : Is v false a = result_is s in
    let R : units_of v ≡ a = units_is v false a i in
    let N : units_of x * 2 ^ 1074 ≡ s.m * 2 ^ (s.h + s.h) = ap (λ (k : ℕ). k * 2 ^ 1074) (size x F p n) ∙ s.scaled in
    record {
      is_finite = finite_is v false a i;
      sign = sign_is v false a i ∙ sym (clear x p n);
      above = λ y G q l.
          let g = on_grid y G q in
          subst (λ (k : ℕ). 4 * k < (units_of v + units_of y) * (units_of v + units_of y)) (sym N)
          (subst (λ (k : ℕ). 4 * (s.m * 2 ^ (s.h + s.h)) < (k + units_of y) * (k + units_of y)) (sym R)
          (subst (λ (k : ℕ). 4 * (s.m * 2 ^ (s.h + s.h)) < (a + k) * (a + k)) (sym g.2)
          (over s.m s.q s.h g.1 g.0 s.digits s.low g.3 (subst (λ (k : ℕ). k < g.1 * 2 ^ g.0) R (subst (λ (k : ℕ). units_of v < k) g.2 l)))));
      below = λ y G q l.
          let g = on_grid y G q in
          subst (λ (k : ℕ). (units_of v + units_of y) * (units_of v + units_of y) < 4 * k) (sym N)
          (subst (λ (k : ℕ). (k + units_of y) * (k + units_of y) < 4 * (s.m * 2 ^ (s.h + s.h))) (sym R)
          (subst (λ (k : ℕ). (a + k) * (a + k) < 4 * (s.m * 2 ^ (s.h + s.h))) (sym g.2)
          (under s.m s.q s.h g.1 g.0 s.digits s.low g.3 (subst (λ (k : ℕ). g.1 * 2 ^ g.0 < k) R (subst (λ (k : ℕ). k < units_of v) g.2 l)))));
    }

-- ---- the pattern's root, by its exponent's field
pub small_root : (b : ℕ) {r : ℕ} → b / 2 ^ 52 ≡ 0 → RootAt (b % 2 ^ 52 * 2 ^ 1074) r → RootAt (pattern_units b * 2 ^ 1074) r
small_root b {r} h = subst (λ (n : ℕ). RootAt (n * 2 ^ 1074) r) (sym (small_pattern b h))

pub large_root : (b : ℕ) {r : ℕ} → (b / 2 ^ 52 ≡ 0 → ⊥) → RootAt ((2 ^ 52 + b % 2 ^ 52) * 2 ^ (b / 2 ^ 52 + 1073)) r → RootAt (pattern_units b * 2 ^ 1074) r
large_root b {r} h = subst (λ (n : ℕ). RootAt n r) (large_pattern b h)
