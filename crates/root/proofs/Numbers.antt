-- No NaN arises from finite numbers, unless zero is divided by zero; an infinity may. Assumes nothing.
use mathlib.Core.Path.{◌≡◌, refl, sym, ap, ◌∙◌, subst}
use mathlib.Core.Bool.{Bool, true, false, not, cond, true≢false, beq, ◌&&◌}
use Prim.Native.Nat.{ℕ, zero, suc, ◌-◌, ◌+◌, ◌*◌, ◌^◌}
use native.Mathlib.Nat.{zero-mul}
use lib.IntN.{ℤ}
use lib.Dec.{T, ltb, eqb, eqb-suc-zero}
use lib.Ieee.{Float, nan, inf, fin, Format, binary64, prec, emax, low, up, down, unlike, odd, round, neg, sum, add, sub, mul, div, eq, level, of_bits, is_nan}
use lib.Ieee as Ieee
use lib.Ieee.Fits.{round_is}
use lib.Ieee.Exact.{HasValue, odd_sign}
use Rattle.root.specs.Doubles.{◌⊕◌, ◌⊖◌, ◌⊗◌, ◌⊘◌, zero_f, finite}

value_number : (x : Float) (s : Bool) (a c : ℕ) → HasValue x s a c → T (not (is_nan x))
unfolding is_nan
value_number nan s a c v = absurd v
value_number (inf t) s a c v = tt
value_number (fin t m e) s a c v = tt

inf_number : (s : Bool) → T (not (is_nan (inf s)))
unfolding is_nan
inf_number s = tt

units_number : (f : Format) (s : Bool) (q k : ℕ) → T (not (is_nan (Ieee.units f s q k)))
unfolding Ieee.units
units_number f s q k = go (ltb (q * 2 ^ k) (2 ^ (low f + suc (emax f))))
  where
    go : (b : Bool) → T (not (is_nan (cond b (odd (suc (prec f)) s q k (low f)) (inf s))))
    go true = value_number (odd (suc (prec f)) s q k (low f)) s _ _ (odd_sign (suc (prec f)) s q k (low f))
    go false = inf_number s

pub round_number : (f : Format) (s : Bool) (n d : ℕ) → T (not (is_nan (round f s n d)))
round_number f s n d = subst (λ (v : Float). T (not (is_nan v))) (sym (round_is f s n d)) (units_number f s _ _)

sum_number : (s : Bool) (a : ℕ) (t : Bool) (b c : ℕ) → T (not (is_nan (sum binary64 s a t b c)))
unfolding sum
sum_number s a t b c = go (beq s t) (ltb a b)
  where
    go : (p q : Bool) → T (not (is_nan (cond p (round binary64 s (a + b) c) (cond q (round binary64 t (b - a) c) (round binary64 (s && ltb b a) (a - b) c)))))
    go true q = round_number binary64 s (a + b) c
    go false true = round_number binary64 t (b - a) c
    go false false = round_number binary64 (s && ltb b a) (a - b) c

pub add_number : (x y : Float) → T (finite x) → T (finite y) → T (not (is_nan (x ⊕ y)))
unfolding add
add_number nan y p q = absurd p
add_number (inf s) y p q = absurd p
add_number (fin s m e) nan p q = absurd q
add_number (fin s m e) (inf t) p q = absurd q
add_number (fin s m e) (fin t n d) p q = sum_number s (m * up e * down d) t (n * up d * down e) (down e * down d)

neg_finite : (x : Float) → T (finite x) → T (finite (neg x))
unfolding neg
neg_finite nan p = p
neg_finite (inf s) p = p
neg_finite (fin s m e) p = tt

pub sub_number : (x y : Float) → T (finite x) → T (finite y) → T (not (is_nan (x ⊖ y)))
unfolding sub
sub_number x y p q = add_number x (neg y) p (neg_finite y q)

pub mul_number : (x y : Float) → T (finite x) → T (finite y) → T (not (is_nan (x ⊗ y)))
unfolding mul
mul_number nan y p q = absurd p
mul_number (inf s) y p q = absurd p
mul_number (fin s m e) nan p q = absurd q
mul_number (fin s m e) (inf t) p q = absurd q
mul_number (fin s m e) (fin t n d) p q = round_number binary64 (unlike s t) (m * up e * (n * up d)) (down e * down d)

-- a divisor that equals no zero
zero_eq : (t : Bool) (d : ℤ) → eq (fin t 0 d) zero_f ≡ true
unfolding eq of_bits
zero_eq t d = ap (λ (a : ℕ). level t a false (0 * 1 * down d)) (ap (λ (a : ℕ). a * 1) (zero-mul (up d))) ∙ ap (λ (a : ℕ). level t 0 false a) (zero-mul (down d)) ∙ flat t
  where
    flat : (t : Bool) → level t 0 false 0 ≡ true
    flat true = refl
    flat false = refl

pub div_number : (x y : Float) → T (finite x) → T (finite y) → eq y zero_f ≡ false → T (not (is_nan (x ⊘ y)))
unfolding div
div_number nan y p q h = absurd p
div_number (inf s) y p q h = absurd p
div_number (fin s m e) nan p q h = absurd q
div_number (fin s m e) (inf t) p q h = absurd q
div_number (fin s m e) (fin t zero d) p q h = absurd (true≢false (sym (zero_eq t d) ∙ h))
div_number (fin s m e) (fin t (suc n) d) p q h =
    subst (λ (b : Bool). T (not (is_nan (cond b (cond (eqb m 0) nan (inf (unlike s t))) (round binary64 (unlike s t) (m * up e * down d) (suc n * up d * down e))))))
    (sym (eqb-suc-zero n))
    (round_number binary64 (unlike s t) (m * up e * down d) (suc n * up d * down e))

-- what equals itself is a number
pub number_itself : (x : Float) → eq x x ≡ true → T (not (is_nan x))
unfolding is_nan eq
number_itself nan e = subst T (sym e) tt
number_itself (inf s) e = tt
number_itself (fin s m d) e = tt
