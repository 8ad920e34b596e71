-- Laws of `within`: it does not matter from which of two numbers the other is subtracted. Of every double, NaN and infinities too. Assumes nothing.
--   sub_turned, within_turned   |x - y| is |y - x|
use Prim.Native.Nat.{ℕ, zero, suc, ◌+◌, ◌*◌, ◌-◌, ◌/◌, ◌%◌, ◌^◌, ◌<◌, compare}
use mathlib.Core.Bool.{Bool, true, false, cond, not, ◌&&◌, ◌||◌}
use mathlib.Core.Path.{◌≡◌, refl, sym, ap, ◌∙◌}
use native.Mathlib.Omega.{arith}
use native.Mathlib.Nat.{mul_comm, zero-mul, suc-mul}
use lib.Dec.{ltb, eqb}
use borrow.Author.Tests.{ltb-true, ltb-false, lt-ltb, le-ltb, ne_eqb}
use lib.IntN.{ℤ, pos, negsuc}
use lib.Ieee as ieee
use lib.Ieee.{Float, nan, inf, fin, Format, binary64, up, down, prec, emax, below, level, odd, units, round, sum, add, sub, neg, lt, le, eq, of_bits, of_fields, size, nearest}
use Rattle.root.specs.Doubles.{zero_f, magnitude, within}

-- ---- the magnitude of a finite value
pow_pos : (k : ℕ) → 0 < 2 ^ k
pow_pos zero = omega arith
pow_pos (suc k) = omega (arith, pow_pos k)

up_pos : (e : ℤ) → 0 < up e
up_pos (pos k) = pow_pos k
up_pos (negsuc k) = omega arith

down_pos : (e : ℤ) → 0 < down e
down_pos (pos k) = omega arith
down_pos (negsuc k) = pow_pos (suc k)

zero_is : zero_f ≡ fin false 0 (pos 0)
unfolding of_bits of_fields odd
zero_is = refl

mul_pos : (a b : ℕ) → 0 < a → 0 < b → 0 < a * b
mul_pos zero b h k = absurd (omega arith)
mul_pos (suc a) b h k = omega (arith, suc-mul a b)

-- the magnitude of the finite value m, e
abbrev canon : ℕ → ℤ → Float
canon zero e = fin false 0 (pos 0)
canon (suc m) e = fin false (suc m) e

lt_neg : (m : ℕ) (e : ℤ) → lt (fin true (suc m) e) (fin false 0 (pos 0)) ≡ true
unfolding lt
lt_neg m e = lt-ltb 0 (suc m * up e * 1 + 0 * 1 * down e) (omega (arith, mul_pos (suc m * up e) 1 (mul_pos (suc m) (up e) (omega arith) (up_pos e)) (omega arith)))

none : (e : ℤ) → 0 * 1 * down e ≡ 0
none e = simp (zero-mul)

lt_pos : (m : ℕ) (e : ℤ) → lt (fin false (suc m) e) (fin false 0 (pos 0)) ≡ false
unfolding lt
lt_pos m e = le-ltb (suc m * up e * 1) (0 * 1 * down e) (omega (arith, none e))

eq_pos : (m : ℕ) (e : ℤ) → eq (fin false (suc m) e) (fin false 0 (pos 0)) ≡ false
unfolding eq
eq_pos m e =
    ap (λ (b : Bool). b && (true || eqb (suc m * up e * 1) 0))
    (ne_eqb (suc m * up e * 1) (0 * 1 * down e) (λ h. omega (arith, none e, mul_pos (suc m * up e) 1 (mul_pos (suc m) (up e) (omega arith) (up_pos e)) (omega arith))))

mag_by : (s : Bool) (m : ℕ) (e : ℤ) → magnitude (fin s m e) ≡ canon m e
unfolding magnitude lt eq neg of_bits of_fields odd
mag_by true zero e = simp (zero-mul)
mag_by false zero e = simp (zero-mul)
mag_by true (suc m) e = ap (λ (b : Bool). cond b (fin false (suc m) e) (cond (eq (fin true (suc m) e) zero_f) zero_f (fin true (suc m) e))) (lt_neg m e)
mag_by false (suc m) e =
    ap (λ (b : Bool). cond b (fin true (suc m) e) (cond (eq (fin false (suc m) e) zero_f) zero_f (fin false (suc m) e))) (lt_pos m e)
    ∙ ap (λ (b : Bool). cond b zero_f (fin false (suc m) e)) (eq_pos m e)

-- ---- a rounded value's magnitude does not turn on its sign
fin_sign : (s t : Bool) (m : ℕ) (e : ℤ) → magnitude (fin s m e) ≡ magnitude (fin t m e)
fin_sign s t m e = mag_by s m e ∙ sym (mag_by t m e)

inf_sign : (s t : Bool) → magnitude (inf s) ≡ magnitude (inf t)
unfolding magnitude lt eq neg of_bits of_fields odd
inf_sign true true = refl
inf_sign true false = refl
inf_sign false true = refl
inf_sign false false = refl

odd_sign : (d : ℕ) (s t : Bool) (q k l : ℕ) → magnitude (odd d s q k l) ≡ magnitude (odd d t q k l)
unfolding odd
odd_sign d s t zero k l = fin_sign s t zero (pos zero)
odd_sign d s t (suc q) k l = fin_sign s t _ _

pick_sign : (b : Bool) (x y : Float) (s t : Bool) → magnitude x ≡ magnitude y → magnitude (cond b x (inf s)) ≡ magnitude (cond b y (inf t))
pick_sign true x y s t e = e
pick_sign false x y s t e = inf_sign s t

units_sign : (f : Format) (s t : Bool) (q k : ℕ) → magnitude (units f s q k) ≡ magnitude (units f t q k)
unfolding units
units_sign f s t q k = pick_sign (ltb (q * 2 ^ k) (2 ^ (ieee.low f + suc (emax f)))) _ _ s t (odd_sign (suc (prec f)) s t q k (ieee.low f))

round_sign : (f : Format) (s t : Bool) (a c : ℕ) → magnitude (round f s a c) ≡ magnitude (round f t a c)
unfolding round
round_sign f s t a c =
    let n = a * 2 ^ ieee.low f in
    let k = size (n / c) - prec f in
    let u = c * 2 ^ k in
    units_sign f s t (nearest (n / u) (compare (n % u * 2) u)) k

apart : (f : Format) (u v w b : Bool) (A B C : ℕ) → ltb A B ≡ b → magnitude (cond b (round f u (B - A) C) (round f v (A - B) C)) ≡ magnitude (round f w ((A - B) + (B - A)) C)
apart f u v w true A B C h =
    let g = ltb-true A B h in
    let e : B - A ≡ (A - B) + (B - A) = omega arith in
    round_sign f u w (B - A) C ∙ ap (λ (n : ℕ). magnitude (round f w n C)) e
apart f u v w false A B C h =
    let g = ltb-false A B h in
    let e : A - B ≡ (A - B) + (B - A) = omega arith in
    round_sign f v w (A - B) C ∙ ap (λ (n : ℕ). magnitude (round f w n C)) e

turned : (f : Format) (A B C : ℕ) → magnitude (round f true ((A - B) + (B - A)) C) ≡ magnitude (round f true ((B - A) + (A - B)) C)
turned f A B C = let e : (A - B) + (B - A) ≡ (B - A) + (A - B) = omega arith in ap (λ (n : ℕ). magnitude (round f true n C)) e

sum_turned : (f : Format) (s t : Bool) (A B C : ℕ) → magnitude (sum f s A (not t) B C) ≡ magnitude (sum f t B (not s) A C)
unfolding sum
sum_turned f true true A B C = apart f _ _ true (ltb A B) A B C refl ∙ turned f A B C ∙ sym (apart f _ _ true (ltb B A) B A C refl)
sum_turned f false false A B C = apart f _ _ true (ltb A B) A B C refl ∙ turned f A B C ∙ sym (apart f _ _ true (ltb B A) B A C refl)
sum_turned f true false A B C = let e : A + B ≡ B + A = omega arith in ap (λ (n : ℕ). magnitude (round f true n C)) e ∙ round_sign f true false (B + A) C
sum_turned f false true A B C = let e : A + B ≡ B + A = omega arith in ap (λ (n : ℕ). magnitude (round f false n C)) e ∙ round_sign f false true (B + A) C

pub sub_turned : (x y : Float) → magnitude (sub binary64 x y) ≡ magnitude (sub binary64 y x)
unfolding sub add neg
sub_turned nan nan = refl
sub_turned nan (inf t) = refl
sub_turned nan (fin t n d) = refl
sub_turned (inf s) nan = refl
sub_turned (fin s m e) nan = refl
sub_turned (inf true) (inf true) = refl
sub_turned (inf true) (inf false) = inf_sign true false
sub_turned (inf false) (inf true) = inf_sign false true
sub_turned (inf false) (inf false) = refl
sub_turned (inf s) (fin t n d) = inf_sign s (not s)
sub_turned (fin s m e) (inf t) = inf_sign (not t) t
sub_turned (fin s m e) (fin t n d) =
    sum_turned binary64 s t (m * up e * down d) (n * up d * down e) (down e * down d)
    ∙ ap (λ (c : ℕ). magnitude (sum binary64 t (n * up d * down e) (not s) (m * up e * down d) c)) (mul_comm (down e) (down d))

pub within_turned : (x y eps : Float) → within eps (sub binary64 x y) ≡ within eps (sub binary64 y x)
unfolding within
within_turned x y eps = ap (λ (m : Float). le m eps) (sub_turned x y)
