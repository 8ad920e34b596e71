-- Doubles compare as their signs and the rest of their patterns do, infinities too. Assumes nothing.
use mathlib.Core.Path.{◌≡◌, refl, sym, ap, ◌∙◌, subst}
use mathlib.Core.Logic.{◌⊎◌, inl, inr}
use mathlib.Core.Bool.{Bool, true, false, not, ◌&&◌, ◌||◌, beq}
use Prim.Native.Nat.{ℕ, zero, suc, ◌+◌, ◌*◌, ◌/◌, ◌%◌, ◌^◌, ◌≤◌, ◌<◌}
use native.Mathlib.Nat.{mul-lt-mul_of_pos_right, mul-le-mul, mul-le-mul_right, mod-lt, le_trans, le_of_eq, le_of_lt, le_antisymm, lt_of_lt_of_le, lt_of_le_of_lt, lt_irrefl, mul-one, eq-or-lt_of_le}
use native.Mathlib.Omega.{arith}
use lib.IntN.{ℤ}
use lib.Dec.{T, ltb, eqb, ltb→lt, lt→ltb, eqb→eq, not_T, lit<}
use lib.Pow.{pow_pos}
use lib.Ieee.{Float, nan, inf, fin, binary64, below, level, fits, lt, eq, to_bits, is_nan}
use lib.Ieee.Bits.{is_true, is_false}
use lib.Ieee.Fits.{eq→eqb}
use Rattle.root.specs.Doubles.{finite, negative, units_of}
use Rattle.root.specs.Patterns.{field_units, pattern_units}
use Rattle.root.proofs.Grid.{lt_or_ge, finer}
use Rattle.root.proofs.Patterns.{pattern_of, pattern_is, units_is}
use Rattle.root.proofs.Doubles.{same_test, lt_units, eq_units}

-- ---- larger patterns have more units

field_less : (x t x' t' : ℕ) → t < 2 ^ 52 → x < x' → field_units x t < field_units x' t'
unfolding field_units
field_less x t zero t' h l = absurd (no x l)
  where
    no : (x : ℕ) → x < 0 → ⊥
    no x l = omega arith
field_less zero t (suc j) t' h l = lt_of_lt_of_le h (le_trans (le_of_eq (sym (mul-one (2 ^ 52)))) (mul-le-mul (lead t') (pow_pos j)))
  where
    lead : (t : ℕ) → 2 ^ 52 ≤ 2 ^ 52 + t
    lead t = omega arith
field_less (suc i) t (suc j) t' h l = lt_of_lt_of_le (finer (2 ^ 52 + t) i j (few t h) (under i j l)) (mul-le-mul_right (2 ^ j) (lead t'))
  where
    lead : (t : ℕ) → 2 ^ 52 ≤ 2 ^ 52 + t
    lead t = omega arith

    few : (t : ℕ) → t < 2 ^ 52 → 2 ^ 52 + t < 2 ^ 53
    few t h = omega arith

    under : (i j : ℕ) → suc i < suc j → i < j
    under i j l = omega arith

digits_less : (x t t' : ℕ) → t < t' → field_units x t < field_units x t'
unfolding field_units
digits_less zero t t' l = l
digits_less (suc j) t t' l = mul-lt-mul_of_pos_right (more t t' l) (pow_pos j)
  where
    more : (t t' : ℕ) → t < t' → 2 ^ 52 + t < 2 ^ 52 + t'
    more t t' l = omega arith

pub pattern_less : (a b : ℕ) → a < b → pattern_units a < pattern_units b
pattern_less a b l = lt_of_le_of_lt (le_of_eq (pattern_is a)) (lt_of_lt_of_le (elim (fields a b l) [
  | inl h ↦ field_less (a / 2 ^ 52) (a % 2 ^ 52) (b / 2 ^ 52) (b % 2 ^ 52) (mod-lt a (pow_pos 52)) h
  | inr h ↦ subst (λ (x : ℕ). field_units (a / 2 ^ 52) (a % 2 ^ 52) < field_units x (b % 2 ^ 52)) h.0 (digits_less (a / 2 ^ 52) (a % 2 ^ 52) (b % 2 ^ 52) h.1)
]) (le_of_eq (sym (pattern_is b))))
  where
    fields : (a b : ℕ) → a < b → (a / 2 ^ 52 < b / 2 ^ 52) ⊎ ((a / 2 ^ 52 ≡ b / 2 ^ 52) × (a % 2 ^ 52 < b % 2 ^ 52))
    fields a b l = elim (lt_or_ge (a / 2 ^ 52) (b / 2 ^ 52)) [ inl h ↦ inl h | inr h ↦ inr (omega arith) ]

pub pattern_le : {a b : ℕ} → a ≤ b → pattern_units a ≤ pattern_units b
pattern_le {a} {b} h = elim (eq-or-lt_of_le h) [ inl e ↦ le_of_eq (ap pattern_units e) | inr l ↦ le_of_lt (pattern_less a b l) ]

pub pattern_back : {a b : ℕ} → pattern_units a < pattern_units b → a < b
pattern_back {a} {b} h = elim (lt_or_ge a b) [ inl l ↦ l | inr l ↦ absurd (lt_irrefl (pattern_units a) (lt_of_lt_of_le h (pattern_le l))) ]

pub pattern_same : {a b : ℕ} → pattern_units a ≡ pattern_units b → a ≡ b
pattern_same {a} {b} e = le_antisymm (no_more (le_of_eq e)) (no_more (le_of_eq (sym e)))
  where
    no_more : {a b : ℕ} → pattern_units a ≤ pattern_units b → a ≤ b
    no_more {a} {b} h = elim (lt_or_ge b a) [ inl l ↦ absurd (lt_irrefl (pattern_units a) (lt_of_le_of_lt h (pattern_less b a l))) | inr l ↦ l ]

-- so tests of patterns are those of units

pattern_ltb : (a b : ℕ) → ltb (pattern_units a) (pattern_units b) ≡ ltb a b
pattern_ltb a b =
    same_test (ltb (pattern_units a) (pattern_units b)) (ltb a b) (λ t. lt→ltb a b (pattern_back (ltb→lt (pattern_units a) (pattern_units b) t)))
    (λ t. lt→ltb (pattern_units a) (pattern_units b) (pattern_less a b (ltb→lt a b t)))

pattern_eqb : (a b : ℕ) → eqb (pattern_units a) (pattern_units b) ≡ eqb a b
pattern_eqb a b =
    same_test (eqb (pattern_units a) (pattern_units b)) (eqb a b) (λ t. eq→eqb (pattern_same (eqb→eq (pattern_units a) (pattern_units b) t)))
    (λ t. eq→eqb (ap pattern_units (eqb→eq a b t)))

-- ---- signs and patterns

none : pattern_units 0 ≡ 0
unfolding pattern_units field_units
none = refl

sum_ltb : (a b : ℕ) → ltb 0 (pattern_units a + pattern_units b) ≡ ltb 0 (a + b)
sum_ltb a b =
    same_test (ltb 0 (pattern_units a + pattern_units b)) (ltb 0 (a + b)) (λ t. lt→ltb 0 (a + b) (to a b (ltb→lt 0 (pattern_units a + pattern_units b) t)))
    (λ t. lt→ltb 0 (pattern_units a + pattern_units b) (from a b (ltb→lt 0 (a + b) t)))
  where
    no : (u v : ℕ) → 0 < u + v → u ≡ 0 → v ≡ 0 → ⊥
    no u v h e f = omega arith

    to : (a b : ℕ) → 0 < pattern_units a + pattern_units b → 0 < a + b
    to zero zero h = absurd (no (pattern_units 0) (pattern_units 0) h none none)
    to zero (suc b) h = omega arith
    to (suc a) b h = omega arith

    some : (u v w : ℕ) → w < u → 0 < u + v
    some u v w h = omega arith

    some' : (u v w : ℕ) → w < v → 0 < u + v
    some' u v w h = omega arith

    from : (a b : ℕ) → 0 < a + b → 0 < pattern_units a + pattern_units b
    from zero zero h = absurd (no 0 0 h refl refl)
    from zero (suc b) h = some' (pattern_units 0) (pattern_units (suc b)) (pattern_units 0) (pattern_less 0 (suc b) (omega arith))
    from (suc a) b h = some (pattern_units (suc a)) (pattern_units b) (pattern_units 0) (pattern_less 0 (suc a) (omega arith))

below_patterns : (s t : Bool) (a b : ℕ) → below s (pattern_units a) t (pattern_units b) ≡ below s a t b
below_patterns false false a b = pattern_ltb a b
below_patterns false true a b = refl
below_patterns true false a b = sum_ltb a b
below_patterns true true a b = pattern_ltb b a

level_patterns : (s t : Bool) (a b : ℕ) → level s (pattern_units a) t (pattern_units b) ≡ level s a t b
level_patterns s t a b =
    ap (λ (k : Bool). k && (beq s t || eqb (pattern_units a) 0)) (pattern_eqb a b)
    ∙ ap (λ (k : Bool). eqb a b && (beq s t || k)) (ap (eqb (pattern_units a)) (sym none) ∙ pattern_eqb a 0)

-- the pattern without its sign
abbrev pub unsigned : Float → ℕ
unsigned x = to_bits binary64 x % 2 ^ 63

pub finite_unsigned : (x : Float) → T (fits binary64 x) → T (finite x) → units_of x ≡ pattern_units (unsigned x)
finite_unsigned x F p = units_is x _ _ (pattern_of x F p).value

pub inf_unsigned : (s : Bool) → unsigned (inf s) ≡ 2047 * 2 ^ 52
unfolding to_bits
inf_unsigned true = refl
inf_unsigned false = refl

-- an infinity's is the largest
pub finite_less : (x : Float) → T (fits binary64 x) → T (finite x) → unsigned x < 2047 * 2 ^ 52
finite_less x F p = under (unsigned x) (pattern_of x F p).field
  where
    under : (c : ℕ) → c / 2 ^ 52 < 2047 → c < 2047 * 2 ^ 52
    under c h = omega arith

module _ (x y : Float) (F : T (fits binary64 x)) (G : T (fits binary64 y)) (p : T (finite x)) (q : T (finite y)) where
  finite_lt : lt x y ≡ below (negative x) (unsigned x) (negative y) (unsigned y)
  finite_lt =
      lt_units x y F G p q ∙ ap (λ (k : ℕ). below (negative x) k (negative y) (units_of y)) (finite_unsigned x F p)
      ∙ ap (λ (k : ℕ). below (negative x) (pattern_units (unsigned x)) (negative y) k) (finite_unsigned y G q)
      ∙ below_patterns (negative x) (negative y) (unsigned x) (unsigned y)

  finite_eq : eq x y ≡ level (negative x) (unsigned x) (negative y) (unsigned y)
  finite_eq =
      eq_units x y F G p q ∙ ap (λ (k : ℕ). level (negative x) k (negative y) (units_of y)) (finite_unsigned x F p)
      ∙ ap (λ (k : ℕ). level (negative x) (pattern_units (unsigned x)) (negative y) k) (finite_unsigned y G q)
      ∙ level_patterns (negative x) (negative y) (unsigned x) (unsigned y)

-- I, the largest, against a smaller a
module _ (I a : ℕ) (h : a < I) where
  large_below : (s t : Bool) → s ≡ below s I t a
  large_below false false = sym (is_false (ltb I a) (not_T (ltb I a) (λ k. no (ltb→lt I a k))))
    where
      no : I < a → ⊥
      no l = omega arith
  large_below false true = refl
  large_below true false = sym (is_true (ltb 0 (I + a)) (lt→ltb 0 (I + a) (omega arith)))
  large_below true true = sym (is_true (ltb a I) (lt→ltb a I h))

  below_large : (s t : Bool) → not t ≡ below s a t I
  below_large false false = sym (is_true (ltb a I) (lt→ltb a I h))
  below_large false true = refl
  below_large true false = sym (is_true (ltb 0 (a + I)) (lt→ltb 0 (a + I) (omega arith)))
  below_large true true = sym (is_false (ltb I a) (not_T (ltb I a) (λ k. no (ltb→lt I a k))))
    where
      no : I < a → ⊥
      no l = omega arith

  large_level : (s t : Bool) → false ≡ level s I t a
  large_level s t = go (eqb I a) (λ k. no (eqb→eq I a k))
    where
      no : I ≡ a → ⊥
      no e = omega arith

      go : (k : Bool) → (T k → ⊥) → false ≡ k && (beq s t || eqb I 0)
      go true f = absurd (f tt)
      go false f = refl

  level_large : (s t : Bool) → false ≡ level s a t I
  level_large s t = go (eqb a I) (λ k. no (eqb→eq a I k))
    where
      no : a ≡ I → ⊥
      no e = omega arith

      go : (k : Bool) → (T k → ⊥) → false ≡ k && (beq s t || eqb a 0)
      go true f = absurd (f tt)
      go false f = refl

two_below : (s t : Bool) (I : ℕ) → 0 < I → s && not t ≡ below s I t I
two_below false false I h = sym (is_false (ltb I I) (not_T (ltb I I) (λ k. no I (ltb→lt I I k))))
  where
    no : (I : ℕ) → I < I → ⊥
    no I l = omega arith
two_below false true I h = refl
two_below true false I h = sym (is_true (ltb 0 (I + I)) (lt→ltb 0 (I + I) (omega arith)))
two_below true true I h = sym (is_false (ltb I I) (not_T (ltb I I) (λ k. no I (ltb→lt I I k))))
  where
    no : (I : ℕ) → I < I → ⊥
    no I l = omega arith

-- infinities
inf_lt : (s t : Bool) → lt (inf s) (inf t) ≡ below s (unsigned (inf s)) t (unsigned (inf t))
unfolding lt
inf_lt s t =
    two_below s t (2047 * 2 ^ 52) (lit< tt) ∙ ap (λ (k : ℕ). below s k t (2047 * 2 ^ 52)) (sym (inf_unsigned s)) ∙ ap (λ (k : ℕ). below s (unsigned (inf s)) t k)
    (sym (inf_unsigned t))

inf_eq : (s t : Bool) → eq (inf s) (inf t) ≡ level s (unsigned (inf s)) t (unsigned (inf t))
unfolding eq
inf_eq s t = two_level s t ∙ ap (λ (k : ℕ). level s k t (2047 * 2 ^ 52)) (sym (inf_unsigned s)) ∙ ap (λ (k : ℕ). level s (unsigned (inf s)) t k) (sym (inf_unsigned t))
  where
    two_level : (s t : Bool) → beq s t ≡ level s (2047 * 2 ^ 52) t (2047 * 2 ^ 52)
    two_level true true = refl
    two_level true false = refl
    two_level false true = refl
    two_level false false = refl

module _ (t : Bool) (n : ℕ) (d : ℤ) (G : T (fits binary64 (fin t n d))) (s : Bool) where
  less : unsigned (fin t n d) < unsigned (inf s)
  less = lt_of_lt_of_le (finite_less (fin t n d) G tt) (le_of_eq (sym (inf_unsigned s)))

  inf_lt_fin : lt (inf s) (fin t n d) ≡ below s (unsigned (inf s)) t (unsigned (fin t n d))
  unfolding lt
  inf_lt_fin = large_below (unsigned (inf s)) (unsigned (fin t n d)) less s t

  fin_lt_inf : lt (fin t n d) (inf s) ≡ below t (unsigned (fin t n d)) s (unsigned (inf s))
  unfolding lt
  fin_lt_inf = below_large (unsigned (inf s)) (unsigned (fin t n d)) less t s

  inf_eq_fin : eq (inf s) (fin t n d) ≡ level s (unsigned (inf s)) t (unsigned (fin t n d))
  unfolding eq
  inf_eq_fin = large_level (unsigned (inf s)) (unsigned (fin t n d)) less s t

  fin_eq_inf : eq (fin t n d) (inf s) ≡ level t (unsigned (fin t n d)) s (unsigned (inf s))
  unfolding eq
  fin_eq_inf = level_large (unsigned (inf s)) (unsigned (fin t n d)) less t s

-- every double but a NaN
pub lt_patterns : (x y : Float) → T (fits binary64 x) → T (fits binary64 y) → T (not (is_nan x)) → T (not (is_nan y)) → lt x y ≡ below (negative x) (unsigned x) (negative y)
    (unsigned y)
unfolding is_nan
lt_patterns nan y F G p q = absurd p
lt_patterns (inf s) nan F G p q = absurd q
lt_patterns (fin s m e) nan F G p q = absurd q
lt_patterns (inf s) (inf t) F G p q = inf_lt s t
lt_patterns (inf s) (fin t n d) F G p q = inf_lt_fin t n d G s
lt_patterns (fin s m e) (inf t) F G p q = fin_lt_inf s m e F t
lt_patterns (fin s m e) (fin t n d) F G p q = finite_lt (fin s m e) (fin t n d) F G tt tt

pub eq_patterns : (x y : Float) → T (fits binary64 x) → T (fits binary64 y) → T (not (is_nan x)) → T (not (is_nan y)) → eq x y ≡ level (negative x) (unsigned x) (negative y)
    (unsigned y)
unfolding is_nan
eq_patterns nan y F G p q = absurd p
eq_patterns (inf s) nan F G p q = absurd q
eq_patterns (fin s m e) nan F G p q = absurd q
eq_patterns (inf s) (inf t) F G p q = inf_eq s t
eq_patterns (inf s) (fin t n d) F G p q = inf_eq_fin t n d G s
eq_patterns (fin s m e) (inf t) F G p q = fin_eq_inf s m e F t
eq_patterns (fin s m e) (fin t n d) F G p q = finite_eq (fin s m e) (fin t n d) F G tt tt
