-- The bit patterns of the finite doubles, and their sizes in units of 2 ^ -1074. Assumes nothing.
use mathlib.Core.Path.{◌≡◌, refl, sym, ap, ◌∙◌, subst}
use mathlib.Core.Logic.{◌⊎◌, inl, inr}
use mathlib.Core.Bool.{Bool, true, false, not, cond}
use Prim.Native.Nat.{ℕ, zero, suc, ◌+◌, ◌-◌, ◌*◌, ◌/◌, ◌%◌, ◌^◌, ◌≤◌, ◌<◌}
use native.Mathlib.Nat.{
  mul_assoc,
  mul-one,
  mul_right_comm,
  mod-lt,
  mod-eq_of_lt,
  mul-div_cancel,
  eq-or-lt_of_le,
  pow-succ',
  two-pow-succ,
  mul-add,
  le_of_eq,
  lt_of_lt_of_le,
  lt_of_le_of_lt,
  zero-lt-suc,
}
use native.Mathlib.Omega.{arith}
use lib.Dec.{T, leb, eqb, lit≤, eqb→eq, eqb_refl, not_T}
use lib.Arith.{lt→nleb}
use lib.Pow.{pow_pos, pow_mono, shl_lt}
use lib.IntN.{ℤ}
use lib.Ieee.{Float, nan, inf, fin, binary64, up, down, size, odd, fits, of_fields, of_bits, to_bits, nan_bits, is_nan}
use lib.Ieee.Bits.{of_bits-to_bits, to_bits-lt, nan_bits_is, is_false, cond_no}
use lib.Ieee.Fits.{down_pos}
use lib.Ieee.Exact.{HasValue, odd_sign}
use Rattle.root.proofs.Grid.{lt_or_ge}
use Rattle.root.proofs.Scaling.{shift}
use Rattle.root.specs.Doubles.{finite, negative, one, units_of}
use Rattle.root.specs.Patterns.{field_units, pattern_units}

abbrev pub U : ℕ
U = 2 ^ 1074

-- x has the sign s, and is a units in size
abbrev pub Is : Float → Bool → ℕ → Type 0
Is x s a = HasValue x s a U

-- ---- from a value to its size in units

pub units_is : (x : Float) (s : Bool) (a : ℕ) → Is x s a → units_of x ≡ a
unfolding units_of one
units_is nan s a v = absurd v
units_is (inf t) s a v = absurd v
units_is (fin t m e) s a v = ap (λ (z : ℕ). z / down e) v.1 ∙ mul-div_cancel a (down_pos e)

pub sign_is : (x : Float) (s : Bool) (a : ℕ) → Is x s a → negative x ≡ s
sign_is nan s a v = absurd v
sign_is (inf t) s a v = absurd v
sign_is (fin t m e) s a v = v.0

pub finite_is : (x : Float) (s : Bool) (a : ℕ) → Is x s a → T (finite x)
finite_is nan s a v = absurd v
finite_is (inf t) s a v = absurd v
finite_is (fin t m e) s a v = tt

-- a whole number n is n * u of u-ths
pub to_units : (x : Float) (s : Bool) (n u : ℕ) → HasValue x s n 1 → HasValue x s (n * u) u
to_units nan s n u h = h
to_units (inf t) s n u h = h
to_units (fin t m e) s n u h = (h.0, ap (λ (a : ℕ). a * u) (sym (mul-one (m * up e)) ∙ h.1) ∙ mul_right_comm n (down e) u)

-- ---- what the fields of a pattern say

differ : (x : ℕ) → x < 2047 → x ≡ 2047 → ⊥
differ x h e = omega arith

pub field_value : (s : Bool) (x t : ℕ) → x < 2047 → Is (of_fields binary64 s x t) s (field_units x t)
unfolding of_fields field_units
field_value s zero t h = subst (λ (a : ℕ). Is (odd 53 s t 0 1074) s a) (mul-one t) (odd_sign 53 s t 0 1074)
field_value s (suc j) t h =
    subst (λ (v : Float). Is v s ((2 ^ 52 + t) * 2 ^ j))
    (sym (cond_no (eqb (suc j) 2047) (cond (eqb t 0) (inf s) nan) (odd 53 s (2 ^ 52 + t) j 1074)
    (not_T (eqb (suc j) 2047) (λ (u : T (eqb (suc j) 2047)). differ (suc j) h (eqb→eq (suc j) 2047 u)))))
    (odd_sign 53 s (2 ^ 52 + t) j 1074)

at_top : (a b s : Bool) (v : Float) → T (finite (cond a (cond b (inf s) nan) v)) → T (not a)
at_top true true s v p = absurd p
at_top true false s v p = absurd p
at_top false b s v p = tt

less : (x : ℕ) → x < 2048 → (x ≡ 2047 → ⊥) → x < 2047
less x h n = omega arith

pub field_lt : (s : Bool) (x t : ℕ) → x < 2048 → T (finite (of_fields binary64 s x t)) → x < 2047
unfolding of_fields
field_lt s zero t h p = omega arith
field_lt s (suc j) t h p = less (suc j) h (no (eqb (suc j) 2047) (at_top (eqb (suc j) 2047) (eqb t 0) s (odd 53 s (2 ^ 52 + t) j 1074) p) (eq→ (suc j) 2047))
  where
    no : {A : Type 0} (b : Bool) → T (not b) → (A → T b) → A → ⊥
    no true n f a = n
    no false n f a = f a

    eq→ : (a b : ℕ) → a ≡ b → T (eqb a b)
    eq→ a b e = subst (λ (z : ℕ). T (eqb a z)) e (eqb_refl a)

-- ---- whole patterns

pub of_bits_is : (b : ℕ) → of_bits binary64 b ≡ of_fields binary64 (leb (2 ^ 63) b) (b % 2 ^ 63 / 2 ^ 52) (b % 2 ^ 52)
unfolding of_bits
of_bits_is b = refl

field_in : (b : ℕ) → b % 2 ^ 63 / 2 ^ 52 < 2048
field_in b = omega arith

digits_in : (b : ℕ) → b % 2 ^ 63 % 2 ^ 52 ≡ b % 2 ^ 52
digits_in b = omega arith

pub pattern_is : (b : ℕ) → pattern_units b ≡ field_units (b / 2 ^ 52) (b % 2 ^ 52)
unfolding pattern_units
pattern_is b = refl

without_sign : (b : ℕ) → field_units (b % 2 ^ 63 / 2 ^ 52) (b % 2 ^ 52) ≡ pattern_units (b % 2 ^ 63)
without_sign b = ap (λ (t : ℕ). field_units (b % 2 ^ 63 / 2 ^ 52) t) (sym (digits_in b)) ∙ sym (pattern_is (b % 2 ^ 63))

-- what a finite double's pattern says
pub record Pattern (x : Float) (b : ℕ) : Type 0 where
  pub width : b < 2 ^ 64
  pub field : b % 2 ^ 63 / 2 ^ 52 < 2047
  pub value : Is x (leb (2 ^ 63) b) (pattern_units (b % 2 ^ 63))

pub bits_pattern : (b : ℕ) → b < 2 ^ 64 → b % 2 ^ 63 / 2 ^ 52 < 2047 → Pattern (of_bits binary64 b) b
bits_pattern b w h = record {
  width = w;
  field = h;
  value =
      subst (λ (a : ℕ). Is (of_bits binary64 b) (leb (2 ^ 63) b) a) (without_sign b)
      (subst (λ (v : Float). Is v (leb (2 ^ 63) b) (field_units (b % 2 ^ 63 / 2 ^ 52) (b % 2 ^ 52))) (sym (of_bits_is b))
      (field_value (leb (2 ^ 63) b) (b % 2 ^ 63 / 2 ^ 52) (b % 2 ^ 52) h));
}

pub pattern_of : (x : Float) → T (fits binary64 x) → T (finite x) → Pattern x (to_bits binary64 x)
pattern_of x F p =
    let b = to_bits binary64 x in
    let is : of_bits binary64 b ≡ x = of_bits-to_bits binary64 x F in
    subst (λ (v : Float). Pattern v b) is
    (bits_pattern b (to_bits-lt binary64 x F)
    (field_lt (leb (2 ^ 63) b) (b % 2 ^ 63 / 2 ^ 52) (b % 2 ^ 52) (field_in b)
    (subst (λ (v : Float). T (finite v)) (sym is ∙ of_bits_is b) p)))

-- ---- a finite double is its sign and its units

signed_pattern : (s t : Bool) (m n : ℕ) (e d : ℤ) → s ≡ t → units_of (fin s m e) ≡ units_of (fin t n d) → to_bits binary64 (fin s m e) ≡ to_bits binary64 (fin t n d)
unfolding units_of one to_bits
signed_pattern s t m n e d h k = ap (λ (z : Bool). coded z (m * up e * 2 ^ 1074 / down e)) h ∙ ap (coded t) k
  where
    coded : Bool → ℕ → ℕ
    coded z u = cond z (2 ^ 63) 0 + (size u - 53) * 2 ^ 52 + u / 2 ^ (size u - 53)

pub same_units : (x y : Float) → T (fits binary64 x) → T (fits binary64 y) → T (finite x) → T (finite y) → negative x ≡ negative y → units_of x ≡ units_of y → x ≡ y
same_units nan y F G p q h k = absurd p
same_units (inf s) y F G p q h k = absurd p
same_units (fin s m e) nan F G p q h k = absurd q
same_units (fin s m e) (inf t) F G p q h k = absurd q
same_units (fin s m e) (fin t n d) F G p q h k =
    sym (of_bits-to_bits binary64 (fin s m e) F) ∙ ap (of_bits binary64) (signed_pattern s t m n e d h k) ∙ of_bits-to_bits binary64 (fin t n d) G

-- ---- the units of a finite double are q * 2 ^ k, with q of at most 53 digits

pub grid : (x t : ℕ) → t < 2 ^ 52 → (k : ℕ) × (q : ℕ) × (field_units x t ≡ q * 2 ^ k) × (q < 2 ^ 53)
unfolding field_units
grid zero t h = (0, t, sym (mul-one t), omega arith)
grid (suc j) t h = (j, 2 ^ 52 + t, refl, omega arith)

pub on_grid : (y : Float) → T (fits binary64 y) → T (finite y) → (k : ℕ) × (q : ℕ) × (units_of y ≡ q * 2 ^ k) × (q < 2 ^ 53)
on_grid y F p =
    let b = to_bits binary64 y in
    let z = pattern_of y F p in
    let c = b % (2 ^ 63) in
    let g = grid (c / 2 ^ 52) (c % 2 ^ 52) (mod-lt c (pow_pos 52)) in
    (g.0, g.1, units_is y (leb (2 ^ 63) b) (pattern_units c) z.value ∙ pattern_is c ∙ g.2, g.3)

field_small : (x t : ℕ) → x < 2047 → t < 2 ^ 52 → field_units x t < 2 ^ 2098
unfolding field_units
field_small zero t h l = lt_of_lt_of_le l (lit≤ tt)
field_small (suc j) t h l = lt_of_lt_of_le (shl_lt 53 j (lead t l)) (pow_mono (room j h))
  where
    lead : (t : ℕ) → t < 2 ^ 52 → 2 ^ 52 + t < 2 ^ 53
    lead t h = omega arith

    room : (j : ℕ) → suc j < 2047 → 53 + j ≤ 2098
    room j h = omega arith

pub units_small : (x : Float) → T (fits binary64 x) → T (finite x) → units_of x < 2 ^ 2098
units_small x F p =
    let b = to_bits binary64 x in
    let z = pattern_of x F p in
    let c = b % 2 ^ 63 in
    lt_of_le_of_lt (le_of_eq (units_is x (leb (2 ^ 63) b) (pattern_units c) z.value ∙ pattern_is c)) (field_small (c / 2 ^ 52) (c % 2 ^ 52) z.field (mod-lt c (pow_pos 52)))

-- from 2 ^ 53 units on they are even
pub units_even : (x : Float) → T (fits binary64 x) → T (finite x) → 2 ^ 53 ≤ units_of x → (h : ℕ) × (units_of x ≡ h + h)
units_even x F p l = let g = on_grid x F p in go (units_of x) g.0 g.1 g.2 g.3 l
  where
    no : (u q : ℕ) → u ≡ q * 1 → q < 2 ^ 53 → 2 ^ 53 ≤ u → ⊥
    no u q e a b = omega arith

    go : (u k q : ℕ) → u ≡ q * 2 ^ k → q < 2 ^ 53 → 2 ^ 53 ≤ u → (h : ℕ) × (u ≡ h + h)
    go u zero q e a b = absurd (no u q e a b)
    go u (suc k) q e a b = (q * 2 ^ k, e ∙ ap (λ (z : ℕ). q * z) (two-pow-succ k) ∙ mul-add q (2 ^ k) (2 ^ k))

-- ---- the pattern of q * 2 ^ h units, for a q of 53 digits or 2 ^ 53

carried : (h q x t : ℕ) → (q < 2 ^ 53) ⊎ (q ≡ 2 ^ 53) → 2 ^ 52 ≤ q → x ≡ (h * 2 ^ 52 + q) / 2 ^ 52 → t ≡ (h * 2 ^ 52 + q) % 2 ^ 52
    → ((x ≡ suc h) × (2 ^ 52 + t ≡ q)) ⊎ ((x ≡ suc (suc h)) × (t ≡ 0) × (q ≡ 2 ^ 53))
carried h q x t (inl l) g e f = inl (omega arith)
carried h q x t (inr l) g e f = inr (omega arith)

pub at : (x t : ℕ) → field_units (suc x) t ≡ (2 ^ 52 + t) * 2 ^ x
unfolding field_units
at x t = refl

pub written : (h q : ℕ) → 2 ^ 52 ≤ q → q ≤ 2 ^ 53 → pattern_units (h * 2 ^ 52 + q) ≡ q * 2 ^ h
written h q g l =
    let b = h * 2 ^ 52 + q in
    pattern_is b ∙ go (b / 2 ^ 52) (b % 2 ^ 52) (carried h q (b / 2 ^ 52) (b % 2 ^ 52) (split (eq-or-lt_of_le l)) g refl refl)
  where
    split : (q ≡ 2 ^ 53) ⊎ (q < 2 ^ 53) → (q < 2 ^ 53) ⊎ (q ≡ 2 ^ 53)
    split (inl e) = inr e
    split (inr e) = inl e

    go : (x t : ℕ) → ((x ≡ suc h) × (2 ^ 52 + t ≡ q)) ⊎ ((x ≡ suc (suc h)) × (t ≡ 0) × (q ≡ 2 ^ 53)) → field_units x t ≡ q * 2 ^ h
    go x t (inl p) = ap (λ (z : ℕ). field_units z t) p.0 ∙ at h t ∙ ap (λ (z : ℕ). z * 2 ^ h) p.1
    go x t (inr p) =
        ap (λ (z : ℕ). field_units z t) p.0 ∙ at (suc h) t ∙ ap (λ (z : ℕ). (2 ^ 52 + z) * 2 ^ suc h) p.1
        ∙ ap (λ (z : ℕ). 2 ^ 52 * z) (pow-succ' 2 h) ∙ sym (mul_assoc (2 ^ 52) 2 (2 ^ h)) ∙ ap (λ (z : ℕ). z * 2 ^ h) (sym p.2)

-- a pattern with no sign and not all ones in its exponent's field
pub plain_pattern : (b : ℕ) → b < 2047 * 2 ^ 52 → Is (of_bits binary64 b) false (pattern_units b)
plain_pattern b h =
    let z = bits_pattern b (omega arith) (omega arith) in
    subst (λ (s : Bool). Is (of_bits binary64 b) s (pattern_units b)) (is_false (leb (2 ^ 63) b) (lt→nleb (2 ^ 63) b (omega arith)))
    (subst (λ (c : ℕ). Is (of_bits binary64 b) (leb (2 ^ 63) b) (pattern_units c)) (mod-eq_of_lt (omega arith)) z.value)

pub no_nan : (x : Float) → T (finite x) → T (not (is_nan x))
unfolding is_nan
no_nan nan p = absurd p
no_nan (inf s) p = absurd p
no_nan (fin s m e) p = tt

pub no_nan_pattern : (b : ℕ) → T (finite (of_bits binary64 b)) → T (not (nan_bits binary64 b))
no_nan_pattern b p = subst (λ (t : Bool). T (not t)) (sym (nan_bits_is binary64 b)) (no_nan (of_bits binary64 b) p)

-- ---- the size of a pattern with no sign, by its exponent's field

pub small_pattern : (b : ℕ) → b / 2 ^ 52 ≡ 0 → pattern_units b ≡ b % 2 ^ 52
unfolding field_units
small_pattern b h = pattern_is b ∙ ap (λ (x : ℕ). field_units x (b % 2 ^ 52)) h

-- `written` for the smallest exponent too, where there may be no leading digit
pub placed : (h q : ℕ) → (0 < h → 2 ^ 52 ≤ q) → q ≤ 2 ^ 53 → pattern_units (h * 2 ^ 52 + q) ≡ q * 2 ^ h
placed zero q f l = elim (lt_or_ge q (2 ^ 52)) [
  | inl g ↦ small_pattern (0 * 2 ^ 52 + q) (field q g) ∙ digits q g
  | inr g ↦ written 0 q g l
]
  where
    field : (q : ℕ) → q < 2 ^ 52 → (0 * 2 ^ 52 + q) / 2 ^ 52 ≡ 0
    field q g = omega arith

    digits : (q : ℕ) → q < 2 ^ 52 → (0 * 2 ^ 52 + q) % 2 ^ 52 ≡ q * 1
    digits q g = omega arith
placed (suc h) q f l = written (suc h) q (f (zero-lt-suc h)) l

pub large_pattern : (b : ℕ) → (b / 2 ^ 52 ≡ 0 → ⊥) → (2 ^ 52 + b % 2 ^ 52) * 2 ^ (b / 2 ^ 52 + 1073) ≡ pattern_units b * 2 ^ 1074
large_pattern b n = go (b / 2 ^ 52) n ∙ ap (λ (x : ℕ). x * 2 ^ 1074) (sym (pattern_is b))
  where
    t : ℕ
    t = b % 2 ^ 52

    order : (j : ℕ) → suc j + 1073 ≡ j + 1074
    order j = omega arith

    go : (x : ℕ) → (x ≡ 0 → ⊥) → (2 ^ 52 + t) * 2 ^ (x + 1073) ≡ field_units x t * 2 ^ 1074
    go zero n = absurd (n refl)
    go (suc j) n = shift (2 ^ 52 + t) 1074 j (suc j + 1073) (order j) ∙ ap (λ (x : ℕ). x * 2 ^ 1074) (sym (at j t))
