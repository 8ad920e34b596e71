-- The total order of doubles that are no NaN: `before` is the order of their keys, and only equal doubles have equal keys. Assumes nothing.
use mathlib.Core.Path.{◌≡◌, refl, sym, ap, ◌∙◌, subst}
use mathlib.Core.Logic.{inl, inr}
use mathlib.Core.Bool.{Bool, true, false, not, cond, ◌&&◌, ◌||◌}
use Prim.Native.Nat.{ℕ, zero, suc, ◌+◌, ◌-◌, ◌%◌, ◌^◌, ◌≤◌, ◌<◌}
use native.Mathlib.Nat.{mod-lt, mod-eq_of_lt, le_antisymm, lt_irrefl, lt_trans}
use native.Mathlib.Omega.{arith}
use lib.Dec.{T, ltb, ltb→lt, lt→ltb, nltb→le, not_T}
use lib.Pow.{pow_pos}
use lib.Ieee.{Float, binary64, below, level, fits, eq, of_bits, to_bits, is_nan}
use lib.Ieee.Bits.{of_bits-to_bits, to_bits-lt, is_true, is_false}
use Rattle.root.specs.Doubles.{negative, before}
use Rattle.root.proofs.Grid.{lt_or_ge}
use Rattle.root.proofs.Doubles.{same_test}
use Rattle.root.proofs.Order.{unsigned, lt_patterns, eq_patterns}
use Rattle.rounding.specs.Ordering.{order_key}
use Rattle.rounding.proofs.Rounding.{plus, minus}

-- ---- the key, by the pattern

pub key_plus : (x : Float) → to_bits binary64 x < 2 ^ 63 → 2 ^ 63 + to_bits binary64 x ≡ order_key x
unfolding order_key
key_plus x h =
    ap (λ (k : Bool). cond k (2 ^ 63 + to_bits binary64 x) (2 ^ 64 - 1 - to_bits binary64 x))
    (sym (is_true (ltb (to_bits binary64 x) (2 ^ 63)) (lt→ltb (to_bits binary64 x) (2 ^ 63) h)))

pub key_minus : (x : Float) → 2 ^ 63 ≤ to_bits binary64 x → 2 ^ 64 - 1 - to_bits binary64 x ≡ order_key x
unfolding order_key
key_minus x h =
    ap (λ (k : Bool). cond k (2 ^ 63 + to_bits binary64 x) (2 ^ 64 - 1 - to_bits binary64 x))
    (sym (is_false (ltb (to_bits binary64 x) (2 ^ 63)) (not_T (ltb (to_bits binary64 x) (2 ^ 63)) (λ t. no (to_bits binary64 x) (ltb→lt (to_bits binary64 x) (2 ^ 63) t) h))))
  where
    no : (b : ℕ) → b < 2 ^ 63 → 2 ^ 63 ≤ b → ⊥
    no b l h = omega arith

-- the key of a sign and the rest of a pattern
abbrev coded : Bool → ℕ → ℕ
coded s a = cond s (2 ^ 63 - 1 - a) (2 ^ 63 + a)

key_coded : (x : Float) → T (fits binary64 x) → T (not (is_nan x)) → order_key x ≡ coded (negative x) (unsigned x)
key_coded x F n = elim (lt_or_ge b (2 ^ 63)) [
  | inl h ↦ sym (key_plus x h) ∙ ap (λ (k : ℕ). 2 ^ 63 + k) (sym (mod-eq_of_lt h)) ∙ ap (λ (s : Bool). coded s (unsigned x)) (sym (plus x F n h))
  | inr h ↦ sym (key_minus x h) ∙ off b h (to_bits-lt binary64 x F) ∙ ap (λ (s : Bool). coded s (unsigned x)) (sym (minus x F n h))
]
  where
    b : ℕ
    b = to_bits binary64 x

    off : (b : ℕ) → 2 ^ 63 ≤ b → b < 2 ^ 64 → 2 ^ 64 - 1 - b ≡ 2 ^ 63 - 1 - b % 2 ^ 63
    off b h l = omega arith

-- ---- the order

no_and : (k : Bool) → k && false ≡ false
no_and true = refl
no_and false = refl

or_no : (p k : Bool) → p || (k && false) ≡ p
or_no true k = refl
or_no false k = no_and k

same_ltb : (a b c d : ℕ) → (a < b → c < d) → (c < d → a < b) → ltb a b ≡ ltb c d
same_ltb a b c d f g = same_test (ltb a b) (ltb c d) (λ t. lt→ltb c d (f (ltb→lt a b t))) (λ t. lt→ltb a b (g (ltb→lt c d t)))

-- one of the two holds: the sum is above 0, or both are 0
zeros : (a b : ℕ) → T (ltb 0 (a + b) || (level true a false b && true))
zeros zero zero = tt
zeros zero (suc b) = or_l (ltb 0 (zero + suc b)) (level true zero false (suc b) && true) (lt→ltb 0 (zero + suc b) (omega arith))
  where
    or_l : (p q : Bool) → T p → T (p || q)
    or_l true q h = tt
    or_l false q h = elim h [ ]
zeros (suc a) b = or_l (ltb 0 (suc a + b)) (level true (suc a) false b && true) (lt→ltb 0 (suc a + b) (omega arith))
  where
    or_l : (p q : Bool) → T p → T (p || q)
    or_l true q h = tt
    or_l false q h = elim h [ ]

module _ (a b : ℕ) (h : a < 2 ^ 63) (k : b < 2 ^ 63) where
  coded_before : (s t : Bool) → below s a t b || (level s a t b && (s && not t)) ≡ ltb (coded s a) (coded t b)
  coded_before false false = or_no (ltb a b) (level false a false b) ∙ same_ltb a b (2 ^ 63 + a) (2 ^ 63 + b) (λ l. omega arith) (λ l. omega arith)
  coded_before false true =
      no_and (level false a true b) ∙ sym (is_false (ltb (2 ^ 63 + a) (2 ^ 63 - 1 - b))
      (not_T (ltb (2 ^ 63 + a) (2 ^ 63 - 1 - b)) (λ t. no (ltb→lt (2 ^ 63 + a) (2 ^ 63 - 1 - b) t))))
    where
      no : 2 ^ 63 + a < 2 ^ 63 - 1 - b → ⊥
      no l = omega arith
  coded_before true false =
      is_true (ltb 0 (a + b) || (level true a false b && true)) (zeros a b) ∙ sym (is_true (ltb (2 ^ 63 - 1 - a) (2 ^ 63 + b)) (lt→ltb (2 ^ 63 - 1 - a) (2 ^ 63 + b) (omega arith)))
  coded_before true true = or_no (ltb b a) (level true a true b) ∙ same_ltb b a (2 ^ 63 - 1 - a) (2 ^ 63 - 1 - b) (λ l. omega arith) (λ l. omega arith)

module _ (x y : Float) (F : T (fits binary64 x)) (G : T (fits binary64 y)) (p : T (not (is_nan x))) (q : T (not (is_nan y))) where
  pub before_keys : before x y ≡ ltb (order_key x) (order_key y)
  unfolding before
  before_keys =
      ap (λ (k : Bool). k || (eq x y && (negative x && not (negative y)))) (lt_patterns x y F G p q)
      ∙ ap (λ (k : Bool). below (negative x) (unsigned x) (negative y) (unsigned y) || (k && (negative x && not (negative y)))) (eq_patterns x y F G p q)
      ∙ coded_before (unsigned x) (unsigned y) (mod-lt (to_bits binary64 x) (pow_pos 63)) (mod-lt (to_bits binary64 y) (pow_pos 63)) (negative x) (negative y)
      ∙ ap (λ (k : ℕ). ltb k (coded (negative y) (unsigned y))) (sym (key_coded x F p))
      ∙ ap (λ (k : ℕ). ltb (order_key x) k) (sym (key_coded y G q))

  pub same_key_lem : order_key x ≡ order_key y → x ≡ y
  same_key_lem e = sym (of_bits-to_bits binary64 x F) ∙ ap (of_bits binary64) bits ∙ of_bits-to_bits binary64 y G
    where
      a : ℕ
      a = to_bits binary64 x

      b : ℕ
      b = to_bits binary64 y

      bits : a ≡ b
      bits = elim (lt_or_ge a (2 ^ 63)) [
        | inl h ↦ elim (lt_or_ge b (2 ^ 63)) [
          | inl k ↦ both a b (key_plus x h ∙ e ∙ sym (key_plus y k))
          | inr k ↦ absurd (no a b (key_plus x h ∙ e ∙ sym (key_minus y k)) k)
        ]
        | inr h ↦ elim (lt_or_ge b (2 ^ 63)) [
          | inl k ↦ absurd (no b a (key_plus y k ∙ sym e ∙ sym (key_minus x h)) h)
          | inr k ↦ rest a b (to_bits-lt binary64 x F) (to_bits-lt binary64 y G) (key_minus x h ∙ e ∙ sym (key_minus y k))
        ]
      ]
        where
          both : (a b : ℕ) → 2 ^ 63 + a ≡ 2 ^ 63 + b → a ≡ b
          both a b e = omega arith

          no : (a b : ℕ) → 2 ^ 63 + a ≡ 2 ^ 64 - 1 - b → 2 ^ 63 ≤ b → ⊥
          no a b e h = omega arith

          rest : (a b : ℕ) → a < 2 ^ 64 → b < 2 ^ 64 → 2 ^ 64 - 1 - a ≡ 2 ^ 64 - 1 - b → a ≡ b
          rest a b h k e = omega arith

-- ---- a strict total order of the doubles that are no NaN

-- a double, and no NaN
pub record Number (x : Float) : Type 0 where
  pub held : T (fits binary64 x)
  pub number : T (not (is_nan x))

module _ {x y : Float} (a : Number x) (b : Number y) where
  pub before_less : T (before x y) → order_key x < order_key y
  before_less h = ltb→lt (order_key x) (order_key y) (subst T (before_keys x y a.held b.held a.number b.number) h)

  pub less_before : order_key x < order_key y → T (before x y)
  less_before h = subst T (sym (before_keys x y a.held b.held a.number b.number)) (lt→ltb (order_key x) (order_key y) h)

  pub before_total : T (not (before x y)) → T (not (before y x)) → x ≡ y
  before_total h k =
      same_key_lem x y a.held b.held a.number b.number
      (le_antisymm
      (nltb→le (order_key y) (order_key x) (subst (λ (t : Bool). T (not t)) (before_keys y x b.held a.held b.number a.number) k))
      (nltb→le (order_key x) (order_key y) (subst (λ (t : Bool). T (not t)) (before_keys x y a.held b.held a.number b.number) h)))

pub before_irrefl : {x : Float} → Number x → T (before x x) → ⊥
before_irrefl {x} a h = lt_irrefl (order_key x) (before_less a a h)

pub before_trans : {x y z : Float} → Number x → Number y → Number z → T (before x y) → T (before y z) → T (before x z)
before_trans a b c h k = less_before a c (lt_trans (before_less a b h) (before_less b c k))
