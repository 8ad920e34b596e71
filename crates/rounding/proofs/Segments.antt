-- Up to a whole number, and the segments of an axis. Assumes nothing.
use mathlib.Core.Path.{◌≡◌, refl, sym, ap, ◌∙◌, subst}
use mathlib.Core.Bool.{Bool, true, false, not, cond, true≢false}
use Prim.Native.Nat.{ℕ, suc, ◌+◌, ◌-◌, ◌*◌, ◌/◌, ◌^◌, ◌≤◌, ◌<◌, min, max}
use native.Mathlib.Nat.{
  mul_comm,
  mul_assoc,
  mul-one,
  add-mul,
  mul-le-mul_right,
  mul-lt-mul_of_pos_right,
  mod-lt,
  div-add-mod',
  le_trans,
  le_of_eq,
  le_of_lt,
  lt_of_lt_of_le,
  lt_of_le_of_lt,
  suc-mul,
  lt_of_mul-lt-mul_right,
  min-eq_right,
}
use native.Mathlib.Omega.{arith}
use lib.IntN.{ℤ}
use lib.Dec.{T, ltb, ltb→lt, lt→ltb, nltb→le, lit<, lit≤}
use lib.Arith.{le→nltb, digits_div}
use lib.Pow.{pow_pos}
use lib.Ieee.{Float, nan, inf, fin, binary64, up, down, fits, lt, of_bits, of_int, round, to_unsigned}
use lib.Ieee.Bits.{is_true, is_false}
use lib.Ieee.Back.{unsigned_back}
use lib.Ieee.Fits.{down_pos}
use mir.Syntax.{w64}
use Rattle.std.specs.Prelude.{Option, None, Some}
use Rattle.std.specs.Float.{float_to_unsigned, round_with, ceil as up_to_whole}
use Rattle.root.specs.Doubles.{◌⊘◌, one, units_of, one_f}
use Rattle.root.proofs.Nearest.{own}
use Rattle.rounding.specs.Rounding.{at_most_256, ceil, whole_up, segments_over}
use Rattle.rounding.proofs.Rounding.{can_cast}

-- ---- n / d up to a whole number

-- c is the least whole number that is at least n / d
pub record Ceil (n d c : ℕ) : Type 0 where
  pub reaches : n ≤ c * d
  pub least : c * d < n + d

pub ceil_is : (n d : ℕ) → 0 < d → Ceil n d (ceil n d)
unfolding ceil
ceil_is n d D =
    let e = div-add-mod' (n + (d - 1)) d in
    let l = mod-lt (n + (d - 1)) D in
    record { reaches = omega (arith, e, l); least = omega (arith, e, l) }

pub ceil_unique : (n d c : ℕ) → Ceil n d c → ceil n d ≡ c
unfolding ceil
ceil_unique n d c h = ap (λ (k : ℕ). k / d) (split (c * d) n d h.reaches h.least) ∙ digits_div c (rest (c * d) n d h.reaches h.least)
  where
    split : (p n d : ℕ) → n ≤ p → p < n + d → n + (d - 1) ≡ p + (n + d - 1 - p)
    split p n d a b = omega arith

    rest : (p n d : ℕ) → n ≤ p → p < n + d → n + d - 1 - p < d
    rest p n d a b = omega arith

pub ceil_scaled : (n d p : ℕ) → 0 < d → 0 < p → ceil (n * p) (d * p) ≡ ceil n d
ceil_scaled n d p D P =
    let c = ceil n d in
    let h = ceil_is n d D in
    ceil_unique (n * p) (d * p) c (record {
      reaches = le_trans (mul-le-mul_right p h.reaches) (le_of_eq (mul_assoc c d p));
      least = lt_of_le_of_lt (le_of_eq (sym (mul_assoc c d p))) (lt_of_lt_of_le (mul-lt-mul_of_pos_right h.least P) (le_of_eq (add-mul n d p)));
    })

pub ceil_units : (s : Bool) (m : ℕ) (e : ℤ) → T (fits binary64 (fin s m e)) → ceil (m * up e) (down e) ≡ ceil (units_of (fin s m e)) one
unfolding one
ceil_units s m e F =
    sym (ceil_scaled (m * up e) (down e) (2 ^ 1074) (down_pos e) (pow_pos 1074))
    ∙ ap (λ (a : ℕ). ceil a (down e * 2 ^ 1074)) (own s m e F)
    ∙ ap (λ (a : ℕ). ceil (units_of (fin s m e) * down e) a) (mul_comm (down e) (2 ^ 1074))
    ∙ ceil_scaled (units_of (fin s m e)) (2 ^ 1074) (down e) (pow_pos 1074) (down_pos e)

-- ---- the segments

abbrev chosen : ℕ → Option ℕ
chosen k = at_most_256 (max 1 k)

chosen_at : (n m : ℕ) (b : Bool) → ltb 256 n ≡ b → n ≡ m → cond b None (Some m) ≡ cond (ltb 256 n) None (Some n)
chosen_at n m b e h = λ i. cond (sym e i) None (Some (sym h i))

chosen_many : (k : ℕ) → 257 ≤ k → None ≡ chosen k
chosen_many k h = chosen_at (max 1 k) (max 1 k) true (is_true (ltb 256 (max 1 k)) (lt→ltb 256 (max 1 k) (omega arith))) refl

chosen_one : (n k : ℕ) → max 1 k ≡ n → n ≤ 256 → Some n ≡ chosen k
chosen_one n k e h = chosen_at (max 1 k) n false (is_false (ltb 256 (max 1 k)) (le→nltb 256 (max 1 k) (omega (arith, e)))) e

chosen_none : (k : ℕ) → k ≤ 1 → Some 1 ≡ chosen k
chosen_none k h = chosen_one 1 k (omega arith) (omega arith)

chosen_some : (k : ℕ) → 1 ≤ k → k ≤ 256 → Some k ≡ chosen k
chosen_some k l h = chosen_one k k (omega arith) h

module _ (n d c : ℕ) (h : Ceil n d c) where
  above : (k : ℕ) → k * d < n → k < c
  above k l = lt_of_mul-lt-mul_right d (lt_of_lt_of_le l h.reaches)

  at_most : (k : ℕ) → n ≤ k * d → c ≤ k
  at_most k l = under (lt_of_mul-lt-mul_right d (lt_of_lt_of_le h.least (le_trans (more n (k * d) d l) (le_of_eq (sym (suc-mul k d))))))
    where
      more : (n p d : ℕ) → n ≤ p → n + d ≤ p + d
      more n p d l = omega arith

      under : c < suc k → c ≤ k
      under l = omega arith

-- more than 256
pub many : (q : Float) → lt (of_bits binary64 (1031 * 2 ^ 52)) q ≡ true → None ≡ chosen (whole_up q)
unfolding lt whole_up of_bits
many nan h = absurd (true≢false (sym h))
many (inf true) h = absurd (true≢false (sym h))
many (inf false) h = chosen_many (2 ^ 64 - 1) (lit≤ tt)
many (fin true m e) h = absurd (true≢false (sym h))
many (fin false m e) h =
    chosen_many (min (2 ^ 64 - 1) (ceil (m * up e) (down e))) (under (ceil (m * up e) (down e))
    (above (m * up e) (down e) (ceil (m * up e) (down e)) (ceil_is (m * up e) (down e) (down_pos e)) 256
    (lt_of_lt_of_le (ltb→lt (256 * down e) (m * up e * 1) (subst T (sym h) tt)) (le_of_eq (mul-one (m * up e))))))
  where
    under : (k : ℕ) → 256 < k → 257 ≤ min (2 ^ 64 - 1) k
    under k h = omega arith

-- one, or a number that is not above one
pub single : (q : Float) → lt one_f q ≡ false → Some 1 ≡ chosen (whole_up q)
unfolding lt whole_up of_bits
single nan h = chosen_none 0 (omega arith)
single (inf true) h = chosen_none 0 (omega arith)
single (inf false) h = absurd (true≢false h)
single (fin true m e) h = chosen_none 0 (omega arith)
single (fin false m e) h =
    chosen_none (min (2 ^ 64 - 1) (ceil (m * up e) (down e))) (under (ceil (m * up e) (down e))
    (at_most (m * up e) (down e) (ceil (m * up e) (down e)) (ceil_is (m * up e) (down e) (down_pos e)) 1
    (le_trans (le_of_eq (sym (mul-one (m * up e)))) (nltb→le (1 * down e) (m * up e * 1) (subst (λ (k : Bool). T (not k)) (sym h) tt)))))
  where
    under : (k : ℕ) → k ≤ 1 → min (2 ^ 64 - 1) k ≤ 1
    under k h = omega arith

-- ---- above one and at most 256: up to a whole number, which is a double

module _ (m : ℕ) (e : ℤ) (a : lt one_f (fin false m e) ≡ true) (h : lt (of_bits binary64 (1031 * 2 ^ 52)) (fin false m e) ≡ false) where
  abbrev k : ℕ
  k = ceil (m * up e) (down e)

  is_ceil : Ceil (m * up e) (down e) k
  is_ceil = ceil_is (m * up e) (down e) (down_pos e)

  more : 1 < k
  unfolding lt of_bits
  more = above (m * up e) (down e) k is_ceil 1 (lt_of_lt_of_le (ltb→lt (1 * down e) (m * up e * 1) (subst T (sym a) tt)) (le_of_eq (mul-one (m * up e))))

  few : k ≤ 256
  unfolding lt of_bits
  few =
      at_most (m * up e) (down e) k is_ceil 256
      (le_trans (le_of_eq (sym (mul-one (m * up e)))) (nltb→le (256 * down e) (m * up e * 1) (subst (λ (k : Bool). T (not k)) (sym h) tt)))

  same : (m * up e + down e - 1) / down e ≡ k
  unfolding ceil
  same = ap (λ (a : ℕ). a / down e) (split (m * up e) (down e) (down_pos e))
    where
      split : (n d : ℕ) → 0 < d → n + d - 1 ≡ n + (d - 1)
      split n d h = omega arith

  whole : to_unsigned 64 (round binary64 false ((m * up e + down e - 1) / down e) 1) ≡ k
  unfolding of_int
  whole = ap (λ (n : ℕ). to_unsigned 64 (round binary64 false n 1)) same ∙ (unsigned_back binary64 64 k (can_cast k (le_trans few (lit≤ tt))) (lt_of_le_of_lt few (lit< tt))).1

  capped : min (2 ^ 64 - 1) k ≡ k
  capped = let l = few in min-eq_right (le_trans l (lit≤ tt))

  some_fin : Some (to_unsigned 64 (round binary64 false ((m * up e + down e - 1) / down e) 1)) ≡ chosen (min (2 ^ 64 - 1) k)
  some_fin = ap Some whole ∙ chosen_some k (le_of_lt more) few ∙ ap chosen (sym capped)

pub some : (q : Float) → lt one_f q ≡ true → lt (of_bits binary64 (1031 * 2 ^ 52)) q ≡ false → Some (float_to_unsigned w64 (up_to_whole binary64 q)) ≡ chosen (whole_up q)
unfolding lt of_bits round_with whole_up
some nan a h = absurd (true≢false (sym a))
some (inf true) a h = absurd (true≢false (sym a))
some (inf false) a h = absurd (true≢false h)
some (fin true m e) a h = absurd (true≢false (sym a))
some (fin false m e) a h = some_fin m e a h

-- what the check of `axis_segments` applies
pub ruleset segments_laws = (many, single, some)

pub segments_some : (length spacing : Float) → 1 ≤ segments_over length spacing
unfolding segments_over
segments_some length spacing = at_least (whole_up (length ⊘ spacing))
  where
    at_least : (k : ℕ) → 1 ≤ max 1 k
    at_least k = omega arith
