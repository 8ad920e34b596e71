-- The root of a whole number drawn a digit at a time, as on paper. Nothing here is about doubles. Assumes nothing.
use mathlib.Core.Path.{◌≡◌, refl, sym, ap, ap₂, ◌∙◌, subst, subst₂}
use mathlib.Core.Logic.{inl, inr}
use Prim.Native.Nat.{ℕ, ◌+◌, ◌-◌, ◌*◌, ◌/◌, ◌%◌, ◌^◌, ◌≤◌, ◌<◌}
use native.Mathlib.Nat.{
  mul_assoc,
  add-mul,
  mul-add,
  add_comm,
  add-zero,
  zero-add,
  zero-mul,
  mul-le-mul,
  le_trans,
  lt_of_lt_of_le,
  lt_irrefl,
  div-lt_iff_lt-mul,
  div-div-eq-div-mul,
  div-eq_of_lt,
}
use native.Mathlib.Omega.{arith}
use lib.Dec.{leb}
use borrow.Author.Tests.{le-leb, lt-leb}
use mir.Val.{bool_byte}
use lib.Pow.{pow_pos, pow-add, pow_mono, shr-shr}
use lib.Bits.{bit_and, and_mask}
use Rattle.root.specs.Drawn.{WholeRoot, Drawn, Appended}
use Rattle.root.specs.Digits.{Digits}
use Rattle.root.proofs.Grid.{lt_or_ge, double, next_square}
use Rattle.root.proofs.WholeRoot.{halved}

-- ---- `Drawn` by a sum and a bound

pub drawn : (n r y : ℕ) → r * r + y ≡ n → y ≤ 2 * r → Drawn n r y
drawn n r y e l = record { largest = record { reaches = omega arith; next = omega (arith, next_square r) }; left = e }

-- nothing is brought down yet
undrawn : Drawn 0 0 0
undrawn = drawn 0 0 0 refl (omega arith)

-- "after each digit": from nothing on, the root of the 2 * k digits brought down
pub from_nothing : {k w r y : ℕ} → Appended k w 0 0 r y → Drawn w r y
from_nothing {k} {w} {r} {y} a = subst (λ (n : ℕ). Drawn n r y) (ap (λ (n : ℕ). n + w) (zero-mul (2 ^ (2 * k))) ∙ zero-add w) (a.drawn 0 undrawn)

-- ---- a step

module _ (r y p : ℕ) (B : y ≤ 2 * r) (P : p < 4) where
  pub digit_one : 4 * r + 1 ≤ 4 * y + p → Appended 1 p r y (2 * r + 1) (4 * y + p - (4 * r + 1))
  digit_one l = record {
    drawn = λ n d. drawn (n * 4 + p) (2 * r + 1) (4 * y + p - (4 * r + 1)) (omega (arith, next_square (2 * r), double r, d.left)) (omega arith);
    kept = omega arith;
  }

  pub digit_zero : 4 * y + p < 4 * r + 1 → Appended 1 p r y (2 * r) (4 * y + p)
  digit_zero l = record {
    drawn = λ n d. drawn (n * 4 + p) (2 * r) (4 * y + p) (omega (arith, double r, d.left)) (omega arith);
    kept = omega arith;
  }

-- as the code has it: R, t and z are the root moved up by one digit, 4 * root + 1, and the rest with the pair behind it
module _ {r y p R t z : ℕ} (B : y ≤ 2 * r) (P : p < 4) (R= : R ≡ 2 * r) (t= : t ≡ 4 * r + 1) (z= : z ≡ 4 * y + p) where
  pub append_one : t ≤ z → Appended 1 p r y (R + bool_byte (leb t z)) (z - t)
  append_one l = subst₂ (Appended 1 p r y) (sym (ap₂ ◌+◌ R= (ap bool_byte (le-leb t z l)))) (sym (ap₂ ◌-◌ z= t=)) (digit_one r y p B P (omega arith))

  pub append_zero : z < t → Appended 1 p r y (R + bool_byte (leb t z)) z
  append_zero l = subst₂ (Appended 1 p r y) (sym (ap₂ ◌+◌ R= (ap bool_byte (lt-leb t z l)) ∙ add-zero (2 * r))) (sym z=) (digit_zero r y p B P (omega arith))

-- ---- steps one after the other

none_appended : (root rest : ℕ) → Appended 0 0 root rest root rest
none_appended root rest = record { drawn = λ n d. subst (λ (m : ℕ). Drawn m root rest) (same n) d; kept = omega arith }
  where
    same : (n : ℕ) → n ≡ n * 1 + 0
    same n = omega arith

pub appended_then : {k w root rest r y j v r' y' : ℕ} → Appended k w root rest r y → Appended j v r y r' y' → Appended (k + j) (w * 2 ^ (2 * j) + v) root rest r' y'
appended_then {k} {w} {root} {rest} {r} {y} {j} {v} {r'} {y'} a b = record {
  drawn = λ n d. subst (λ (m : ℕ). Drawn m r' y') (behind n) (b.drawn (n * 2 ^ (2 * k) + w) (a.drawn n d));
  kept =
      ap (λ (x : ℕ). r' / x) (ap (λ (x : ℕ). 2 ^ x) (add_comm k j) ∙ pow-add 2 j k) ∙ sym (div-div-eq-div-mul r' (2 ^ j) (2 ^ k)) ∙ ap (λ (x : ℕ). x / 2 ^ k) b.kept ∙ a.kept;
}
  where
    digits : 2 ^ (2 * k) * 2 ^ (2 * j) ≡ 2 ^ (2 * (k + j))
    digits = sym (pow-add 2 (2 * k) (2 * j)) ∙ ap (λ (x : ℕ). 2 ^ x) (sym (mul-add 2 k j))

    behind : (n : ℕ) → (n * 2 ^ (2 * k) + w) * 2 ^ (2 * j) + v ≡ n * 2 ^ (2 * (k + j)) + (w * 2 ^ (2 * j) + v)
    behind n = omega (arith, add-mul (n * 2 ^ (2 * k)) w (2 ^ (2 * j)), mul_assoc n (2 ^ (2 * k)) (2 ^ (2 * j)) ∙ ap (λ (x : ℕ). n * x) digits)

-- what a further step asks: the rest is what the next square is above it
pub appended_below : {k w root rest r y : ℕ} → rest ≤ 2 * root → Appended k w root rest r y → y ≤ 2 * r
appended_below {k} {w} {root} {rest} {r} {y} l a =
    let d = a.drawn (root * root + rest) (drawn (root * root + rest) root rest refl l) in
    omega (arith, next_square r, d.left, d.largest.next)

-- and how large a root of k more digits is
pub appended_room : {k w root rest r y : ℕ} → Appended k w root rest r y → r < (root + 1) * 2 ^ k
appended_room {k} {w} {root} {rest} {r} {y} a = (div-lt_iff_lt-mul (pow_pos k)).0 (omega (arith, a.kept))

-- ---- the digits of a word: k pairs of them are brought down, and `left` pairs are not
pub record Down (root rest word pairs left r y : ℕ) : Type 0 where
  pub k : ℕ
  pub turns : k + left ≡ pairs
  pub digits : Appended k (word / 2 ^ (2 * left)) root rest r y

pub down_start : (root rest : ℕ) {word pairs : ℕ} → word < 2 ^ (2 * pairs) → Down root rest word pairs pairs root rest
down_start root rest h = record { k = 0; turns = omega arith; digits = subst (λ (x : ℕ). Appended 0 x root rest root rest) (sym (div-eq_of_lt h)) (none_appended root rest) }

-- the pair that comes next
pair_is : (word left : ℕ) → bit_and (word / 2 ^ (2 * left)) 3 ≡ word / 2 ^ (2 * left) % 4
pair_is word left = and_mask (word / 2 ^ (2 * left)) 2

-- what a step asks, and without what is known of the rest
pub down_room : {root rest word pairs left r y : ℕ} → Down root rest word pairs left r y → root < 2 ^ 30 → pairs ≤ 32 → 0 < left
    → (r < 2 ^ 61) × (bit_and (word / 2 ^ (2 * (left - 1))) 3 < 4)
down_room {root} {rest} {word} {pairs} {left} {r} {y} d h l m =
    (lt_of_lt_of_le (appended_room d.digits) (mul-le-mul up (pow_mono few)), omega (arith, pair_is word (left - 1)))
  where
    up : root + 1 ≤ 2 ^ 30
    up = omega arith

    few : d.k ≤ 31
    few = omega (arith, d.turns)

pub down_asks : {root rest word pairs left r y : ℕ} → Down root rest word pairs left r y → rest ≤ 2 * root → root < 2 ^ 30 → pairs ≤ 32 → 0 < left
    → (r < 2 ^ 61) × (y ≤ 2 * r) × (bit_and (word / 2 ^ (2 * (left - 1))) 3 < 4)
down_asks d b h l m =
    let a = down_room d h l m in
    (a.0, appended_below b d.digits, a.1)

pub down_step : {root rest word pairs left r y r' y' : ℕ} → Down root rest word pairs left r y → 0 < left → Appended 1 (bit_and (word / 2 ^ (2 * (left - 1))) 3) r y r' y'
    → Down root rest word pairs (left - 1) r' y'
down_step {root} {rest} {word} {pairs} {left} {r} {y} {r'} {y'} d l a = record {
  k = d.k + 1;
  turns = omega (arith, d.turns);
  digits = subst (λ (x : ℕ). Appended (d.k + 1) x root rest r' y') split (appended_then d.digits a);
}
  where
    q : ℕ
    q = word / 2 ^ (2 * (left - 1))

    before : word / 2 ^ (2 * left) ≡ q / 4
    before = ap (λ (x : ℕ). word / 2 ^ x) (two left l) ∙ sym (shr-shr word (2 * (left - 1)) 2)
      where
        two : (left : ℕ) → 0 < left → 2 * left ≡ 2 * (left - 1) + 2
        two left l = omega arith

    split : word / 2 ^ (2 * left) * 4 + bit_and q 3 ≡ q
    split = omega (arith, before, pair_is word (left - 1))

pub down_end : {root rest word pairs left r y : ℕ} → Down root rest word pairs left r y → left ≤ 0 → Appended pairs word root rest r y
down_end {root} {rest} {word} {pairs} {left} {r} {y} d l = subst (λ (x : ℕ). Appended x word root rest r y) all (subst (λ (x : ℕ). Appended d.k x root rest r y) whole d.digits)
  where
    none : left ≡ 0
    none = omega arith

    all : d.k ≡ pairs
    all = omega (arith, d.turns)

    whole : word / 2 ^ (2 * left) ≡ word
    whole = ap (λ (x : ℕ). word / 2 ^ (2 * x)) none ∙ one word
      where
        one : (w : ℕ) → w / 1 ≡ w
        one w = omega arith

-- ---- from the digits of a root twice as large to the nearest whole number

-- at a last digit of 0 and of 1
even_digits : (n p : ℕ) → WholeRoot (4 * n) (2 * p) → 2 ^ 52 ≤ p → p ≤ 2 ^ 53 → Digits n p
even_digits n p w l m = record { over = omega (arith, w, double p, next_square (2 * p)); under = omega (arith, w, double p); least = l; most = m }

odd_digits : (n p : ℕ) → WholeRoot (4 * n) (2 * p + 1) → 2 ^ 52 ≤ p + 1 → p + 1 ≤ 2 ^ 53 → Digits n (p + 1)
odd_digits n p w l m = record {
  over = omega (arith, w, double p, next_square (2 * p), next_square (2 * p + 1), next_square p);
  under = omega (arith, w, double p, next_square (2 * p), next_square p);
  least = l;
  most = m;
}

nearest_digits : (n q : ℕ) → WholeRoot (4 * n) q → 2 ^ 53 ≤ q → q < 2 ^ 54 → Digits n ((q + 1) / 2)
nearest_digits n q w l m = elim (halved q) [
  | inl e ↦ subst (Digits n) (sym (half_even q e.0 e.1)) (even_digits n e.0 (subst (λ (x : ℕ). WholeRoot (4 * n) x) e.1 w) (omega (arith, e.1)) (omega (arith, e.1)))
  | inr e ↦ subst (Digits n) (sym (half_odd q e.0 e.1)) (odd_digits n e.0 (subst (λ (x : ℕ). WholeRoot (4 * n) x) e.1 w) (omega (arith, e.1)) (omega (arith, e.1)))
]
  where
    half_even : (q p : ℕ) → q ≡ 2 * p → (q + 1) / 2 ≡ p
    half_even q p e = omega arith

    half_odd : (q p : ℕ) → q ≡ 2 * p + 1 → (q + 1) / 2 ≡ p + 1
    half_odd q p e = omega arith

-- a root of a number of at least 2 ^ 106 has 54 digits
enough : (n q : ℕ) → WholeRoot n q → 2 ^ 106 ≤ n → 2 ^ 53 ≤ q
enough n q w h = elim (lt_or_ge q (2 ^ 53)) [
  | inl l ↦ absurd (lt_irrefl n (lt_of_lt_of_le w.next (le_trans (mul-le-mul (up q l) (up q l)) h)))
  | inr l ↦ l
]
  where
    up : (q : ℕ) → q < 2 ^ 53 → q + 1 ≤ 2 ^ 53
    up q l = omega arith

-- the root of m * 2 ^ 54, drawn in two words
pub root_digits : {m r y r' y' : ℕ} → 2 ^ 52 ≤ m → Appended 27 m 0 0 r y → Appended 27 0 r y r' y' → Digits (m * 2 ^ 52) ((r' + 1) / 2)
root_digits {m} {r} {y} {r'} {y'} h a b =
    let c = appended_then a b in
    let w : WholeRoot (4 * (m * 2 ^ 52)) r' = subst (λ (n : ℕ). WholeRoot n r') (whole m) (from_nothing c).largest in
    nearest_digits (m * 2 ^ 52) r' w (enough (4 * (m * 2 ^ 52)) r' w (omega arith)) (appended_room c)
  where
    whole : (m : ℕ) → m * 2 ^ 54 + 0 ≡ 4 * (m * 2 ^ 52)
    whole m = omega arith
