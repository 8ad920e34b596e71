-- What follows from `IsRoot` alone, for those who call `sqrt`: the root is one double only, an exact root is found, and a bound on x bounds its root. Assumes nothing.
use mathlib.Core.Path.{◌≡◌, sym, ap, ◌∙◌}
use mathlib.Core.Logic.{inl, inr}
use Prim.Native.Nat.{ℕ, ◌+◌, ◌*◌, ◌^◌, ◌≤◌, ◌<◌}
use native.Mathlib.Nat.{mul_assoc, mul-mul-mul_comm, mul-le-mul_left, mul-le-mul_right, le_trans, le_of_eq, le_of_lt, le_antisymm, lt_of_lt_of_le, lt_of_le_of_lt, lt_irrefl, add-mul, mul-add}
use native.Mathlib.Omega.{arith}
use mathlib.Core.Bool.{false}
use lib.Dec.{T}
use lib.Ieee.{Float, binary64, fits, round}
use lib.Ieee.Fits.{round-fits}
use Rattle.root.specs.Doubles.{finite, one, units_of}
use Rattle.root.specs.Bounds.{Within}
use Rattle.root.specs.Root.{IsRoot}
use Rattle.root.proofs.Grid.{lt_or_ge, sq_lt}
use Rattle.root.proofs.Patterns.{Is, to_units, units_is, finite_is, same_units}
use Rattle.root.proofs.Bounds.{Held, within_units, units_within}

-- only one double meets `IsRoot`: neither of two can lie below the other
pub root_unique : (x r r' : Float) → T (fits binary64 r) → T (fits binary64 r') → IsRoot x r → IsRoot x r' → r ≡ r'
root_unique x r r' F F' a b = same_units r r' F F' a.is_finite b.is_finite (a.sign ∙ sym b.sign) (le_antisymm (no r r' F F' a b) (no r' r F' F b a))
  where
    clash : (n s t : ℕ) → n < s → t < n → s ≡ t → ⊥
    clash n s t p q e = omega arith

    sides : (a b : ℕ) → (a + b) * (a + b) ≡ (b + a) * (b + a)
    sides a b = ap (λ (z : ℕ). z * z) (flip a b)
      where
        flip : (a b : ℕ) → a + b ≡ b + a
        flip a b = omega arith

    no : (r s : Float) → T (fits binary64 r) → T (fits binary64 s) → IsRoot x r → IsRoot x s → units_of r ≤ units_of s
    no r s F G a b = elim (lt_or_ge (units_of s) (units_of r)) [
      | inl l ↦ absurd (clash (4 * (units_of x * one)) ((units_of s + units_of r) * (units_of s + units_of r)) ((units_of r + units_of s) * (units_of r + units_of s)) (b.above r F a.is_finite l)
          (a.below s G b.is_finite l) (sides (units_of s) (units_of r)))
      | inr l ↦ l
    ]

-- 4 * (a * a) is (a + a) ^ 2
four : (a : ℕ) → 4 * (a * a) ≡ (a + a) * (a + a)
four a = simp (add-mul, mul-add) (omega arith)

-- r is at most any double y whose square is x or more
pub root_le : (x r y : Float) → IsRoot x r → T (fits binary64 y) → T (finite y) → units_of x * one ≤ units_of y * units_of y → units_of r ≤ units_of y
root_le x r y a F p h = elim (lt_or_ge (units_of y) (units_of r)) [
  | inl l ↦ absurd (lt_irrefl (4 * (units_of x * one)) (lt_of_le_of_lt
      (le_trans (mul-le-mul_left 4 h) (le_trans (le_of_eq (four (units_of y))) (le_of_lt (sq_lt (units_of y + units_of y) (units_of r + units_of y) (more (units_of y) (units_of r) l)))))
      (a.below y F p l)))
  | inr l ↦ l
]
  where
    more : (a b : ℕ) → a < b → a + a < b + a
    more a b l = omega arith

-- and at least any double whose square is x or less
pub root_ge : (x r y : Float) → IsRoot x r → T (fits binary64 y) → T (finite y) → units_of y * units_of y ≤ units_of x * one → units_of y ≤ units_of r
root_ge x r y a F p h = elim (lt_or_ge (units_of r) (units_of y)) [
  | inl l ↦ absurd (lt_irrefl (4 * (units_of x * one)) (lt_of_lt_of_le (a.above y F p l)
      (le_trans (le_of_lt (sq_lt (units_of r + units_of y) (units_of y + units_of y) (more (units_of y) (units_of r) l))) (le_trans (le_of_eq (sym (four (units_of y)))) (mul-le-mul_left 4 h)))))
  | inr l ↦ l
]
  where
    more : (a b : ℕ) → b < a → b + a < a + a
    more a b l = omega arith

pub root_exact : (x r y : Float) → IsRoot x r → T (fits binary64 y) → T (finite y) → units_of y * units_of y ≡ units_of x * one → units_of r ≡ units_of y
root_exact x r y a F p h = le_antisymm (root_le x r y a F p (le_of_eq (sym h))) (root_ge x r y a F p (le_of_eq h))

-- a bound on x bounds its root
pub root_within : (x r : Float) (B : ℕ) → IsRoot x r → T (fits binary64 r) → Held binary64 B → Within (B * B) x → Within B r
unfolding one
root_within x r B a F R h =
    let y = round binary64 false B 1 in
    let v : Is y false (B * 2 ^ 1074) = to_units y false B (2 ^ 1074) R in
    let e : units_of y ≡ B * 2 ^ 1074 = units_is y false (B * 2 ^ 1074) v in
    units_within B r F a.is_finite
    (le_trans (root_le x r y a (round-fits binary64 false B 1) (finite_is y false (B * 2 ^ 1074) v)
    (le_trans (mul-le-mul_right (2 ^ 1074) (within_units (B * B) x h))
    (le_of_eq (mul_assoc (B * B) (2 ^ 1074) (2 ^ 1074) ∙ mul-mul-mul_comm B B (2 ^ 1074) (2 ^ 1074) ∙ ap (λ (z : ℕ). z * z) (sym e))))) (le_of_eq e))
