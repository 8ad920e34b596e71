-- The two tests before a root are `rootable`, and those before a length are the bounds that it asks. Assumes nothing.
use mathlib.Core.Path.{◌≡◌, refl, sym, ap, ap₂, ◌∙◌, subst}
use mathlib.Core.Bool.{Bool, true, false, ◌&&◌, ◌||◌}
use Prim.Native.Nat.{ℕ, zero, suc, ◌*◌, ◌^◌, ◌<◌}
use native.Mathlib.Nat.{zero-mul, mul-pos, zero-lt-suc}
use native.Mathlib.Omega.{arith}
use lib.IntN.{ℤ, pos}
use lib.Dec.{T, T_not, eqb, ltb, lt→ltb, eqb→eq}
use lib.Ieee.{Float, nan, inf, fin, binary64, up, down, div, neg, lt, le, eq, of_bits}
use lib.Ieee.Fits.{up_pos, and_l, and_r}
use Rattle.root.specs.Doubles.{zero_f, one_f}
use Rattle.root.specs.Bounds.{Within}
use Rattle.root.specs.Root.{rootable}
use Rattle.root.proofs.Bounds.{within_tests}
use Rattle.hypot.specs.Length.{Measured}
use Rattle.leaf_exports.specs.Exports.{in_reach, LengthOr}

infinity_is : div binary64 one_f zero_f ≡ inf false
unfolding div of_bits
infinity_is = refl

zero_is : zero_f ≡ fin false 0 (pos 0)
unfolding of_bits
zero_is = refl

-- Of the numbers with a sign only -0 is not below 0.
minus : (m : ℕ) (e : ℤ) → T (le (fin false 0 (pos 0)) (fin true m e)) → T (eqb m 0)
unfolding le lt eq
minus zero e h = tt
minus (suc m) e h =
    absurd (no (0 * 1 * down e) (suc m * up e * 1) (mul-pos (mul-pos (zero-lt-suc m) (up_pos e)) (zero-lt-suc 0)) (zero-mul (down e))
    (eqb→eq (0 * 1 * down e) (suc m * up e * 1) (and_l (eqb (0 * 1 * down e) (suc m * up e * 1)) (false || eqb (0 * 1 * down e) 0) h)))
  where
    no : (a b : ℕ) → 0 < b → a ≡ 0 → a ≡ b → ⊥
    no a b h z e = omega arith

tests : (x : Float) → T (le (fin false 0 (pos 0)) x) → T (lt x (inf false)) → T (rootable x)
unfolding le lt eq
tests nan a b = a
tests (inf true) a b = a
tests (inf false) a b = b
tests (fin false m e) a b = tt
tests (fin true m e) a b = minus m e a

pub passes : (x : Float) → le zero_f x ≡ true → lt x (div binary64 one_f zero_f) ≡ true → T (rootable x)
passes x a b = tests x (subst (λ (z : Float). T (le z x)) zero_is (subst T (sym a) tt)) (subst (λ (z : Float). T (lt x z)) infinity_is (subst T (sym b) tt))

-- a number that has a root passes both
or_left : (p q : Bool) → T p → T (p || q)
or_left true q h = tt
or_left false q h = elim h [ ]

at_least : (x : Float) → T (rootable x) → T (le (fin false 0 (pos 0)) x)
unfolding le lt eq
at_least nan r = r
at_least (inf s) r = absurd r
at_least (fin false m e) r = go (0 * 1 * down e) (m * up e * 1) (zero-mul (down e))
  where
    go : (a b : ℕ) → a ≡ 0 → T (ltb a b || (eqb a b && true))
    go zero zero z = tt
    go zero (suc b) z = or_left (ltb 0 (suc b)) (eqb 0 (suc b) && true) (lt→ltb 0 (suc b) (zero-lt-suc b))
    go (suc a) b z = absurd (no a z)
      where
        no : (a : ℕ) → suc a ≡ 0 → ⊥
        no a z = omega arith
at_least (fin true m e) r =
    subst (λ (k : ℕ). T (eqb (0 * 1 * down e) (k * up e * 1) && (false || eqb (0 * 1 * down e) 0))) (sym (eqb→eq m 0 r))
    (go (0 * 1 * down e) (0 * up e * 1) (zero-mul (down e)) (ap (λ (k : ℕ). k * 1) (zero-mul (up e))))
  where
    go : (a b : ℕ) → a ≡ 0 → b ≡ 0 → T (eqb a b && eqb a 0)
    go a b z w = subst (λ (k : ℕ). T (eqb k b && eqb k 0)) (sym z) (subst (λ (k : ℕ). T (eqb 0 k && true)) (sym w) tt)

under : (x : Float) → T (rootable x) → T (lt x (inf false))
unfolding lt
under nan r = r
under (inf s) r = absurd r
under (fin s m e) r = tt

pub first_fails : (x : Float) → le zero_f x ≡ false → T (rootable x) → ⊥
first_fails x h r = subst T (ap (λ (z : Float). le z x) (sym zero_is) ∙ h) (at_least x r)

pub second_fails : (x : Float) → lt x (div binary64 one_f zero_f) ≡ false → T (rootable x) → ⊥
second_fails x h r = subst T (ap (lt x) (sym infinity_is) ∙ h) (under x r)

-- ---- before a length

pub reaches : (x : Float) → in_reach x ≡ true → Within (2 ^ 1021) x
unfolding in_reach of_bits neg
reaches x e =
    let h = subst T (sym e) tt in
    let top = fin false 1 (pos 1021) in
    within_tests x 1 1021 (and_r (le (neg top) x) (le x top) h) (and_l (le (neg top) x) (le x top) h)

pub length_found : (x y : Float) {r : Float} → in_reach x ≡ true → in_reach y ≡ true → Measured x y r → LengthOr x y r
length_found x y a b m = record { found = λ _. m; other = λ p. absurd (T_not (in_reach x && in_reach y) p (subst T (sym (ap₂ ◌&&◌ a b)) tt)) }

pub length_other : (x y : Float) → in_reach x && in_reach y ≡ false → LengthOr x y x
length_other x y e = record { found = λ p. absurd (subst T e p); other = λ _. refl }
