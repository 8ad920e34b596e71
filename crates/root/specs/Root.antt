-- The square root (document 01, module 1): "the double nearest the exact root, for every finite number not below zero (-0.0 of -0.0)". Assumes nothing.
--   rootable        finite and not below zero; -0 is not
--   IsRoot x r      r is nearer to the root of x than every other double
--   whole_root       the largest whole number whose square is at most n
--   root            the root, computed
--   Rooted x r      both: what `sqrt` promises. That only one double meets IsRoot, and that it is `root x`, are laws (proofs/Root.antt, proofs/Computed.antt)
use Rattle.std.specs.Prelude.{ℕ, zero, suc, ◌+◌, ◌*◌, ◌/◌, ◌<◌, ◌≡◌, Bool, false, cond, not, ◌||◌, T, leb, eqb, Float}
use Rattle.std.specs.Float.{nan, inf, fin, binary64}
use Rattle.std.specs.Float.Ieee.{round, fits}
use Rattle.root.specs.Doubles.{finite, negative, one, units_of}

abbrev pub rootable : Float → Bool
rootable nan = false
rootable (inf s) = false
rootable (fin s m e) = not s || eqb m 0

-- In units the square of the root is units_of x * one. The root is nearer to r than to y where it lies on r's side of the middle between them,
-- which is (units_of r + units_of y) / 2: so "no tie" is part of what is said. Squared, no root is left.
pub record IsRoot (x r : Float) : Type 0 where
  pub is_finite : T (finite r)
  pub sign : negative r ≡ negative x
  pub above : (y : Float) → T (fits binary64 y) → T (finite y) → units_of r < units_of y → 4 * (units_of x * one) < (units_of r + units_of y) * (units_of r + units_of y)
  pub below : (y : Float) → T (fits binary64 y) → T (finite y) → units_of y < units_of r → (units_of r + units_of y) * (units_of r + units_of y) < 4 * (units_of x * one)

-- for an n below 4 ^ k: a binary digit of the root for every two of n
unfoldable pub whole_root : ℕ → ℕ → ℕ
whole_root zero n = 0
whole_root (suc k) n = let r = 2 * whole_root k (n / 4) in cond (leb ((r + 1) * (r + 1)) n) (r + 1) r

-- The square n of a root in units is below 4 ^ 1586. Between r and r + 1 units the root rounds as r + 1 / 2 does, since doubles of
-- that size, and the middles between them, are whole numbers of units.
unfoldable pub root_of_square : Bool → ℕ → Float
root_of_square s n = let r = whole_root 1586 n in round binary64 s (2 * r + cond (eqb (r * r) n) 0 1) (2 * one)

unfoldable pub root : Float → Float
root x = root_of_square (negative x) (units_of x * one)

pub record Rooted (x r : Float) : Type 0 where
  pub nearest : IsRoot x r
  pub computed : r ≡ root x
