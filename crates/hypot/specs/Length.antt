-- The length of a segment with the extents x and y (document 02, E3): "the double nearest the exact root of the exact sum, the even one where two are equally near".
-- In whole units of 2 ^ -1074, doubled and squared, so that no root and no half is left. Assumes nothing.
--   four_squares x y     the square of twice the root of the sum
--   four_middle r z      the square of twice the middle between two doubles
--   IsHypot x y r       no double is nearer to the root than r; where another is as near, r is the even one. Only one double is so (`hypot_unique`, proofs/Length.antt)
--   more, hypotenuse    the length, computed
--   Measured x y r      both: what `hypot` promises. That `hypotenuse x y` meets IsHypot is a law (`hypotenuse_meets`, proofs/Computed.antt)
use Rattle.std.specs.Prelude.{ℕ, ◌+◌, ◌*◌, ◌%◌, ◌≤◌, ◌<◌, ◌≡◌, false, cond, T, eqb, Float}
use Rattle.std.specs.Float.{binary64}
use Rattle.std.specs.Float.Ieee.{fits, round, to_bits}
use Rattle.root.specs.Doubles.{finite, negative, one, units_of}
use Rattle.root.specs.Root.{whole_root}

abbrev pub four_squares : Float → Float → ℕ
four_squares x y = 4 * (units_of x * units_of x + units_of y * units_of y)

abbrev pub four_middle : Float → Float → ℕ
four_middle r z = (units_of r + units_of z) * (units_of r + units_of z)

-- The root is no nearer to z than to r where it lies on r's side of the middle between them, or on it. The root of one double is never on a middle, and `IsRoot`
-- (root/Root) says so; a length can be, of whole extents with a whole length of 54 binary digits. So "no tie" may not be said here, and `even` says which of the
-- two it is then: the one whose pattern ends in 0.
pub record IsHypot (x y r : Float) : Type 0 where
  pub is_finite : T (finite r)
  pub sign : negative r ≡ false
  pub above : (z : Float) → T (fits binary64 z) → T (finite z) → units_of r < units_of z → four_squares x y ≤ four_middle r z
  pub below : (z : Float) → T (fits binary64 z) → T (finite z) → units_of z < units_of r → four_middle r z ≤ four_squares x y
  pub even : (z : Float) → T (fits binary64 z) → T (finite z) → (units_of r ≡ units_of z → ⊥) → four_squares x y ≡ four_middle r z → to_bits binary64 r % 2 ≡ 0

-- is the root of n more than r?
abbrev pub more : ℕ → ℕ → ℕ
more n r = cond (eqb (r * r) n) 0 1

-- Twice the root is r units, or lies between r and r + 1: there it rounds as r + 1 / 2 does, since twice a middle between two doubles is whole. So the sum is
-- taken four times and the rounded fraction has a 4 below it: with half of that, lengths below 2 ^ 53 units would round wrongly. For extents of at most 2 ^ 1021 the
-- sum is below 4 ^ 2100.
unfoldable pub hypotenuse : Float → Float → Float
hypotenuse x y = let n = four_squares x y in let r = whole_root 2100 n in round binary64 false (2 * r + more n r) (4 * one)

pub record Measured (x y r : Float) : Type 0 where
  pub nearest : IsHypot x y r
  pub computed : r ≡ hypotenuse x y
