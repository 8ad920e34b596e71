-- Doubles (document 01, module 1): IEEE 754's binary64 operations under short names, constants, comparisons, and a finite double as a whole number of units. Assumes nothing.
--   _⊕_ _⊖_ _⊗_ _⊘_        sum, difference, product, quotient, each rounded once by lib.Ieee
--   bits                    the double with a bit pattern; zero_f, one_f, 1e-12, 1e-10, 1e-9, 2^30 are constants
--   magnitude, within       |x|, and whether |d| is at most eps
--   larger, smaller         `max` and `min`, of numbers that are no NaN
--   clamped                 `clamp(0.0, 1.0)`
--   finite, negative        no NaN and no infinity; the sign bit
--   before                  `total_cmp` says Less, of numbers that are no NaN
--   one, units_of              how many units of 2 ^ -1074 make 1, and how many a finite double's size is
use Rattle.std.specs.Prelude.{ℕ, ◌*◌, ◌/◌, ◌^◌, Bool, true, false, cond, not, ◌&&◌, ◌||◌, Float}
use Rattle.std.specs.Float.{nan, inf, fin, binary64}
use Rattle.std.specs.Float.Ieee.{up, down, of_bits, add, sub, mul, div, neg, lt, le, eq}

infixl 65 ◌⊕◌
infixl 65 ◌⊖◌
infixl 70 ◌⊗◌
infixl 70 ◌⊘◌
abbrev pub ◌⊕◌ : Float → Float → Float
x ⊕ y = add binary64 x y

abbrev pub ◌⊖◌ : Float → Float → Float
x ⊖ y = sub binary64 x y

abbrev pub ◌⊗◌ : Float → Float → Float
x ⊗ y = mul binary64 x y

abbrev pub ◌⊘◌ : Float → Float → Float
x ⊘ y = div binary64 x y

-- ---- constants

abbrev pub bits : ℕ → Float
bits b = of_bits binary64 b

abbrev pub zero_f : Float
zero_f = bits 0

abbrev pub one_f : Float
one_f = bits 0x3ff0_0000_0000_0000

abbrev pub 1e-12 : Float
1e-12 = bits 0x3d71_9799_812d_ea11

abbrev pub 1e-10 : Float
1e-10 = bits 0x3ddb_7cdf_d9d7_bdbb

abbrev pub 1e-9 : Float
1e-9 = bits 0x3e11_2e0b_e826_d695

abbrev pub 2^30 : Float
2^30 = bits 0x41d0_0000_0000_0000

-- ---- comparisons

-- -0 becomes +0, as the Rust's `abs` has it
unfoldable pub magnitude : Float → Float
magnitude x = cond (lt x zero_f) (neg x) (cond (eq x zero_f) zero_f x)

unfoldable pub within : Float → Float → Bool
within eps d = le (magnitude d) eps

unfoldable pub larger : Float → Float → Float
larger x y = cond (lt x y) y x

unfoldable pub smaller : Float → Float → Float
smaller x y = cond (lt y x) y x

-- it keeps -0
unfoldable pub clamped : Float → Float
clamped t = cond (lt t zero_f) zero_f (cond (lt one_f t) one_f t)

abbrev pub finite : Float → Bool
finite nan = false
finite (inf s) = false
finite (fin s m e) = true

-- at -0 too
abbrev pub negative : Float → Bool
negative nan = false
negative (inf s) = s
negative (fin s m e) = s

-- "the Rust's order puts -0.0 before 0.0"
unfoldable pub before : Float → Float → Bool
before x y = lt x y || (eq x y && (negative x && not (negative y)))

-- ---- "a finite double is a whole number of units of 2^-1074": m * 2 ^ e is the fraction m * up e / down e

-- Shut, so that no proof writes 2 ^ 1074 out.
unfoldable pub one : ℕ
one = 2 ^ 1074

-- of a double this division leaves nothing
unfoldable pub units_of : Float → ℕ
units_of nan = 0
units_of (inf s) = 0
units_of (fin s m e) = m * up e * one / down e
