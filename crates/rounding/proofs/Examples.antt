-- Rounding, keys and segments at a few doubles, by computation. Assumes nothing.
use mathlib.Core.Path.{◌≡◌, refl}
use mathlib.Core.Bool.{true, false}
use Prim.Native.Nat.{◌-◌, ◌^◌}
use lib.IntN.{pos, negsuc}
use lib.Ieee.{lt, div, of_bits}
use Rattle.root.specs.Doubles.{bits, larger}
use Rattle.rounding.specs.Rounding.{half_up, rounded, key, beyond, far_key, ceil, whole_up, segments_over}

-- 0.49999999999999994 gives 0, a half 1, its negative -1, 2 ^ 52 + 1 itself, and what no `i64` holds the end of the range
under_half : rounded (bits 0x3fdf_ffff_ffff_ffff) ≡ pos 0
unfolding rounded half_up of_bits
under_half = refl

half : rounded (bits 0x3fe0_0000_0000_0000) ≡ pos 1
unfolding rounded half_up of_bits
half = refl

minus_half : rounded (bits 0xbfe0_0000_0000_0000) ≡ negsuc 0
unfolding rounded half_up of_bits
minus_half = refl

large : rounded (bits 0x4330_0000_0000_0001) ≡ pos 4503599627370497
unfolding rounded half_up of_bits
large = refl

far : rounded (bits 0xffef_ffff_ffff_ffff) ≡ negsuc (2 ^ 63 - 1)
unfolding rounded half_up of_bits
far = refl

-- 2 ^ 30 in cells of 2 ^ -32 has the key 2 ^ 62, which is not beyond it; in cells of one ulp less it is
at_limit : far_key (bits 0x3df0_0000_0000_0000) (bits 0x41d0_0000_0000_0000) ≡ false
unfolding far_key beyond key rounded half_up larger lt div of_bits
at_limit = refl

over_limit : far_key (bits 0x3def_ffff_ffff_ffff) (bits 0x41d0_0000_0000_0000) ≡ true
unfolding far_key beyond key rounded half_up larger lt div of_bits
over_limit = refl

-- an axis of 8 in segments of 4, of 0.5 in segments of 4, and of 0.6000000000000001 in segments of 0.2
two : segments_over (bits 0x4020_0000_0000_0000) (bits 0x4010_0000_0000_0000) ≡ 2
unfolding segments_over whole_up ceil div of_bits
two = refl

one : segments_over (bits 0x3fe0_0000_0000_0000) (bits 0x4010_0000_0000_0000) ≡ 1
unfolding segments_over whole_up ceil div of_bits
one = refl

four : segments_over (bits 0x3fe3_3333_3333_3334) (bits 0x3fc9_9999_9999_999a) ≡ 4
unfolding segments_over whole_up ceil div of_bits
four = refl
