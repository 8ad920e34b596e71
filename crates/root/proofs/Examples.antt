-- The root at a few doubles, by computation. The answers are those of the C library. Assumes nothing.
use mathlib.Core.Path.{◌≡◌, refl}
use lib.Ieee.{of_bits, round}
use Rattle.root.specs.Doubles.{bits, one, units_of}
use Rattle.root.specs.Root.{whole_root, root_of_square, root}

-- 169 gives 13, 2 gives 1.4142135623730951, the least double 2 ^ -537, the largest 2 ^ 512 less half an ulp
whole : root (bits 0x4065_2000_0000_0000) ≡ bits 0x402a_0000_0000_0000
unfolding root root_of_square whole_root units_of one of_bits round
whole = refl

two : root (bits 0x4000_0000_0000_0000) ≡ bits 0x3ff6_a09e_667f_3bcd
unfolding root root_of_square whole_root units_of one of_bits round
two = refl

least : root (bits 1) ≡ bits 0x1e60_0000_0000_0000
unfolding root root_of_square whole_root units_of one of_bits round
least = refl

largest : root (bits 0x7fef_ffff_ffff_ffff) ≡ bits 0x5fef_ffff_ffff_ffff
unfolding root root_of_square whole_root units_of one of_bits round
largest = refl

-- -0 gives -0
minus_zero : root (bits 0x8000_0000_0000_0000) ≡ bits 0x8000_0000_0000_0000
unfolding root root_of_square whole_root units_of one of_bits round
minus_zero = refl
