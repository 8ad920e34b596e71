-- The length at a few doubles, by computation. The answers are those of whole numbers in Python. Assumes nothing.
use mathlib.Core.Path.{◌≡◌, refl}
use lib.Ieee.{of_bits, round}
use Rattle.root.specs.Doubles.{bits, one, units_of}
use Rattle.root.specs.Root.{whole_root}
use Rattle.hypot.specs.Length.{hypotenuse}

-- 3 and -4 give 5; 1 and 1 give 1.4142135623730951; -0 and -0 give 0
whole : hypotenuse (bits 0x4008_0000_0000_0000) (bits 0xc010_0000_0000_0000) ≡ bits 0x4014_0000_0000_0000
unfolding hypotenuse whole_root units_of one of_bits round
whole = refl

two : hypotenuse (bits 0x3ff0_0000_0000_0000) (bits 0x3ff0_0000_0000_0000) ≡ bits 0x3ff6_a09e_667f_3bcd
unfolding hypotenuse whole_root units_of one of_bits round
two = refl

zeros : hypotenuse (bits 0x8000_0000_0000_0000) (bits 0x8000_0000_0000_0000) ≡ bits 0
unfolding hypotenuse whole_root units_of one of_bits round
zeros = refl

-- Two ties, in units of 2 ^ -22. 7200000080000000 and 6500000180000001 have the length 9700000180000001: it needs 54 digits, and the even neighbour is the lower.
-- 9000000180000000 and 4800000300000003 have 10200000300000003: here it is the upper.
tie_down : hypotenuse (bits 0x41d9_945c_a726_b400) (bits 0x41d7_17b7_39c4_d501) ≡ bits 0x41e1_3b0c_a486_6a80
unfolding hypotenuse whole_root units_of one of_bits round
tie_down = refl

tie_up : hypotenuse (bits 0x41df_f973_d5b5_1500) (bits 0x41d1_0d93_28cd_a303) ≡ bits 0x41e2_1e6c_514b_9182
unfolding hypotenuse whole_root units_of one of_bits round
tie_up = refl

-- of the least doubles: 1 and 1 units give 1, 1 and 2 give 2, 5 and 5 give 7
least : hypotenuse (bits 1) (bits 1) ≡ bits 1
unfolding hypotenuse whole_root units_of one of_bits round
least = refl

next : hypotenuse (bits 1) (bits 2) ≡ bits 2
unfolding hypotenuse whole_root units_of one of_bits round
next = refl

fives : hypotenuse (bits 5) (bits 5) ≡ bits 7
unfolding hypotenuse whole_root units_of one of_bits round
fives = refl
