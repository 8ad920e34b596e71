-- Numbers and their bits. Assumes nothing.
--   stored_numbers  no word of a stored point is a NaN's pattern
--   bits_of         the bits of a point give it back
use mathlib.Core.Path.{◌≡◌}
use mathlib.Core.Bool.{not}
use mathlib.Core.List.{List}
use Prim.Native.Nat.{ℕ, ◌+◌}
use lib.Dec.{T}
use lib.ListN.{get_or}
use lib.Ieee.{binary64, fits, nan_bits}
use lib.Ieee.Bits.{of_bits-to_bits}
use Rattle.root.proofs.Patterns.{no_nan_pattern}
use Rattle.geometry.specs.declared.point.Point.{Point}
use Rattle.candidate_pool.specs.Standing.{PointStored}
use Rattle.candidate_pool.specs.Steps.{BitsOf}

-- the three words of a stored point, by the name e that the code has for where they stand
pub stored_numbers : (w : List ℕ) (at e : ℕ) → PointStored w at → e ≡ at
    → T (not (nan_bits binary64 (get_or w e 0))) × T (not (nan_bits binary64 (get_or w (e + 1) 0))) × T (not (nan_bits binary64 (get_or w (e + 2) 0)))
stored_numbers w at e s q =
    let p = s.within in
    rw q (no_nan_pattern (get_or w at 0) p.x.is_finite, no_nan_pattern (get_or w (at + 1) 0) p.y.is_finite, no_nan_pattern (get_or w (at + 2) 0) p.z.is_finite)

pub bits_of : (p : Point) → T (fits binary64 p.x) → T (fits binary64 p.y) → T (fits binary64 p.z) → BitsOf p
bits_of p x y z = record { x = of_bits-to_bits binary64 p.x x; y = of_bits-to_bits binary64 p.y y; z = of_bits-to_bits binary64 p.z z }
