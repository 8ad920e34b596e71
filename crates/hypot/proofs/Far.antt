-- The length does not depend on which extent is called first; and where the exponents are 27 or more apart, it is the larger extent. Assumes nothing.
use mathlib.Core.Path.{◌≡◌, sym, ap, ◌∙◌}
use mathlib.Core.Bool.{false}
use Prim.Native.Nat.{ℕ, ◌+◌, ◌*◌, ◌^◌, ◌≤◌, ◌<◌}
use native.Mathlib.Omega.{arith}
use lib.Dec.{T}
use lib.Ieee.{Float, binary64, fits, round, of_bits}
use lib.Ieee.Bits.{of_bits-fits}
use Rattle.root.specs.Doubles.{magnitude, one}
use Rattle.root.specs.Bounds.{Within}
use Rattle.root.specs.Root.{whole_root}
use Rattle.root.proofs.Patterns.{no_nan}
use Rattle.root.proofs.Order.{unsigned}
use Rattle.root.proofs.Doubles.{magnitude_bits}
use Rattle.hypot.specs.Length.{more, hypotenuse}
use Rattle.hypot.specs.Placing.{Parts}
use Rattle.hypot.proofs.Length.{is_hypot, four_patterns_lem, four_turned, within_pattern}
use Rattle.hypot.proofs.Sums.{far_length}
use Rattle.hypot.proofs.Computed.{measured}

pub turned : (x y : Float) → hypotenuse x y ≡ hypotenuse y x
unfolding hypotenuse
turned x y = ap (λ (n : ℕ). round binary64 false (2 * whole_root 2100 n + more n (whole_root 2100 n)) (4 * one)) (four_turned y x)

module _ (x y : Float) (F : T (fits binary64 x)) (G : T (fits binary64 y)) (h : Within (2 ^ 1021) x) (g : Within (2 ^ 1021) y) where
  -- x is m * 2 ^ j units, m of 53 digits, and y less than 2 ^ 53 * 2 ^ k
  pub far_apart : {j k : ℕ} → Parts (unsigned x) j → Parts (unsigned y) k → 27 + k ≤ j → hypotenuse x y ≡ magnitude x
  far_apart {j} {k} p q far =
      let b = unsigned x in
      let l = far_length p q (top b j p.m p.is (p.lead (omega arith)) (within_pattern x F h)) (omega arith) in
      let four = four_patterns_lem x y F G h.is_finite g.is_finite in
      sym (measured x y 1021 (omega arith) h g (of_bits binary64 b) (of_bits-fits binary64 b) (is_hypot l x y four)).computed ∙ magnitude_bits x F (no_nan x h.is_finite)
    where
      top : (b j m : ℕ) → b ≡ j * 2 ^ 52 + m → 2 ^ 52 ≤ m → b < 2045 * 2 ^ 52 → j < 2044
      top b j m e i l = omega arith
