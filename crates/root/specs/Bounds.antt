-- Bounds (document 01, module 1): in which range a double lies, and which double is nearest to a fraction. The sums, products and quotients of numbers
-- so bounded stay finite (proofs/Bounds.antt). Assumes nothing.
--   Within B x        x is finite, and its size at most the whole number B
--   AtLeast C y       y is finite, and its size at least 1 / C, so it is not zero
--   Ratio B x y       x and y are finite, y is not zero, and x's size is at most B times y's
--   Nearest n d r     r is a double nearest to n / d units: no other is nearer
use Rattle.std.specs.Prelude.{ℕ, ◌+◌, ◌*◌, ◌≤◌, ◌<◌, T, Float}
use Rattle.std.specs.Float.{binary64}
use Rattle.std.specs.Float.Ieee.{fits}
use Rattle.std.specs.Float.Ieee.Positive.{num, den}
use Rattle.root.specs.Doubles.{finite, units_of}

-- `num` / `den` is the size of a finite number, as lib.Ieee writes it: m * 2 ^ e as a fraction
pub record Within (B : ℕ) (x : Float) : Type 0 where
  pub is_finite : T (finite x)
  pub size : num x ≤ B * den x

pub record AtLeast (C : ℕ) (y : Float) : Type 0 where
  pub is_finite : T (finite y)
  pub size : den y ≤ C * num y

pub record Ratio (B : ℕ) (x y : Float) : Type 0 where
  pub left_finite : T (finite x)
  pub right_finite : T (finite y)
  pub some : 0 < num y
  pub size : num x * den y ≤ B * (num y * den x)

-- Of two doubles r is no further from n / d than y where n / d lies on r's side of the middle between them, or on it.
pub record Nearest (n d : ℕ) (r : Float) : Type 0 where
  pub is_finite : T (finite r)
  pub above : (y : Float) → T (fits binary64 y) → T (finite y) → units_of r < units_of y → 2 * n ≤ (units_of r + units_of y) * d
  pub below : (y : Float) → T (fits binary64 y) → T (finite y) → units_of y < units_of r → (units_of r + units_of y) * d ≤ 2 * n
