-- The digits of a root: words of the contracts of the functions that `sqrt` calls. Assumes nothing.
--   Digits n q      q is the whole number nearest to the root of n, and has 53 binary digits or is 2 ^ 53
--   RootAt n b      b is the pattern of the root of n, a square of units
use Rattle.std.specs.Prelude.{◌≡◌, ℕ, ◌+◌, ◌*◌, ◌^◌, ◌≤◌, ◌<◌}

-- n lies between (q - 1/2) ^ 2 and (q + 1/2) ^ 2, and is neither
pub record Digits (n q : ℕ) : Type 0 where
  pub over : n ≤ q * q + q
  pub under : q * q < n + q
  pub least : 2 ^ 52 ≤ q
  pub most : q ≤ 2 ^ 53

-- n is m * 4 ^ h, and b the pattern of q * 2 ^ h units, where q is the whole number nearest to the root of m. A q of 2 ^ 53 carries into the exponent's field.
pub record RootAt (n b : ℕ) : Type 0 where
  pub h : ℕ
  pub m : ℕ
  pub q : ℕ
  pub digits : Digits m q
  pub low : 2 ^ 104 ≤ m
  pub scaled : n ≡ m * 2 ^ (h + h)
  pub pattern : b ≡ h * 2 ^ 52 + q
  pub range : h < 1600
