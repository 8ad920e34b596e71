-- A root drawn on paper, a binary digit at a time (document 02, E6): two digits of the number are brought down, 4 * root + 1 is tried and taken off if it goes,
-- and a digit is appended to the root. Words of the contracts of `draw` and `bring_down`. Assumes nothing.
--   WholeRoot n r       "the root so far is the largest whole number whose square doesn't exceed the digits brought down": r of n
--   Drawn n r y         so it is, and y is what is left of n
--   Appended            k more digits of the root, for k more pairs of digits of the number
use Rattle.std.specs.Prelude.{◌≡◌, ℕ, ◌+◌, ◌*◌, ◌/◌, ◌^◌, ◌≤◌, ◌<◌}

pub record WholeRoot (n r : ℕ) : Type 0 where
  pub reaches : r * r ≤ n
  pub next : n < (r + 1) * (r + 1)

pub record Drawn (n r y : ℕ) : Type 0 where
  pub largest : WholeRoot n r
  pub left : r * r + y ≡ n

-- The digits brought down were n, and behind them now come the 2 * k digits of w. The root so far stays as it is, with k digits behind it.
pub record Appended (k w root rest r y : ℕ) : Type 0 where
  pub drawn : (n : ℕ) → Drawn n root rest → Drawn (n * 2 ^ (2 * k) + w) r y
  pub kept : r / 2 ^ k ≡ root
