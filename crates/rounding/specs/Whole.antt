-- Words of the contracts of the functions that `round` and `rounded` call. Assumes nothing.
--   WholeOf b r    r is the whole number nearest to the double with the pattern b, a half going up
use Rattle.std.specs.Prelude.{◌≡◌, ℕ, ◌*◌, ◌^◌, ◌≤◌, ◌<◌}
use Rattle.root.specs.Doubles.{one}
use Rattle.root.specs.Patterns.{pattern_units}
use Rattle.rounding.specs.Rounding.{half_up}

-- below 2 ^ 52, whose pattern is 1075 * 2 ^ 52, every whole number is a double
pub record WholeOf (b r : ℕ) : Type 0 where
  pub is : r ≡ half_up (pattern_units b) one
  pub few : b < 1075 * 2 ^ 52 → r ≤ 2 ^ 53
  pub small : r < 2 ^ 63
