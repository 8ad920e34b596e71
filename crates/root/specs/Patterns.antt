-- Bit patterns: how many units a pattern stands for. Words of the contracts of the functions that work on bits. Assumes nothing.
--   field_units      the units of an exponent's field x and digits t
--   pattern_units    the units of a pattern with no sign
use Rattle.std.specs.Prelude.{ℕ, zero, suc, ◌+◌, ◌*◌, ◌/◌, ◌%◌, ◌^◌}

-- A field of 0 has no leading digit, and counts as a field of 1.
unfoldable pub field_units : ℕ → ℕ → ℕ
field_units zero t = t
field_units (suc j) t = (2 ^ 52 + t) * 2 ^ j

unfoldable pub pattern_units : ℕ → ℕ
pattern_units b = field_units (b / 2 ^ 52) (b % 2 ^ 52)
