-- The total order of doubles that are no NaN (document 01, module 5: "in `total_cmp` order") as an order of whole numbers. Assumes nothing.
--   order_key    a whole number for each double, larger for a later one (proofs/Ordering.antt: exactly if `before` says so)
use Rattle.std.specs.Prelude.{ℕ, ◌+◌, ◌-◌, ◌^◌, cond, ltb, Float}
use Rattle.std.specs.Float.{binary64}
use Rattle.std.specs.Float.Ieee.{to_bits}

-- Patterns with no sign ascend with the numbers they stand for, those with a sign descend.
unfoldable pub order_key : Float → ℕ
order_key x = let b = to_bits binary64 x in cond (ltb b (2 ^ 63)) (2 ^ 63 + b) (2 ^ 64 - 1 - b)
