-- A mode of caps from its number, as callers in C give it (include/yongpham.h). Assumes nothing.
--   mode_of     0, 1 and 2; any other number is no mode
--   mode_from   the mode, or the refusal of a number that is none: "part of 4"
use Rattle.std.specs.Prelude.{ℕ, Result, Ok, Err, cond, eqb, ltb}
use Rattle.refusals.specs.declared.refusal.Refusal.{Refusal}
use Rattle.refusals.specs.declared.refusal.Refusal.TheVariants.{BadNumber}
use Rattle.caps.specs.declared.mode.BoundaryClosure.{BoundaryClosure}
use Rattle.caps.specs.declared.mode.BoundaryClosure.TheVariants.{None, ClosePositive, CloseNegative}

abbrev pub mode_of : ℕ → BoundaryClosure
mode_of m = cond (eqb m 0) None (cond (eqb m 1) ClosePositive CloseNegative)

abbrev pub mode_from : ℕ → Result BoundaryClosure Refusal
mode_from m = cond (ltb 2 m) (Err BadNumber) (Ok (mode_of m))
