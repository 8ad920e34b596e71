-- A number in base two as text. Assumes nothing.
--   glyph       the last digit of q as a byte; of 0 the byte `blank`
--   Spelled     the digits of n stand right in the text, with spaces in front: j places before the last stands the digit of 2 ^ j
--   RowWritten  such a text was written between two others, right in a field of `width` places, which it fills where n has no more digits. One digit at least is written
use Rattle.std.specs.Prelude.{◌≡◌, List, cond, ℕ, ◌+◌, ◌/◌, ◌%◌, ◌^◌, ◌≤◌, ◌<◌, ◌++◌, eqb, length, get_or, Option}
use Rattle.std.specs.Io.KnownBytes.{Appends}

abbrev pub glyph : ℕ → ℕ → ℕ
glyph q blank = cond (eqb q 0) blank (48 + q % 2)

-- 48 is `0`, and 32 a space; the last place has a digit also where n is 0
pub record Spelled (text : List ℕ) (n : ℕ) : Type 0 where
  pub places : (i j : ℕ) → i + j + 1 ≡ length text → get_or text i 0 ≡ glyph (n / 2 ^ j) (cond (eqb j 0) 48 32)

pub record RowWritten (old new : Option (List ℕ)) (label : List ℕ) (n width : ℕ) (end : List ℕ) : Type 0 where
  pub text : List ℕ
  pub spelled : Spelled text n
  pub wide : width ≤ length text
  pub fits : 0 < width → n < 2 ^ width → length text ≡ width
  pub written : Appends old new (label ++ (text ++ end))
