-- Rounding to whole numbers (document 01, modules 1, 4 and 5): half away from zero, the key of a cell, the segments of an axis. Total on every double. Assumes nothing.
--   half_up          n / d to the nearest whole number, a half going up
--   half_away        a double to the nearest whole double, a half going away from zero: the Rust's `round()`
--   IsRounded x r   the same as a relation, in units
--   rounded         `round() as i64`, which stays within 64 bits
--   key             a coordinate's cell; beyond, far_key say whether a key is beyond 2^62
--   key_word         a 64-bit key as a word without a sign, in the same order
--   ceil            n / d up to a whole number
--   whole_up         `ceil() as usize`
--   segments_over        how many segments of at most `spacing` an axis of a given length needs
--   at_most_256, few_segments   a count, or none where it is more than 256; so many segments of an axis
use Rattle.std.specs.Prelude.{ℕ, ◌+◌, ◌*◌, ◌-◌, ◌/◌, ◌^◌, min, max, ◌≡◌, Bool, cond, T, ltb, ℤ, pos, negsuc, neg_ℤ, nat_abs, Option, None, Some, Float}
use Rattle.std.specs.Float.{nan, inf, fin, binary64}
use Rattle.std.specs.Float.Ieee.{up, down, round}
use Rattle.root.specs.Doubles.{◌⊘◌, 1e-12, larger, finite, negative, one, units_of}

-- "Rounding is half away from zero", of a magnitude: n / d + 1 / 2, cut to a whole number
unfoldable pub half_up : ℕ → ℕ → ℕ
half_up n d = (2 * n + d) / (2 * d)

-- m * 2 ^ e is the fraction m * up e / down e. The whole number is a double, so `round` changes nothing (proofs/Rounding.antt).
unfoldable pub half_away : Float → Float
half_away nan = nan
half_away (inf s) = inf s
half_away (fin s m e) = round binary64 s (half_up (m * up e) (down e)) 1

-- r is the whole number nearest to x, a half going away from zero, with x's sign (-0.3 gives -0)
pub record IsRounded (x r : Float) : Type 0 where
  pub is_finite : T (finite r)
  pub sign : negative r ≡ negative x
  pub size : units_of r ≡ half_up (units_of x) one * one

-- "`as i64` saturates in Rust", and a NaN gives 0
unfoldable pub rounded : Float → ℤ
rounded nan = pos 0
rounded (inf s) = cond s (negsuc (2 ^ 63 - 1)) (pos (2 ^ 63 - 1))
rounded (fin s m e) = cond s (neg_ℤ (pos (min (2 ^ 63) (half_up (m * up e) (down e))))) (pos (min (2 ^ 63 - 1) (half_up (m * up e) (down e))))

-- "each coordinate divided by max(eps, 1e-12), rounded"
unfoldable pub key : Float → Float → ℤ
key eps x = rounded (x ⊘ larger eps 1e-12)

-- "a key beyond 2^62"
unfoldable pub beyond : ℤ → Bool
beyond k = ltb (2 ^ 62) (nat_abs k)

unfoldable pub far_key : Float → Float → Bool
far_key eps x = beyond (key eps x)

-- 2 ^ 63 more
unfoldable pub key_word : ℤ → ℕ
key_word (pos n) = 2 ^ 63 + n
key_word (negsuc n) = 2 ^ 63 - 1 - n

unfoldable pub ceil : ℕ → ℕ → ℕ
ceil n d = (n + (d - 1)) / d

unfoldable pub whole_up : Float → ℕ
whole_up nan = 0
whole_up (inf s) = cond s 0 (2 ^ 64 - 1)
whole_up (fin s m e) = cond s 0 (min (2 ^ 64 - 1) (ceil (m * up e) (down e)))

-- at least one
unfoldable pub segments_over : Float → Float → ℕ
segments_over length spacing = max 1 (whole_up (length ⊘ spacing))

-- "an axis needs over 256 segments"
abbrev pub at_most_256 : ℕ → Option ℕ
at_most_256 n = cond (ltb 256 n) None (Some n)

unfoldable pub few_segments : Float → Float → Option ℕ
few_segments length spacing = at_most_256 (segments_over length spacing)
