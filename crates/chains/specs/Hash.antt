-- Hash: the bucket of three words. A linear form of the words modulo a prime, scaled to the buckets, so that keys which are all multiples of a power of two spread too, and
-- the form of a neighbouring key is one addition away. No contract but this one speaks of it: any function of the words serves a search. Assumes nothing.
--   prime, factor_a, factor_b, factor_c   the largest prime below 2^32, and three multipliers below it
--   mixed a b c        the linear form
--   bucket_at s nb      the bucket among nb of what is congruent to s
--   bucket_of a b c nb  the bucket of three words
--   Mixes, InBucket    what `mix`, `bucket_at` and `bucket` answer
use Rattle.std.specs.Prelude.{ℕ, ◌+◌, ◌*◌, ◌/◌, ◌%◌, ◌≤◌, ◌<◌, ◌≡◌}

abbrev pub prime : ℕ
prime = 4294967291

abbrev pub factor_a : ℕ
factor_a = 561705629

abbrev pub factor_b : ℕ
factor_b = 816622479

abbrev pub factor_c : ℕ
factor_c = 167066315

abbrev pub mixed : ℕ → ℕ → ℕ → ℕ
mixed a b c = a * factor_a + b * factor_b + c * factor_c

abbrev pub bucket_at : ℕ → ℕ → ℕ
bucket_at s nb = s % prime * nb / 4294967296

abbrev pub bucket_of : ℕ → ℕ → ℕ → ℕ → ℕ
bucket_of a b c nb = bucket_at (mixed a b c) nb

-- s is the linear form, but for multiples of the prime; the bound leaves room for the forms of neighbouring keys
pub record Mixes (a b c s : ℕ) : Type 0 where
  pub congruent : s % prime ≡ mixed a b c % prime
  pub low : s ≤ 6637418496933423670

pub record InBucket (s nb r : ℕ) : Type 0 where
  pub is : r ≡ bucket_at s nb
  pub low : r < nb
