-- Packed: several small numbers in one word, as digits to a base, the first the highest; and their way back. Assumes nothing.
--   packed base high low             two digits to a base
--   pair a b                         two numbers below 2^32;        pair_first, pair_second   its two numbers
--   edge a b                         two ends in either order: the pair of the lesser and the greater
--   triple a b c                     three numbers below 2^21;      triple_first, triple_second, triple_third   its three numbers
use Rattle.std.specs.Prelude.{ℕ, ◌+◌, ◌*◌, ◌/◌, ◌%◌, min, max}

abbrev pub packed : ℕ → ℕ → ℕ → ℕ
packed base high low = high * base + low

abbrev pub pair_base : ℕ
pair_base = 4294967296

abbrev pub pair : ℕ → ℕ → ℕ
pair a b = packed pair_base a b

abbrev pub pair_first : ℕ → ℕ
pair_first key = key / pair_base

abbrev pub pair_second : ℕ → ℕ
pair_second key = key % pair_base

abbrev pub edge : ℕ → ℕ → ℕ
edge a b = pair (min a b) (max a b)

abbrev pub triple_base : ℕ
triple_base = 2097152

abbrev pub triple : ℕ → ℕ → ℕ → ℕ
triple a b c = packed triple_base (packed triple_base a b) c

abbrev pub triple_first : ℕ → ℕ
triple_first key = key / triple_base / triple_base

abbrev pub triple_second : ℕ → ℕ
triple_second key = key / triple_base % triple_base

abbrev pub triple_third : ℕ → ℕ
triple_third key = key % triple_base
