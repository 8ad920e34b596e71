-- The lists of a stored request, and old contents (README.md of this crate). Assumes nothing.
--   table               f of each place below n
--   double_of            a word as a double; 0 for the bits of a NaN
--   doubles_in, numbers_in   the n words from `from` on, as doubles, and as 32-bit numbers
--   old_doubles, old_words   what n elements of an output hold before a call: 1.5 and its place, 3,000,000,000 and its place
use Rattle.std.specs.Prelude.{ℕ, zero, suc, ◌+◌, ◌%◌, cond, List, map, get_or, Float}
use Rattle.std.specs.Float.{binary64}
use Rattle.std.specs.Float.Ieee.{of_bits, nan_bits}
use Rattle.lists.specs.Lists.{up_to}
use Rattle.root.specs.Doubles.{◌⊕◌, zero_f, one_f}

abbrev pub table : {A : Type 0} → (ℕ → A) → ℕ → List A
table f n = map f (up_to n)

abbrev pub double_of : ℕ → Float
double_of word = cond (nan_bits binary64 word) zero_f (of_bits binary64 word)

abbrev pub doubles_in : List ℕ → ℕ → ℕ → List Float
doubles_in stored from n = table (λ k. double_of (get_or stored (from + k) 0)) n

abbrev pub numbers_in : List ℕ → ℕ → ℕ → List ℕ
numbers_in stored from n = table (λ k. get_or stored (from + k) 0 % 4294967296) n

-- 1.5 has the bits 0x3ff8000000000000
abbrev pub old_double : ℕ → Float
old_double zero = of_bits binary64 4609434218613702656
old_double (suc k) = old_double k ⊕ one_f

abbrev pub old_doubles : ℕ → List Float
old_doubles n = table old_double n

abbrev pub old_words : ℕ → List ℕ
old_words n = table (λ k. 3000000000 + k) n
