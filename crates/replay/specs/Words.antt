-- A file as a row of 64-bit words, and the shape of the promises here. Assumes nothing.
--   word_of         eight bytes, the least first
--   record_length   the length of the record at the front of a list of words; 0 where none is whole
--   FirstRecord     a list of words is a whole record and what is behind it
--   Loaded          the first n of the words are a file's bytes, eight a word; and all of it, where it is whole and there is room
--   Everywhere     a fact of each number below n
use Rattle.std.specs.Prelude.{ℕ, ◌≡◌, ◌+◌, ◌*◌, ◌<◌, ◌≤◌, cond, List, ltb, length, get_or, take, drop}

abbrev pub half_of : List ℕ → ℕ → ℕ
half_of bs k = get_or bs k 0 + 256 * (get_or bs (k + 1) 0 + 256 * (get_or bs (k + 2) 0 + 256 * get_or bs (k + 3) 0))

abbrev pub word_of : List ℕ → ℕ
word_of bs = half_of bs 0 + 4294967296 * half_of bs 4

abbrev pub record_length : List ℕ → ℕ
record_length rest =
    cond (ltb (length rest) 32) 0 (cond (ltb (get_or rest 0 0) 32) 0 (cond (ltb (length rest) (get_or rest 0 0)) 0 (get_or rest 0 0)))

abbrev pub Everywhere : (ℕ → Type 0) → ℕ → Type 0
Everywhere P n = (k : ℕ) → k < n → P k

-- a list of words is a record and what is behind it
pub record FirstRecord (rest front behind : List ℕ) : Type 0 where
  pub whole : 0 < record_length rest
  pub first : front ≡ take (record_length rest) rest
  pub rest_is : behind ≡ drop (record_length rest) rest

pub record Loaded (file words : List ℕ) (n : ℕ) : Type 0 where
  pub word : (k : ℕ) → k < n → get_or words k 0 ≡ word_of (drop (8 * k) file)
  pub whole : (q : ℕ) → 8 * q ≡ length file → q ≤ length words → n ≡ q
