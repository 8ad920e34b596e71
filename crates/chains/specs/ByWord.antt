-- ByWord: a table of words by their own buckets. Assumes nothing.
--   word_bucket keys nb i   the bucket of the word at i
--   WordTable              the buffer holds the table of the first n words, and all else in it is as it was
use Rattle.std.specs.Prelude.{ℕ, ◌+◌, ◌≤◌, ◌≡◌, List, get_or, length}
use Rattle.lists.specs.Regions.{Outside}
use Rattle.chains.specs.Chains.{Linked}
use Rattle.chains.specs.Hash.{bucket_of}

abbrev pub word_bucket : List ℕ → ℕ → ℕ → ℕ
word_bucket keys nb i = bucket_of (get_or keys i 0) 0 0 nb

pub record WordTable (keys : List ℕ) (at nb : ℕ) (old new : List ℕ) (n : ℕ) : Type 0 where
  pub upto : n ≤ length keys
  pub long : length new ≡ length old
  pub linked : Linked (word_bucket keys nb) new at nb n
  pub rest : (x : ℕ) → Outside x at (nb + nb + length keys) → get_or new x 0 ≡ get_or old x 0
