-- A whole file: its header, its records, and how many of an operation's agree. Assumes nothing.
--   Records    a list of words is so many records, one behind the other
--   AnswersFile    a file of stored answers: the header, then as many records as it says
--   Requested  a record is of this operation;   Agreeing   and its answer is the definition's
--   OneIf      1 if a fact holds, and 0 if not
--   Tallied    how many records from the front of a list on are of this operation, and how many of these agree
use Rattle.std.specs.Prelude.{ℕ, suc, ◌+◌, ◌≤◌, ◌<◌, ◌≡◌, List, [], length, get_or, take, drop}
use Rattle.replay.specs.Words.{record_length}
use Rattle.replay.specs.Agreement.{Agrees}

pub data Records : List ℕ → ℕ → Type 0 where
  none : Records [] 0
  more : {rest : List ℕ} {n : ℕ} → 0 < record_length rest → Records (drop (record_length rest) rest) n → Records rest (suc n)

-- the first word is "yongpham", the least byte first
pub record AnswersFile (file : List ℕ) : Type 0 where
  pub head : 4 ≤ length file
  pub magic : get_or file 0 0 ≡ 7881695654855995257
  pub format : get_or file 1 0 ≡ 2
  pub size : get_or file 3 0 ≡ length file
  pub records : Records (drop 4 file) (get_or file 2 0)

abbrev pub Requested : ℕ → List ℕ → Type 0
Requested operation stored = (32 ≤ length stored) × (get_or stored 1 0 ≡ operation)

abbrev pub Agreeing : ℕ → List ℕ → Type 0
Agreeing operation stored = Requested operation stored × Agrees stored

pub record OneIf (P : Type 0) (k : ℕ) : Type 0 where
  pub few : k ≤ 1
  pub sound : k ≡ 1 → P
  pub complete : P → k ≡ 1

-- the count ends where no record is whole
pub data Tallied (operation : ℕ) : List ℕ → ℕ → ℕ → Type 0 where
  stop : {rest : List ℕ} → record_length rest ≡ 0 → Tallied operation rest 0 0
  onto : {rest : List ℕ} {k j requests agreeing : ℕ} → 0 < record_length rest
      → OneIf (Requested operation (take (record_length rest) rest)) k
      → OneIf (Agreeing operation (take (record_length rest) rest)) j
      → Tallied operation (drop (record_length rest) rest) requests agreeing
      → Tallied operation rest (k + requests) (j + agreeing)
