-- The layout of a record (README.md of this crate, the second table). Assumes nothing.
--   stored_reply    its reply: the number and four values
--   outputs_from    where its outputs begin, behind the lists          outputs_length   their elements
--   output_one, output_two, output_three, output_four   what stands in the record as its outputs, where these are words: one behind the other
--   size_of         the words that it has by the lengths that it states
--   Few            the n words from `from` on are at most `most`
--   Laid           its lists and outputs fill it, and are not too long
use Rattle.std.specs.Prelude.{ℕ, ◌+◌, ◌≤◌, ◌≡◌, List, length, get_or, take, drop}
use Rattle.lists.specs.Regions.{view}
use Rattle.replay.specs.Words.{Everywhere}

abbrev pub stored_reply : List ℕ → List ℕ
stored_reply stored = take 5 (drop 19 stored)

abbrev pub outputs_length : List ℕ → ℕ
outputs_length stored = get_or stored 15 0 + get_or stored 16 0 + get_or stored 17 0 + get_or stored 18 0

abbrev pub outputs_from : List ℕ → ℕ
outputs_from stored = 32 + get_or stored 2 0 + get_or stored 3 0 + get_or stored 4 0

abbrev pub output_one : List ℕ → List ℕ
output_one stored = view stored (outputs_from stored) (get_or stored 15 0)

abbrev pub output_two : List ℕ → List ℕ
output_two stored = view stored (outputs_from stored + get_or stored 15 0) (get_or stored 16 0)

abbrev pub output_three : List ℕ → List ℕ
output_three stored = view stored (outputs_from stored + get_or stored 15 0 + get_or stored 16 0) (get_or stored 17 0)

abbrev pub output_four : List ℕ → List ℕ
output_four stored = view stored (outputs_from stored + get_or stored 15 0 + get_or stored 16 0 + get_or stored 17 0) (get_or stored 18 0)

abbrev pub size_of : List ℕ → ℕ
size_of stored = outputs_from stored + outputs_length stored

abbrev pub Few : List ℕ → ℕ → ℕ → ℕ → Type 0
Few stored from n most = Everywhere (λ k. get_or stored (from + k) 0 ≤ most) n

-- the numbers that stand in front of a record's lists, by name
abbrev pub operation_in : List ℕ → ℕ
operation_in stored = get_or stored 1 0

abbrev pub work_in : List ℕ → ℕ
work_in stored = get_or stored 14 0

abbrev pub ceiling_in : List ℕ → ℕ
ceiling_in stored = get_or stored 24 0

-- its lists: coordinates, facet numbers, cap words
abbrev pub list_one : List ℕ → List ℕ
list_one stored = view stored 32 (get_or stored 2 0)

abbrev pub list_two : List ℕ → List ℕ
list_two stored = view stored (32 + get_or stored 2 0) (get_or stored 3 0)

abbrev pub list_three : List ℕ → List ℕ
list_three stored = view stored (32 + get_or stored 2 0 + get_or stored 3 0) (get_or stored 4 0)

pub record Laid (stored : List ℕ) : Type 0 where
  pub head : 32 ≤ length stored
  pub lists : Few stored 2 3 1024
  pub outputs : Few stored 15 4 1024
  pub work : get_or stored 14 0 ≤ 20480
  pub whole : size_of stored ≡ length stored
