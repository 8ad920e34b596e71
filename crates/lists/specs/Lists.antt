-- Lists: the few words about lists that the definitions use, beyond the library's (map, foldl, flat_map), and four of the library's by the names that the
-- definitions have for them (every, some, keep, first). A test is a function into Bool. Assumes nothing.
--   every, some   all pass; one passes                has       a number stands in the list
--   keep          those that pass, in order           count     how many pass
--   first         the first that passes, or none
--   place         how many stand before the first that passes (all, if none does)
--   insert_by, sort_by   an insertion sort: x goes behind y where `before y x` says so, else in front of it
--   distinct      the first of each kind              up_to      0, 1, .. n - 1
--   Decides       a Bool is true exactly if a proposition holds
use Rattle.std.specs.Prelude.{ℕ, zero, suc, Bool, cond, List, [], ◌∷◌, eqb, T, length, filter, Option, find}
use Rattle.std.specs.List.{list_any, list_all}

module _ {A : Type 0} where
  abbrev pub every : (A → Bool) → List A → Bool
  every p l = list_all p l

  abbrev pub some : (A → Bool) → List A → Bool
  some p l = list_any p l

  abbrev pub keep : (A → Bool) → List A → List A
  keep p l = filter p l

  abbrev pub first : (A → Bool) → List A → Option A
  first p l = find p l

  unfoldable pub place : (A → Bool) → List A → ℕ
  place p [] = 0
  place p (x ∷ xs) = let r = suc (place p xs) in cond (p x) 0 r

  abbrev pub count : (A → Bool) → List A → ℕ
  count p l = length (keep p l)

  unfoldable pub insert_by : (A → A → Bool) → A → List A → List A
  insert_by before x [] = x ∷ []
  insert_by before x (y ∷ ys) = let r = y ∷ insert_by before x ys in cond (before y x) r (x ∷ y ∷ ys)

  unfoldable pub sort_by : (A → A → Bool) → List A → List A
  sort_by before [] = []
  sort_by before (x ∷ xs) = insert_by before x (sort_by before xs)

  -- those with none of their kind among `seen` or before them
  unfoldable pub distinct_from : (A → A → Bool) → List A → List A → List A
  distinct_from same seen [] = []
  distinct_from same seen (x ∷ xs) = let r = distinct_from same (x ∷ seen) xs in cond (some (same x) seen) r (x ∷ r)

  abbrev pub distinct : (A → A → Bool) → List A → List A
  distinct same l = distinct_from same [] l

abbrev pub has : List ℕ → ℕ → Bool
has l k = some (eqb k) l

unfoldable pub up_from : ℕ → ℕ → List ℕ
up_from k zero = []
up_from k (suc n) = k ∷ up_from (suc k) n

abbrev pub up_to : ℕ → List ℕ
up_to n = up_from 0 n

pub record Decides (P : Type 0) (r : Bool) : Type 0 where
  pub sound : T r → P
  pub complete : P → T r
