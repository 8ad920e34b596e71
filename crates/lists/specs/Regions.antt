-- Regions: parts of a list by where they begin and how long they are, for tables that stand in one lent buffer. Assumes nothing.
--   view w o n        the n elements of w from o on, as a list
--   Outside x o n     the place x is none of the n from o on
--   Apart o n p k     the n places from o on and the k from p on have none in common
--   PartZeroed            the n places from o on were cleared, and all else is as it was
--   Above b w w'      w became w', and nothing below the place b changed
use Rattle.std.specs.Prelude.{ℕ, ◌+◌, ◌<◌, ◌≡◌, List, get_or, length, take, drop}

abbrev pub view : List ℕ → ℕ → ℕ → List ℕ
view w o n = take n (drop o w)

abbrev pub Outside : ℕ → ℕ → ℕ → Type 0
Outside x o n = (i : ℕ) → i < n → x ≡ o + i → ⊥

abbrev pub Apart : ℕ → ℕ → ℕ → ℕ → Type 0
Apart o n p k = (i : ℕ) → i < k → Outside (p + i) o n

pub record PartZeroed (old new : List ℕ) (o n : ℕ) : Type 0 where
  pub long : length new ≡ length old
  pub zero : (i : ℕ) → i < n → get_or new (o + i) 0 ≡ 0
  pub rest : (x : ℕ) → Outside x o n → get_or new x 0 ≡ get_or old x 0

pub record Above (b : ℕ) (w w' : List ℕ) : Type 0 where
  pub long : length w' ≡ length w
  pub below : (x : ℕ) → x < b → get_or w' x 0 ≡ get_or w x 0
