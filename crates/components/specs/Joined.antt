-- Joined: what it is for two items to be joined. One notion for cleaning (items are facets, a step is a shared vertex), caps (supplied triangles, a shared edge)
-- and boundary components. Document 01, modules 4 and 6, and demand 3. Assumes nothing.
--   Joined R       a chain of steps of R, each taken either way, leads from one item to the other: the least equivalence relation that holds R
--   Among link l   a step between two items of the list l: `link` says that they have one
--   SharedLabel    a step between two of n items that have k labels each: a label of the one is a label of the other
--   LeastJoined    r is the least of the items joined to i
--   Once           each item stands once in the list
--   ManyJoined     m different items or more are joined to i, itself counted
use Rattle.std.specs.Prelude.{ℕ, ◌+◌, ◌*◌, ◌≤◌, ◌<◌, ◌≡◌, Bool, T, get_or, length}
use mathlib.Core.List.{List, [], ◌∷◌, Memᴰ}

pub data Joined (R : ℕ → ℕ → Type 0) : ℕ → ℕ → Type 0 where
  one : {i j : ℕ} → R i j → Joined R i j
  same : {i : ℕ} → Joined R i i
  back : {i j : ℕ} → Joined R i j → Joined R j i
  via : {i j k : ℕ} → Joined R i j → Joined R j k → Joined R i k

pub record Among (link : ℕ → ℕ → Bool) (l : List ℕ) (i j : ℕ) : Type 0 where
  pub left_in : Memᴰ i l
  pub right_in : Memᴰ j l
  pub linked : T (link i j)

-- Item i's labels stand in `labels` from i * k on. An item with fewer than k repeats one of its own; one that joins nothing has a label that no other has.
pub record SharedLabel (labels : List ℕ) (n k i j : ℕ) : Type 0 where
  pub a : ℕ
  pub b : ℕ
  pub i_in : i < n
  pub j_in : j < n
  pub a_in : a < k
  pub b_in : b < k
  pub label : get_or labels (i * k + a) 0 ≡ get_or labels (j * k + b) 0

pub record LeastJoined (R : ℕ → ℕ → Type 0) (i r : ℕ) : Type 0 where
  pub joined : Joined R i r
  pub least : (j : ℕ) → Joined R i j → r ≤ j

abbrev pub Once : List ℕ → Type 0
Once [] = Unit {0}
Once (i ∷ l) = (Memᴰ i l → ⊥) × Once l

pub record ManyJoined (R : ℕ → ℕ → Type 0) (m i : ℕ) : Type 0 where
  pub others : List ℕ
  pub once : Once others
  pub enough : m ≤ length others
  pub chain : (j : ℕ) → Memᴰ j others → Joined R i j
