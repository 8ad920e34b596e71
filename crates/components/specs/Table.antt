-- Components as the finder leaves them in a buffer, a number for each item; and what its function asks. Assumes nothing.
--   ComponentNumbers     c gives each of n items the least item joined to it, which is its component's number
--   size c r             how many items have the number r: the size of component r, and 0 where r is no component's number
--   LabelsBelow          all labels are below m
--   ItemLabels           what the finder asks of the labels: k of each item, all below m
--   FirstWith            v is the first item with the label q, plus one; 0 if none has it
--   ComponentTable       what the finder leaves in the buffer: numbers, sizes, first items; and all else as it was
use Rattle.std.specs.Prelude.{ℕ, ◌+◌, ◌*◌, ◌/◌, ◌<◌, ◌≡◌, List, eqb, get_or, length}
use Rattle.lists.specs.Lists.{count}
use Rattle.lists.specs.Regions.{view, Outside}
use Rattle.components.specs.Joined.{SharedLabel, LeastJoined}

pub record ComponentNumbers (labels : List ℕ) (n k : ℕ) (c : List ℕ) : Type 0 where
  pub long : length c ≡ n
  pub number : (i : ℕ) → i < n → LeastJoined (SharedLabel labels n k) i (get_or c i 0)

abbrev pub size : List ℕ → ℕ → ℕ
size c r = count (eqb r) c

-- ---- the finder's table, from `at` on: n numbers, n sizes, m first items

abbrev pub LabelsBelow : List ℕ → ℕ → Type 0
LabelsBelow labels m = (t : ℕ) → t < length labels → get_or labels t 0 < m

pub record ItemLabels (labels : List ℕ) (n k m : ℕ) : Type 0 where
  pub some : 0 < k
  pub long : length labels ≡ n * k
  pub below : LabelsBelow labels m

-- of the first t labels, the first that is q is one of item f's
pub record Seen (labels : List ℕ) (k t q f : ℕ) : Type 0 where
  pub s : ℕ
  pub before : s < t
  pub item : s / k ≡ f
  pub label : get_or labels s 0 ≡ q
  pub first : (r : ℕ) → r < s → get_or labels r 0 ≡ q → ⊥

pub record FirstWith (labels : List ℕ) (k q v : ℕ) : Type 0 where
  pub none : v ≡ 0 → (s : ℕ) → s < length labels → get_or labels s 0 ≡ q → ⊥
  pub first : (f : ℕ) → v ≡ f + 1 → Seen labels k (length labels) q f

pub record ComponentTable (labels : List ℕ) (n k m at : ℕ) (old new : List ℕ) : Type 0 where
  pub long : length new ≡ length old
  pub numbers : ComponentNumbers labels n k (view new at n)
  pub sizes : (r : ℕ) → r < n → get_or new (at + n + r) 0 ≡ size (view new at n) r
  pub firsts : (q : ℕ) → q < m → FirstWith labels k q (get_or new (at + n + n + q) 0)
  pub rest : (x : ℕ) → Outside x at (n + n + m) → get_or new x 0 ≡ get_or old x 0
