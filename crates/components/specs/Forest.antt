-- Forest: the links of a union-find, one for each of n items; what its functions keep, and what they do. Assumes nothing.
--   Link, SameTree        an item's link goes to another; two items are in one tree
--   Forest                every link goes to an item that is not larger, so that a tree's root is its least item
--   TreesKept             the links changed, and neither the trees nor their roots did
--   RootFound             the root of an item's tree was found
--   RootOf                r is the root of i's tree
--   United                two trees were made one
--   Flattened             every link was made to go to the root
--   LabelEntered          a label of an item was entered: the item is the first seen with it, or was joined to the first
--   Swept                 all labels before slot t were entered
--   SizesTallied          what the step after leaves
use Rattle.std.specs.Prelude.{ℕ, ◌+◌, ◌*◌, ◌/◌, ◌≤◌, ◌<◌, ◌≡◌, List, get_or, length}
use Rattle.components.specs.Joined.{Joined, SharedLabel}
use Rattle.components.specs.Table.{Seen, size}

pub record Link (w : List ℕ) (n i j : ℕ) : Type 0 where
  pub i_in : i < n
  pub to : get_or w i 0 ≡ j

abbrev pub SameTree : List ℕ → ℕ → ℕ → ℕ → Type 0
SameTree w n = Joined (Link w n)

abbrev pub Forest : List ℕ → ℕ → Type 0
Forest w n = (i : ℕ) → i < n → get_or w i 0 ≤ i

pub record TreesKept (w v : List ℕ) (n : ℕ) : Type 0 where
  pub long : length v ≡ length w
  pub forest : Forest v n
  pub roots : (i : ℕ) → i < n → get_or w i 0 ≡ i → get_or v i 0 ≡ i
  pub more : (i j : ℕ) → SameTree w n i j → SameTree v n i j
  pub less : (i j : ℕ) → SameTree v n i j → SameTree w n i j

pub record RootFound (w v : List ℕ) (n x r : ℕ) : Type 0 where
  pub kept : TreesKept w v n
  pub small : r ≤ x
  pub root : get_or v r 0 ≡ r
  pub tree : SameTree v n x r

pub record RootOf (w : List ℕ) (n i r : ℕ) : Type 0 where
  pub small : r ≤ i
  pub root : get_or w r 0 ≡ r
  pub tree : SameTree w n i r

-- the links of w, and one between a and b
pub data AddedLink (w : List ℕ) (n a b : ℕ) : ℕ → ℕ → Type 0 where
  old : {i j : ℕ} → Link w n i j → AddedLink w n a b i j
  new : AddedLink w n a b a b

pub record United (w v : List ℕ) (n a b : ℕ) : Type 0 where
  pub long : length v ≡ length w
  pub forest : Forest v n
  pub more : (i j : ℕ) → Joined (AddedLink w n a b) i j → SameTree v n i j
  pub less : (i j : ℕ) → SameTree v n i j → Joined (AddedLink w n a b) i j

pub record Flattened (w v : List ℕ) (n : ℕ) : Type 0 where
  pub kept : TreesKept w v n
  pub flat : (i : ℕ) → i < n → get_or v (get_or v i 0) 0 ≡ get_or v i 0

-- f and g are the word of the label's first item, before and after: the item plus one, and 0 while there is none
pub record LabelEntered (w v : List ℕ) (n f g i r : ℕ) : Type 0 where
  pub unseen : f ≡ 0 → (v ≡ w) × (g ≡ i + 1)
  pub seen : (j : ℕ) → f ≡ j + 1 → United w v n i j × (g ≡ f)
  pub rooted : RootOf v n i r

-- the first item of the label at slot s is known, and slot s's item is in its tree
pub record Hung (labels w firsts : List ℕ) (n k s : ℕ) : Type 0 where
  pub f : ℕ
  pub first : get_or firsts (get_or labels s 0) 0 ≡ f + 1
  pub tree : SameTree w n (s / k) f

pub record LabelsEntered (labels w firsts : List ℕ) (n k m t : ℕ) : Type 0 where
  pub forest : Forest w n
  pub sound : (i j : ℕ) → SameTree w n i j → Joined (SharedLabel labels n k) i j
  pub seen : (q f : ℕ) → q < m → get_or firsts q 0 ≡ f + 1 → Seen labels k t q f
  pub hung : (s : ℕ) → s < t → Hung labels w firsts n k s

-- w has the links of n items, `firsts` the first items of m labels
pub record Swept (labels : List ℕ) (n k m : ℕ) (w firsts : List ℕ) (t : ℕ) : Type 0 where
  pub upto : t ≤ n * k
  pub links : length w ≡ n
  pub labelled : length firsts ≡ m
  pub going : LabelsEntered labels w firsts n k m t

pub record SizesTallied (numbers old new : List ℕ) (n : ℕ) : Type 0 where
  pub long : length new ≡ length old
  pub sizes : (r : ℕ) → r < n → get_or new r 0 ≡ size numbers r
