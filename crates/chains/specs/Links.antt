-- Links: the first and the last number with a property, as a link: 0 for none, and k + 1 for k. Assumes nothing.
--   link_of            of a number or none the link
--   id_in              the number behind a link, or none
--   link_to p l        computed: the link to the place of the first of l that passes
--   Absent P i n      no number from i up to, not including, n has the property
--   First P i n v     v is the link to the first number from i up to n with the property
--   Last P n v        v is the link to the last number below n with the property
use Rattle.std.specs.Prelude.{ℕ, zero, suc, ◌≤◌, ◌<◌, ◌≡◌, Bool, cond, List, eqb, length, Option, Some, None}
use Rattle.lists.specs.Lists.{place}

abbrev pub link_of : Option ℕ → ℕ
link_of None = 0
link_of (Some k) = suc k

abbrev pub id_in : ℕ → Option ℕ
id_in zero = None
id_in (suc k) = Some k

unfoldable pub link_to : {A : Type 0} → (A → Bool) → List A → ℕ
link_to p l = let k = place p l in cond (eqb k (length l)) 0 (suc k)

abbrev pub Absent : (ℕ → Type 0) → ℕ → ℕ → Type 0
Absent P i n = (k : ℕ) → i ≤ k → k < n → P k → ⊥

-- k is the first number from i up to n with the property
pub record FirstFound (P : ℕ → Type 0) (i n k : ℕ) : Type 0 where
  pub from : i ≤ k
  pub within : k < n
  pub has : P k
  pub before : Absent P i k

pub record First (P : ℕ → Type 0) (i n v : ℕ) : Type 0 where
  pub none : v ≡ 0 → Absent P i n
  pub some : (k : ℕ) → v ≡ suc k → FirstFound P i n k

-- k is the last number below n with the property
pub record Final (P : ℕ → Type 0) (n k : ℕ) : Type 0 where
  pub within : k < n
  pub has : P k
  pub after : Absent P (suc k) n

pub record Last (P : ℕ → Type 0) (n v : ℕ) : Type 0 where
  pub none : v ≡ 0 → Absent P 0 n
  pub some : (k : ℕ) → v ≡ suc k → Final P n k
