-- The joining rule that welding goes by: which vertices are one. Welding (Weld.antt), and what is said of a cleaned mesh, rest on this record alone; document 01, module 4, gives
-- one rule, by cells (Cells.antt). Assumes nothing.
--   Joining   what a rule is: `joins p q`, the two are close enough to be one; `find p kept`, the place of the kept vertex that p is taken for, or none
--   Lawful    what a rule must satisfy: it is symmetric, what is found joins, and where nothing is found none joins
use Rattle.std.specs.Prelude.{ℕ, ◌<◌, ◌≡◌, Bool, true, false, List, length, get_or, Option, None, Some}

pub record Joining (Vertex : Type 0) : Type 0 where
  pub joins : Vertex → Vertex → Bool
  pub find : Vertex → List Vertex → Option ℕ

pub record Lawful (Vertex : Type 0) (J : Joining Vertex) : Type 0 where
  pub symmetric : (p q : Vertex) → J.joins p q ≡ J.joins q p
  pub found : (p : Vertex) (kept : List Vertex) (k : ℕ) → J.find p kept ≡ Some k → (k < length kept) × (J.joins p (get_or kept k p) ≡ true)
  pub none : (p : Vertex) (kept : List Vertex) → J.find p kept ≡ None → (k : ℕ) → k < length kept → J.joins p (get_or kept k p) ≡ false
