-- What the functions of this crate leave in the words w' that were w. Assumes nothing.
--   irregular_run      of the records of one pair: three or more, or two whose sides begin at the same end
--   IrregularListed   the irregular edges stand from `at` on, q of them, and nothing below `at` changed
use Rattle.std.specs.Prelude.{ℕ, ◌*◌, ◌≤◌, Bool, true, false, ◌≡◌, List, [], ◌∷◌, eqb, length}
use Rattle.lists.specs.Regions.{view, Above}
use Rattle.geometry.specs.Triangles.{threes}
use Rattle.edges.specs.Edges.{pair_words}
use Rattle.edges.specs.Table.{side_of}
use Rattle.irregular_edges.specs.Irregular.{irregular_edges}

unfoldable pub irregular_run : List (ℕ × ℕ) → List (ℕ × ℕ) → Bool
irregular_run sides [] = false
irregular_run sides (r ∷ []) = false
irregular_run sides (r ∷ q ∷ []) = eqb (side_of sides r).0 (side_of sides q).0
irregular_run sides (r ∷ q ∷ p ∷ run) = true

pub record IrregularListed (facets w w' : List ℕ) (at q : ℕ) : Type 0 where
  pub count : q ≡ length (irregular_edges (threes facets))
  pub few : 2 * q ≤ length facets
  pub words : view w' at (2 * q) ≡ pair_words (irregular_edges (threes facets))
  pub above : Above at w w'
