-- Irregular edges (document 02, E13, the third list): those that no closed surface has, whatever else it has. Assumes nothing.
--   same_side s t     t runs as s does, from the same end to the same end
--   is_irregular l s  of the sides l three or more bear the pair of s, or two that run the same way
--   irregular_edges   the pairs of such sides, each once and the smaller end first, ascending
use Rattle.std.specs.Prelude.{ℕ, Bool, ◌&&◌, ◌||◌, List, map, eqb, ltb}
use Rattle.lists.specs.Lists.{keep, count, sort_by, distinct}
use Rattle.geometry.specs.Triangles.{Triangle}
use Rattle.edges.specs.Edges.{sides, sorted_pair, same_pair, bearers, pair_before}

unfoldable pub same_side : ℕ × ℕ → ℕ × ℕ → Bool
same_side s t = eqb s.0 t.0 && eqb s.1 t.1

-- "borne by three or more facet sides, or by two that run the same way (an edge a, a counts as the same way)"
unfoldable pub is_irregular : List (ℕ × ℕ) → ℕ × ℕ → Bool
is_irregular l s = ltb 2 (bearers l s) || ltb 1 (count (same_side s) l)

-- "A third lists, ascending, the edges .."
unfoldable pub irregular_edges : List (Triangle ℕ) → List (ℕ × ℕ)
irregular_edges facets = let all = sides facets in map sorted_pair (distinct same_pair (sort_by pair_before (keep (is_irregular all) all)))
