-- Edges (document 01, module 5, first two sentences; boundary_closure.rs, `detect_boundary_edges`): the sides of facets, which of them are open.
-- Assumes nothing.
--   sides            every facet's three sides as they run, a to b, b to c, c to a, in the order of the facets
--   sorted_pair       `sorted_pair`: the two ends, the smaller first
--   same_pair s t     the same two ends, either way round
--   bearers l s      how many of the sides l bear the pair of s
--   is_open l s       exactly one of the sides l bears the pair of s
--   pair_before s t   the sorted pair of s comes before that of t: by the smaller end, then by the greater
--   open_edges        the sides whose pair is open, as they run, in ascending order of their sorted pair
--   pair_words        pairs as words, two each
use Rattle.std.specs.Prelude.{ℕ, min, max, Bool, ◌&&◌, ◌||◌, eqb, ltb}
use mathlib.Core.List.{List, [], ◌∷◌, flat_map}
use Rattle.lists.specs.Lists.{keep, count, sort_by}
use Rattle.geometry.specs.Triangles.{Triangle, edges}

abbrev pub sides : List (Triangle ℕ) → List (ℕ × ℕ)
sides facets = flat_map edges facets

abbrev pub sorted_pair : ℕ × ℕ → ℕ × ℕ
sorted_pair s = (min s.0 s.1, max s.0 s.1)

unfoldable pub same_pair : ℕ × ℕ → ℕ × ℕ → Bool
same_pair s t = (eqb s.0 t.0 && eqb s.1 t.1) || (eqb s.0 t.1 && eqb s.1 t.0)

abbrev pub bearers : List (ℕ × ℕ) → ℕ × ℕ → ℕ
bearers l s = count (same_pair s) l

-- "An open edge belongs to exactly one facet side; three are not open"
abbrev pub is_open : List (ℕ × ℕ) → ℕ × ℕ → Bool
is_open l s = eqb (bearers l s) 1

unfoldable pub pair_before : ℕ × ℕ → ℕ × ℕ → Bool
pair_before s t = ltb (sorted_pair s).0 (sorted_pair t).0 || (eqb (sorted_pair s).0 (sorted_pair t).0 && ltb (sorted_pair s).1 (sorted_pair t).1)

-- "Open edges go in ascending order of their sorted pair"; "An open edge runs as its facet side"
unfoldable pub open_edges : List (Triangle ℕ) → List (ℕ × ℕ)
open_edges facets = let all = sides facets in sort_by pair_before (keep (is_open all) all)

unfoldable pub pair_words : List (ℕ × ℕ) → List ℕ
pair_words l = flat_map (λ e. e.0 ∷ e.1 ∷ []) l
