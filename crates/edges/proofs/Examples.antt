-- The definitions computed on small meshes, so that a reader sees what they say. Assumes nothing.
use Prim.Native.Nat.{ℕ}
use mathlib.Core.List.{List, [], ◌∷◌, flat_map}
use mathlib.Core.Path.{◌≡◌, refl}
use Rattle.lists.specs.Lists.{insert_by, sort_by}
use Rattle.geometry.specs.Triangles.{threes}
use Rattle.edges.specs.Edges.{same_pair, pair_before, open_edges}

abbrev given : List ℕ → List (ℕ × ℕ)
given facets = open_edges (threes facets)

-- a lone facet: its three sides as they run, by their pairs 0 1, 0 2, 1 2
lone : given (0 ∷ 1 ∷ 2 ∷ []) ≡ (0, 1) ∷ (2, 0) ∷ (1, 2) ∷ []
unfolding open_edges same_pair pair_before flat_map threes sort_by insert_by
lone = refl

-- "a lone facet a, a, b": its edge a, a is open, and a, b is borne twice
repeated : given (5 ∷ 5 ∷ 3 ∷ []) ≡ (5, 5) ∷ []
unfolding open_edges same_pair pair_before flat_map threes sort_by insert_by
repeated = refl

-- facet a, a, a: three sides bear a, a
point : given (4 ∷ 4 ∷ 4 ∷ []) ≡ []
unfolding open_edges same_pair pair_before flat_map threes sort_by insert_by
point = refl

-- a facet given twice has no open edge, nor has one with its opposite
twice : given (0 ∷ 1 ∷ 2 ∷ 0 ∷ 1 ∷ 2 ∷ []) ≡ []
unfolding open_edges same_pair pair_before flat_map threes sort_by insert_by
twice = refl

opposite : given (0 ∷ 1 ∷ 2 ∷ 2 ∷ 1 ∷ 0 ∷ []) ≡ []
unfolding open_edges same_pair pair_before flat_map threes sort_by insert_by
opposite = refl

-- the square of C8: the shared side 0 2 is not open; 3, 0 comes second, since its pair is 0 3
square : given (0 ∷ 1 ∷ 2 ∷ 0 ∷ 2 ∷ 3 ∷ []) ≡ (0, 1) ∷ (3, 0) ∷ (1, 2) ∷ (2, 3) ∷ []
unfolding open_edges same_pair pair_before flat_map threes sort_by insert_by
square = refl

-- an edge borne by three facets is not open
fan : given (0 ∷ 1 ∷ 2 ∷ 0 ∷ 1 ∷ 3 ∷ 1 ∷ 0 ∷ 4 ∷ []) ≡ (2, 0) ∷ (3, 0) ∷ (0, 4) ∷ (1, 2) ∷ (1, 3) ∷ (4, 1) ∷ []
unfolding open_edges same_pair pair_before flat_map threes sort_by insert_by
fan = refl

-- a closed surface has none
tetrahedron : given (0 ∷ 2 ∷ 1 ∷ 0 ∷ 1 ∷ 3 ∷ 0 ∷ 3 ∷ 2 ∷ 1 ∷ 2 ∷ 3 ∷ []) ≡ []
unfolding open_edges same_pair pair_before flat_map threes sort_by insert_by
tetrahedron = refl

none : given [] ≡ []
unfolding open_edges same_pair pair_before flat_map threes sort_by insert_by
none = refl
