-- Components of open edges (document 02, E13; the paper's "slit" is such a component). Assumes nothing.
--   share_end         two edges have a vertex in common
--   together         two edges, by their places in a list, are joined by a chain of shared vertices
--   groups           the places of a list of edges by components: in order of their smallest, ascending within each
--   boundary_components   the open edges of facets so grouped, each once and the smaller end first
--   is_ring, Ring     as a test, and as told            component_words   of each component how many edges it has, and 1 if it is a ring, else 0
--   SameComponent    two places are in one group
use Rattle.std.specs.Prelude.{ℕ, ◌≡◌, ◌⊎◌, Bool, cond, not, ◌&&◌, ◌||◌, eqb, length, get_or}
use mathlib.Core.List.{List, [], ◌∷◌, Memᴰ, map, flat_map}
use Rattle.lists.specs.Lists.{every, some, keep, count, has, up_to}
use Rattle.geometry.specs.Triangles.{Triangle}
use Rattle.edges.specs.Edges.{sorted_pair, open_edges}
use Rattle.components.specs.Joined.{Joined, Among}
use Rattle.components.specs.Components.{components, component_of}

abbrev pub is_end : ℕ → ℕ × ℕ → Bool
is_end v e = eqb v e.0 || eqb v e.1

unfoldable pub share_end : ℕ × ℕ → ℕ × ℕ → Bool
share_end e d = is_end e.0 d || is_end e.1 d

module _ (es : List (ℕ × ℕ)) where
  abbrev pub all_places : List ℕ
  all_places = up_to (length es)

  abbrev pub nth_edge : ℕ → ℕ × ℕ
  nth_edge i = get_or es i (0, 0)

  abbrev pub linked : ℕ → ℕ → Bool
  linked i j = share_end (nth_edge i) (nth_edge j)

  -- "Open edges joined by a chain of shared vertices are one slit"
  unfoldable pub together : ℕ → ℕ → Bool
  together i j = has (component_of (components linked all_places) i) j

  -- no earlier edge is in its component
  abbrev pub is_smallest : ℕ → Bool
  is_smallest i = not (some (together i) (up_to i))

  -- "Slits come in order of their smallest edge, and edges ascend within each"
  unfoldable pub groups : List (List ℕ)
  groups = map (λ i. keep (together i) all_places) (keep is_smallest all_places)

  -- the chain itself, which names no groups
  abbrev pub Chained : ℕ → ℕ → Type 0
  Chained = Joined (Among linked all_places)

  pub record SameComponent (i j : ℕ) : Type 0 where
    pub group : List ℕ
    pub listed : Memᴰ group groups
    pub left_in : Memᴰ i group
    pub right_in : Memᴰ j group

-- "every open edge once, smaller vertex number first"
unfoldable pub open_pairs : List (Triangle ℕ) → List (ℕ × ℕ)
open_pairs facets = map sorted_pair (open_edges facets)

unfoldable pub boundary_components : List (Triangle ℕ) → List (List (ℕ × ℕ))
boundary_components facets = let es = open_pairs facets in map (λ g. map (nth_edge es) g) (groups es)

-- "It is a ring exactly if no edge joins a vertex to itself and each of its vertices is an end of exactly two of its edges"
unfoldable pub is_ring : List (ℕ × ℕ) → Bool
is_ring c = every (λ e. not (eqb e.0 e.1) && (eqb (count (is_end e.0) c) 2 && eqb (count (is_end e.1) c) 2)) c

pub record Ring (c : List (ℕ × ℕ)) : Type 0 where
  pub two_ends : (e : ℕ × ℕ) → Memᴰ e c → e.0 ≡ e.1 → ⊥
  pub twice : (v : ℕ) (e : ℕ × ℕ) → Memᴰ e c → (e.0 ≡ v) ⊎ (e.1 ≡ v) → count (is_end v) c ≡ 2

-- "A second output has, for each slit, its count of edges and 1 if it is a ring, else 0"
unfoldable pub component_words : List (List (ℕ × ℕ)) → List ℕ
component_words cs = flat_map (λ c. length c ∷ cond (is_ring c) 1 0 ∷ []) cs
