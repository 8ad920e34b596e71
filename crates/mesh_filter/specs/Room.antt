-- What the functions of the filter ask and keep in the work room, of which the outer contract does not speak. For n facets, from `at` on: 4 n heads, 4 n tails and n nexts (crate
-- chains); of those that passed the keys from 9 n on, the numbers from 10 n on, the corners from 11 n on, three words each. Assumes nothing.
--   kept_in_room, numbers_in_room    the kept vertices, and each old vertex's new number, as they stand in the room
--   points_in_room, facets_in_room   the welded points, and the facets by welded vertices
--   in_order, corners_key          three numbers in order, and packed into one word
--   CornersNumbered              the numbers that a facet leads to are there
--   FilteredSoFar                the first f facets have been through the filter
--   Filtered                     what the filter leaves: the facets that passed, their corners, and all below its table as it was
use Rattle.std.specs.Prelude.{ℕ, ◌+◌, ◌*◌, ◌/◌, ◌≤◌, ◌<◌, min, max, ◌≡◌, List, map, length, get_or, Float}
use Rattle.lists.specs.Regions.{view}
use Rattle.words.specs.Packed.{triple}
use Rattle.geometry.specs.declared.point.Point.{Point}
use Rattle.geometry.specs.Triangles.{Triangle, tri, mapped, threes, flat}
use Rattle.chains.specs.Chains.{Linked}
use Rattle.chains.specs.ByWord.{word_bucket}
use Rattle.geometry.specs.Meshes.{vertex_of}
use Rattle.mesh_filter.specs.declared.corners.WeldedAt.{WeldedAt}
use Rattle.mesh_filter.specs.Filters.{facet_at, passed}

abbrev pub kept_in_room : WeldedAt → List ℕ → List ℕ
kept_in_room w m = view m w.kept w.count

abbrev pub numbers_in_room : WeldedAt → List Float → List ℕ → List ℕ
numbers_in_room w vs m = view m w.numbers (length vs / 3)

abbrev pub points_in_room : WeldedAt → List Float → List ℕ → List Point
points_in_room w vs m = map (vertex_of vs) (kept_in_room w m)

abbrev pub facets_in_room : WeldedAt → List Float → List ℕ → List ℕ → List (Triangle ℕ)
facets_in_room w vs fs m = map (mapped (λ v. get_or (numbers_in_room w vs m) v 0)) (threes fs)

abbrev pub in_order : Triangle ℕ → Triangle ℕ
in_order t =
    tri (min t.a (min t.b t.c)) (min (max t.a (min t.b t.c)) (max t.b t.c)) (max (max t.a (min t.b t.c)) (max t.b t.c))

unfoldable pub corners_key : Triangle ℕ → ℕ
corners_key t = triple (in_order t).a (in_order t).b (in_order t).c

pub record Below (k : ℕ) (t : Triangle ℕ) : Type 0 where
  pub a : t.a < k
  pub b : t.b < k
  pub c : t.c < k

pub record CornersNumbered (w : WeldedAt) (vs : List Float) (fs : List ℕ) (at n : ℕ) (m : List ℕ) : Type 0 where
  pub kept_in : w.kept + w.count ≤ at
  pub numbers_in : w.numbers + length vs / 3 ≤ at
  pub room : at + 14 * n ≤ length m
  pub facets : length fs ≡ 3 * n
  pub small : n ≤ 65536
  pub few : w.count ≤ 65536
  pub corner : (j : ℕ) → j < length fs → get_or fs j 0 < length vs / 3
  pub new : (i : ℕ) → i < length vs / 3 → get_or m (w.numbers + i) 0 < w.count
  pub old : (k : ℕ) → k < w.count → 3 * get_or m (w.kept + k) 0 + 2 < length vs

pub record FilteredSoFar (eps : Float) (points : List Point) (facets : List (Triangle ℕ)) (at n f count : ℕ) (m : List ℕ) : Type 0 where
  pub done : f ≤ n
  pub within : count ≤ f
  pub linked : Linked (word_bucket (view m (at + 9 * n) count) (4 * n)) m at (4 * n) count
  pub keys : view m (at + 9 * n) count ≡ map (λ i. corners_key (facet_at facets i)) (passed eps points facets f)
  pub numbers : view m (at + 10 * n) count ≡ passed eps points facets f
  pub corners : view m (at + 11 * n) (3 * count) ≡ flat (map (facet_at facets) (passed eps points facets f))

pub record Filtered (eps : Float) (points : List Point) (facets : List (Triangle ℕ)) (at n r : ℕ) (old new : List ℕ) : Type 0 where
  pub few : r ≤ n
  pub numbers : view new (at + 10 * n) r ≡ passed eps points facets n
  pub corners : view new (at + 11 * n) (3 * r) ≡ flat (map (facet_at facets) (passed eps points facets n))
  pub long : length new ≡ length old
  pub rest : (x : ℕ) → x < at → get_or new x 0 ≡ get_or old x 0

-- one facet more: the table goes on, and all below it is as it was
pub record FacetFiltered (eps : Float) (points : List Point) (facets : List (Triangle ℕ)) (at n f count : ℕ) (old new : List ℕ) : Type 0 where
  pub going : FilteredSoFar eps points facets at n f count new
  pub rest : (x : ℕ) → x < at → get_or new x 0 ≡ get_or old x 0
