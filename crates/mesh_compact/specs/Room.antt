-- What the functions of the last step ask and keep in the work room, of which the outer contract does not speak. Of k facets that passed the corners stand from `facets` on, the
-- components' numbers from `parts` on and their sizes behind; renumbering among n welded vertices has, from `at` on, 1 more than the new number of each, or 0 while it has none; from
-- at + n on the old numbers of those used, in order of first use; from at + n + 3 k on the new numbers of the kept facets' corners. Assumes nothing.
--   is_large_at                      whether the component of facet i of the k has at least `least` facets
--   after_vertex, count_after        the room, and how many have a number, after a vertex was numbered
--   numbering                      the numbers given to the corners cs in turn, as a table
--   Naming                         the corners cs have been numbered, among the points
--   RenumberRoom                   where the tables stand, and what renumbering reads there
--   Cornered, Faceted              one corner more, several in turn
--   NumberedSoFar, FacetNumbered   the first i facets have been numbered or dropped; one more
--   StagedMesh                     a mesh stands in the room, to be written
--   Source, Lent                   what the last step is given, and asks
--   MeshCompacted                  what it leaves
use Rattle.std.specs.Prelude.{ℕ, ◌+◌, ◌*◌, ◌≤◌, ◌<◌, ◌≡◌, Bool, cond, eqb, leb, length, get_or, set, replicate, Float}
use mathlib.Core.List.{List, [], ◌∷◌, ◌++◌, map, foldl, Memᴰ}
use Rattle.lists.specs.Lists.{keep, up_to}
use Rattle.lists.specs.Regions.{view}
use Rattle.geometry.specs.declared.point.Point.{Point}
use Rattle.geometry.specs.Triangles.{Triangle, vertices, flat, corners_at}
use Rattle.geometry.specs.Meshes.{Mesh, vertex}
use Rattle.geometry.specs.FirstUse.{Named, new_number, enter}
use Rattle.mesh_filter.specs.Filters.{facet_at}
use Rattle.mesh_compact.specs.declared.numbered.Numbered.{Numbered}
use Rattle.mesh_compact.specs.declared.compact.Staged.{Staged}
use Rattle.mesh_compact.specs.Status.{all_passed}
use Rattle.mesh_compact.specs.Compact.{compacted}

abbrev pub is_large_at : List ℕ → ℕ → ℕ → ℕ → ℕ → Bool
is_large_at m parts k least i = leb least (get_or m (parts + k + get_or m (parts + i) 0) 0)

abbrev pub after_vertex : List ℕ → ℕ → ℕ → ℕ → ℕ → ℕ → List ℕ
after_vertex m kept at n count v = cond (eqb (get_or m (at + v) 0) 0) (set (set m (at + n + count) (get_or m (kept + v) 0)) (at + v) (count + 1)) m

abbrev pub count_after : List ℕ → ℕ → ℕ → ℕ → ℕ
count_after m at count v = cond (eqb (get_or m (at + v) 0) 0) (count + 1) count

pub record Vertexed (kept at n count v r : ℕ) (old new : List ℕ) : Type 0 where
  pub room : new ≡ after_vertex old kept at n count v
  pub counted : r ≡ count_after old at count v

-- the numbers read have a point and stand below a bound: at u the point of what stands in m from `kept` on
pub record Pointed (point : ℕ → Point) (points : List Point) (top kept u : ℕ) (m : List ℕ) : Type 0 where
  pub is : vertex points u ≡ point (get_or m (kept + u) 0)
  pub low : get_or m (kept + u) 0 < top

unfoldable pub numbering : List Point → List ℕ → Named
numbering points cs = foldl (enter (vertex points)) (record { given = replicate (length points) 0; points = [] }) cs

pub record Naming (point : ℕ → Point) (points : List Point) (top at n k a c : ℕ) (cs : List ℕ) (m : List ℕ) : Type 0 where
  pub given : view m at n ≡ (numbering points cs).given
  pub used : map point (view m (at + n) a) ≡ (numbering points cs).points
  pub numbers : view m (at + n + 3 * k) c ≡ map (new_number (numbering points cs)) cs
  pub named : (v : ℕ) → Memᴰ v cs → 0 < get_or (numbering points cs).given v 0
  pub low : (j : ℕ) → j < a → get_or m (at + n + j) 0 < top
  pub ranked : (u : ℕ) → u < n → get_or m (at + u) 0 ≤ a
  pub small : (j : ℕ) → j < c → get_or m (at + n + 3 * k + j) 0 < a

pub record Cornered (kept at n k v : ℕ) (w r : Numbered) (old new : List ℕ) : Type 0 where
  pub corners : r.corners ≡ w.corners + 1
  pub rest : (x : ℕ) → x < at → get_or new x 0 ≡ get_or old x 0
  pub naming : (point : ℕ → Point) (points : List Point) (top : ℕ) (cs : List ℕ) → Pointed point points top kept v old
      → Naming point points top at n k w.vertices w.corners cs old → Naming point points top at n k r.vertices r.corners (cs ++ (v ∷ [])) new

pub record Faceted (kept at n k : ℕ) (l : List ℕ) (w r : Numbered) (old new : List ℕ) : Type 0 where
  pub corners : r.corners ≡ w.corners + length l
  pub rest : (x : ℕ) → x < at → get_or new x 0 ≡ get_or old x 0
  pub naming : (point : ℕ → Point) (points : List Point) (top : ℕ) (cs : List ℕ) → ((u : ℕ) → u < n → Pointed point points top kept u old)
      → Naming point points top at n k w.vertices w.corners cs old → Naming point points top at n k r.vertices r.corners (cs ++ l) new

-- the corners of the facets kept, of the first i that passed
abbrev pub kept_corners : List ℕ → ℕ → ℕ → ℕ → ℕ → ℕ → List ℕ
kept_corners m facets parts k least i = flat (map (λ j. corners_at m (facets + 3 * j)) (keep (is_large_at m parts k least) (up_to i)))

pub record RenumberRoom (kept facets parts k at n : ℕ) (m : List ℕ) : Type 0 where
  pub few : n ≤ 65536
  pub small : k ≤ 65536
  pub kept_in : kept + n ≤ at
  pub facets_in : facets + 3 * k ≤ at
  pub parts_in : parts + k + k ≤ at
  pub all_in : at + n + 6 * k ≤ length m
  pub corner : (j : ℕ) → j < 3 * k → get_or m (facets + j) 0 < n
  pub part : (i : ℕ) → i < k → get_or m (parts + i) 0 < k

pub record NumberedSoFar (kept facets parts k at n least i : ℕ) (w : Numbered) (old new : List ℕ) : Type 0 where
  pub done : i ≤ k
  pub within : w.corners ≤ 3 * i
  pub rest : (x : ℕ) → x < at → get_or new x 0 ≡ get_or old x 0
  pub naming : (point : ℕ → Point) (points : List Point) (top : ℕ) → length points ≡ n → ((u : ℕ) → u < n → Pointed point points top kept u old)
      → Naming point points top at n k w.vertices w.corners (kept_corners old facets parts k least i) new

-- facet i dropped or numbered, from the room old to new
pub record FacetNumbered (kept facets parts k at n least i : ℕ) (w r : Numbered) (old new : List ℕ) : Type 0 where
  pub within : r.corners ≤ 3 * (i + 1)
  pub rest : (x : ℕ) → x < at → get_or new x 0 ≡ get_or old x 0
  pub naming : (point : ℕ → Point) (points : List Point) (top : ℕ) (cs : List ℕ) → ((u : ℕ) → u < n → Pointed point points top kept u old)
      → Naming point points top at n k w.vertices w.corners cs old
      → Naming point points top at n k r.vertices r.corners (cs ++ cond (is_large_at old parts k least i) (vertices (corners_at old (facets + 3 * i))) []) new

-- ---- the mesh to be written

-- it stands in m where s says; the vertices by old numbers below top, whose points `point` gives
pub record StagedMesh (point : ℕ → Point) (top : ℕ) (mesh : Mesh) (s : Staged) (m : List ℕ) : Type 0 where
  pub vertices : map point (view m s.order s.vertices) ≡ mesh.points
  pub numbers : view m s.corners s.numbers ≡ flat mesh.facets
  pub low : (j : ℕ) → j < s.vertices → get_or m (s.order + j) 0 < top
  pub small : (j : ℕ) → j < s.numbers → get_or m (s.corners + j) 0 < 196609

-- the welded points from `kept` on, and the corners of those of the facets that passed from `at` on
pub record Source (point : ℕ → Point) (eps : Float) (points : List Point) (facets : List (Triangle ℕ)) (top kept n at k : ℕ) (m : List ℕ) : Type 0 where
  pub long : length points ≡ n
  pub pointed : (u : ℕ) → u < n → Pointed point points top kept u m
  pub count : length (all_passed eps points facets) ≡ k
  pub corners : view m at (3 * k) ≡ flat (map (facet_at facets) (all_passed eps points facets))

pub record Lent (kept n facets k at : ℕ) (m : List ℕ) : Type 0 where
  pub few : n ≤ 65536
  pub small : k ≤ 65536
  pub kept_in : kept + n ≤ at
  pub facets_in : facets + 3 * k ≤ at
  pub all_in : at + 2 * n + 8 * k ≤ length m
  pub corner : (j : ℕ) → j < 3 * k → get_or m (facets + j) 0 < n

pub record MeshCompacted (kept n facets k least : ℕ) (s : Staged) (old new : List ℕ) : Type 0 where
  pub vertices_in : s.order + s.vertices ≤ length new
  pub numbers_in : s.corners + s.numbers ≤ length new
  pub few : s.vertices ≤ 196608
  pub small : s.numbers ≤ 196608
  pub mesh : (point : ℕ → Point) (eps : Float) (points : List Point) (fs : List (Triangle ℕ)) (top : ℕ) → Source point eps points fs top kept n facets k old
      → StagedMesh point top (compacted eps least points fs) s new
