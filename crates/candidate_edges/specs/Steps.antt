-- What the functions of open edges and corner vertices leave in the work room, of which the outer contract does not speak. For n candidates and nf facets: the open edges from
-- open_edges_at on, three words each, and the records of the edge table from edge_table_at on. Assumes nothing.
--   TableAt          the k records from `at` on are those of the open edges in order (crate edges)
--   MeshFits         the mesh and the room that the functions ask for
--   VerticesIn       every vertex is a point of no NaN and no infinity
--   Sourced          a vertex's word names the candidate that the rule finds for it, and each candidate is named by a vertex: so there are no more than vertices
--   SourcesReady            what `enter_vertex` asks for       VertexEntered    what it leaves
--   surface_at        the candidates and the first i open edges as they stand
--   EdgesEntering         what `enter_edge` asks for and keeps, before the open edge i
--   EdgeEntered      what `enter_edge` leaves           EdgesEntered     what `enter_edges` leaves
--   CornerEntered    what `enter_corner` leaves         CornersEntered   what `enter_corners` leaves
use Rattle.std.specs.Prelude.{ℕ, suc, ◌+◌, ◌*◌, ◌/◌, ◌%◌, ◌≤◌, ◌<◌, ◌≡◌, leb, length, get_or, Float}
use mathlib.Core.List.{List, [], ◌∷◌, foldl}
use Rattle.std.specs.Prelude.{Some}
use Rattle.lists.specs.Lists.{keep}
use Rattle.geometry.specs.declared.point.Point.{Point}
use Rattle.geometry.specs.declared.aabb.AABB.{AABB}
use Rattle.geometry.specs.Triangles.{threes}
use Rattle.geometry.specs.Meshes.{vertex, points_of, mesh_of}
use Rattle.edges.specs.Edges.{sides, open_edges}
use Rattle.candidate_pool.specs.Offsets.{pool_end, open_edges_at, edge_table_at, room_end}
use Rattle.candidate_pool.specs.Pool.{Pool, no_candidate, by_key, place_for, number_for, insert}
use Rattle.candidate_pool.specs.Standing.{faces_in, count_at, joined_in, pool_at, PointIn, Holds, VertexInserted, edges_at, EdgesHeld}
use Rattle.candidate_edges.specs.Surface.{Surface, edge_faces, mesh_candidate, enter_edge, edge_surface, corner_vertices}

pub record TableAt (fs w : List ℕ) (at k : ℕ) : Type 0 where
  pub count : k ≡ length (open_edges (threes fs))
  pub within : k ≤ length fs
  pub number : (i : ℕ) → i < k → get_or w (at + 2 * i + 1) 0 < length fs
  pub side : (i : ℕ) → i < k → get_or (sides (threes fs)) (get_or w (at + 2 * i + 1) 0) (0, 0) ≡ get_or (open_edges (threes fs)) i (0, 0)

-- a mesh that passed tests 1 to 3, and the room for n candidates and its facets
pub record MeshFits (vs : List Float) (fs : List ℕ) (n : ℕ) (w : List ℕ) : Type 0 where
  pub threes : length fs % 3 ≡ 0
  pub numbers : (i : ℕ) → i < length fs → get_or fs i 0 < length vs / 3
  pub vertices : length vs / 3 ≤ n
  pub small : n < 268435456
  pub few : length fs / 3 < 268435456
  pub size : room_end n (length fs / 3) ≤ length w

abbrev pub VerticesIn : List Float → Type 0
VerticesIn vs = (v : ℕ) → v < length vs / 3 → PointIn (vertex (points_of vs) v)

-- A vertex's word is 0 while it was not inserted. `source` of a candidate is the vertex that it was made for.
pub record Sourced (points : List Point) (eps : Float) (p : Pool) (word : ℕ → ℕ) : Type 0 where
  pub low : (c : ℕ) → c < length p.all → (get_or p.all c no_candidate).mesh ≤ length points
  pub found : (v c : ℕ) → v < length points → word v ≡ suc c → place_for (by_key eps) p (record { point = vertex points v; mesh = v + 1; on = [] }) ≡ Some c
  pub source : ℕ → ℕ
  pub within : (c : ℕ) → c < length p.all → source c < length points
  pub names : (c : ℕ) → c < length p.all → word (source c) ≡ suc c

pub record SourcesReady (vs : List Float) (eps : Float) (n : ℕ) (w : List ℕ) : Type 0 where
  pub holds : Holds eps n w
  pub vertices : length vs / 3 ≤ n
  pub within : VerticesIn vs
  pub sourced : Sourced (points_of vs) eps (pool_at n w) (joined_in n w)

pub record VertexEntered (vs : List Float) (eps : Float) (n v mask r : ℕ) (w w' : List ℕ) : Type 0 where
  pub inserted : VertexInserted eps n v (mesh_candidate (mesh_of vs []) v (faces_in mask)) w w'
  pub number : r ≡ number_for (by_key eps) (pool_at n w) (mesh_candidate (mesh_of vs []) v (faces_in mask))
  pub sourced : Sourced (points_of vs) eps (pool_at n w') (joined_in n w')
  pub rest : (x : ℕ) → pool_end n ≤ x → get_or w' x 0 ≡ get_or w x 0

abbrev pub surface_at : ℕ → List ℕ → ℕ → ℕ → Surface
surface_at n w at i = record { pool = pool_at n w; edges = edges_at w at i }

pub record EdgesEntering (vs : List Float) (fs : List ℕ) (eps : Float) (n i : ℕ) (w : List ℕ) : Type 0 where
  pub fits : MeshFits vs fs n w
  pub table : TableAt fs w (edge_table_at n (length fs / 3)) (length (open_edges (threes fs)))
  pub ready : SourcesReady vs eps n w
  pub held : EdgesHeld (pool_at n w) w (open_edges_at n (length fs / 3)) i

pub record EdgeEntered (vs : List Float) (fs : List ℕ) (box : AABB) (eps : Float) (n i r : ℕ) (w w' : List ℕ) : Type 0 where
  pub surface : surface_at n w' (open_edges_at n (length fs / 3)) (i + 1) ≡ enter_edge box eps (by_key eps) (mesh_of vs fs) (surface_at n w (open_edges_at n (length fs / 3)) i)
      (get_or (open_edges (threes fs)) i (0, 0))
  pub listed : length (edges_at w' (open_edges_at n (length fs / 3)) (i + 1)) ≡ length (edges_at w (open_edges_at n (length fs / 3)) i) + r
  pub few : r ≤ 6
  pub entering : EdgesEntering vs fs eps n (i + 1) w'
  pub long : length w' ≡ length w

pub record EdgesEntered (vs : List Float) (fs : List ℕ) (box : AABB) (eps : Float) (n k r : ℕ) (w w' : List ℕ) : Type 0 where
  pub pool : pool_at n w' ≡ (edge_surface box eps (by_key eps) (mesh_of vs fs)).pool
  pub edges : edges_at w' (open_edges_at n (length fs / 3)) k ≡ (edge_surface box eps (by_key eps) (mesh_of vs fs)).edges
  pub listed : r ≡ length (edge_surface box eps (by_key eps) (mesh_of vs fs)).edges
  pub holds : Holds eps n w'
  pub held : EdgesHeld (pool_at n w') w' (open_edges_at n (length fs / 3)) k
  pub sourced : Sourced (points_of vs) eps (pool_at n w') (joined_in n w')
  pub long : length w' ≡ length w

-- "every mesh vertex on two or more faces"
pub record CornerEntered (vs : List Float) (box : AABB) (eps : Float) (n v : ℕ) (w w' : List ℕ) : Type 0 where
  pub pool : pool_at n w' ≡ foldl (insert (by_key eps)) (pool_at n w)
      (keep (λ c. leb 2 (length c.on)) (mesh_candidate (mesh_of vs []) v (edge_faces box eps (mesh_of vs []) (v, v)) ∷ []))
  pub ready : SourcesReady vs eps n w'
  pub long : length w' ≡ length w
  pub rest : (x : ℕ) → pool_end n ≤ x → get_or w' x 0 ≡ get_or w x 0

pub record CornersEntered (vs : List Float) (box : AABB) (eps : Float) (n : ℕ) (w w' : List ℕ) : Type 0 where
  pub pool : pool_at n w' ≡ foldl (insert (by_key eps)) (pool_at n w) (corner_vertices box eps (mesh_of vs []))
  pub holds : Holds eps n w'
  pub few : count_at w' ≤ length vs / 3
  pub long : length w' ≡ length w
  pub rest : (x : ℕ) → pool_end n ≤ x → get_or w' x 0 ≡ get_or w x 0
