-- What the inner functions do, of which the outer contract does not speak. The room is laid out as crate candidate_pool says (src/room.rt). Assumes nothing.
--   Sound          what is known once tests 1 to 6 have passed
--   most_candidates           how many candidates there may be: vertices and grid points
--   Tabled         the records of the open edges stand in the room, each with its key
--   Surfaced       what the open edges leave stands in the room
--   full_pool       the candidates once the corner vertices and the grids are in
--   Completed      they stand in the room, with the open edges
use Rattle.std.specs.Prelude.{ℕ, ◌+◌, ◌*◌, ◌/◌, ◌<◌, ◌≡◌, true, false, length, get_or, Float}
use mathlib.Core.List.{List, foldl}
use Rattle.lists.specs.Lists.{every}
use Rattle.geometry.specs.declared.aabb.AABB.{AABB}
use Rattle.geometry.specs.Triangles.{threes}
use Rattle.geometry.specs.Meshes.{Mesh, mesh_of, points_of}
use Rattle.geometry.specs.Axes.{grid_size}
use Rattle.edges.specs.Edges.{open_edges}
use Rattle.edges.specs.Table.{edge_key}
use Rattle.input_tests.specs.Front.{in_range, eps_in_range, resolution_in_range, box_in_range, bad_box, grid_too_fine, ListsPass}
use Rattle.candidate_pool.specs.Offsets.{open_edges_at, edge_table_at}
use Rattle.candidate_pool.specs.Pool.{Pool, by_key, insert}
use Rattle.candidate_pool.specs.Setting.{Setting}
use Rattle.candidate_pool.specs.Standing.{joined_in, pool_at, Holds, edges_at, EdgesHeld}
use Rattle.candidate_edges.specs.Surface.{edge_surface, mesh_pool}
use Rattle.candidate_edges.specs.Steps.{TableAt, Sourced}
use Rattle.candidate_grids.specs.Grid.{grid}
use Rattle.candidate_surface.specs.declared.asked.Asked.{Asked}
use Rattle.candidate_surface.specs.Asked.{one_resolution, setting}

pub record Sound (vs : List Float) (fs : List ℕ) (q : Asked) : Type 0 where
  pub lists : ListsPass vs fs
  pub numbers : every in_range vs ≡ true
  pub box_in : box_in_range q.extents ≡ true
  pub eps_in : eps_in_range q.eps ≡ true
  pub resolution_in : resolution_in_range q.resolution ≡ true
  pub box_good : bad_box q.extents ≡ false
  pub coarse : grid_too_fine q.extents q.eps (one_resolution q.resolution) ≡ false

abbrev pub most_candidates : List Float → Asked → ℕ
most_candidates vs q = length vs / 3 + grid_size q.extents q.eps (one_resolution q.resolution)

pub record Tabled (fs : List ℕ) (n k : ℕ) (w : List ℕ) : Type 0 where
  pub table : TableAt fs w (edge_table_at n (length fs / 3)) k
  pub key : (i : ℕ) → i < k → get_or w (edge_table_at n (length fs / 3) + 2 * i) 0 ≡ edge_key (get_or (open_edges (threes fs)) i (0, 0))

pub record Surfaced (vs : List Float) (fs : List ℕ) (box : AABB) (eps : Float) (n k : ℕ) (w : List ℕ) : Type 0 where
  pub pool : pool_at n w ≡ (edge_surface box eps (by_key eps) (mesh_of vs fs)).pool
  pub edges : edges_at w (open_edges_at n (length fs / 3)) k ≡ (edge_surface box eps (by_key eps) (mesh_of vs fs)).edges
  pub holds : Holds eps n w
  pub held : EdgesHeld (pool_at n w) w (open_edges_at n (length fs / 3)) k
  pub sourced : Sourced (points_of vs) eps (pool_at n w) (joined_in n w)

abbrev pub full_pool : Setting → Mesh → Pool
full_pool s mesh =
    foldl (insert s.rule) (mesh_pool s.box s.eps s.rule mesh)
    (grid s (edge_surface s.box s.eps s.rule mesh).edges (mesh_pool s.box s.eps s.rule mesh))

pub record Completed (vs : List Float) (fs : List ℕ) (q : Asked) (n k : ℕ) (w : List ℕ) : Type 0 where
  pub pool : pool_at n w ≡ full_pool (setting q) (mesh_of vs fs)
  pub edges : edges_at w (open_edges_at n (length fs / 3)) k ≡ (edge_surface q.extents q.eps (by_key q.eps) (mesh_of vs fs)).edges
  pub holds : Holds q.eps n w
  pub held : EdgesHeld (pool_at n w) w (open_edges_at n (length fs / 3)) k
