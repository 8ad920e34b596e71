-- What the functions of face grids keep in the work room, of which the outer contract does not speak. For n candidates and nf facets: the open edges from open_edges_at on, and
-- segments of the face worked on from segments_at on, five words each: the ends' coordinates, and the bound. Assumes nothing.
--   by_axes        what the functions are handed stands for
--   GridReady     what they ask: room for every grid point, a box that passed the tests, skip tolerances of no NaN
--   Gridded       what `enter_grids` leaves
--   double        a word as a double                    SegmentIn, SegmentAt   a segment of finite numbers; five words are one's bits
--   start_at, end_at   its ends                           hit_at   a point lies on the segment at a place
--   skips_at, skips_near   on one of the first `count` segments; on one of the face worked on
--   SegmentPut    a segment was stored
--   EdgeReady, SegmentGathered    an open edge was stored as a segment of a face
--   edge_hit       a point of a face lies on open edge i there
--   EdgesReady, Gathered          the open edges of a face were
--   NearReady     the segments of the face worked on stand in the room
--   is_inner        an index is neither the first nor the last
--   grid_cell, row_cell, row_at, row_cells      what a grid point inserts, by the segments; a row's j-th; a face's row i; what a row inserts
--   parts_of, line_of   an axis of a cut grid: how many segments it has, and its i-th line
--   face_line      a face's own line               face_size      how many points its grid has
--   Grown         candidates keep their points, and stay in their lists
--   PointsEntered       some points were entered, at most so many of them new
--   PointReady, RowReady, FaceReady, FaceEntered   what entering a point, a row, a face's grid asks, and what the last leaves
use Rattle.std.specs.Prelude.{ℕ, ◌+◌, ◌*◌, ◌≤◌, ◌<◌, ◌^◌, ◌≡◌, Bool, true, false, cond, not, ◌&&◌, T, eqb, length, get_or, Float}
use mathlib.Core.List.{List, [], ◌∷◌, flat_map, foldl}
use Rattle.std.specs.Float.{binary64}
use Rattle.std.specs.Float.Ieee.{of_bits}
use Rattle.lists.specs.Lists.{some, has, up_to}
use Rattle.lists.specs.Regions.{Outside}
use Rattle.root.specs.Doubles.{finite}
use Rattle.root.specs.Bounds.{Within}
use Rattle.geometry.specs.declared.point.Point.{Point}
use Rattle.geometry.specs.declared.aabb.AABB.{AABB}
use Rattle.geometry.specs.Boxes.{lowest, highest, axis, is_min}
use Rattle.geometry.specs.Axes.{segments, grid_size}
use Rattle.input_tests.specs.declared.cuts.Cuts.{Cuts}
use Rattle.input_tests.specs.Front.{box_in_range, bad_box, by_axis}
use Rattle.box_faces.specs.declared.uv.Uv.{Uv}
use Rattle.box_faces.specs.Faces.{uv, u_axis, v_axis, project, has_bit}
use Rattle.box_faces.specs.Lines.{line_at, point_on_face}
use Rattle.box_faces.specs.Segments.{on_segment_by, on_segment}
use Rattle.candidate_pool.specs.Offsets.{entry_at, joined_at, pool_end, open_edges_at, segments_at, room_end}
use Rattle.candidate_pool.specs.Pool.{Candidate, Pool, point_of, face_list, by_key, insert}
use Rattle.candidate_pool.specs.Setting.{Setting}
use Rattle.candidate_pool.specs.Standing.{candidate, count_at, point_at, pool_at, PointIn, PointStored, Holds, edges_at, EdgesHeld}
use Rattle.candidate_grids.specs.declared.grids.Near.{Near}
use Rattle.candidate_grids.specs.declared.grids.Row.{Row}
use Rattle.candidate_grids.specs.Grid.{face_grid, grid}

abbrev pub by_axes : AABB → Float → List Float → List Float → Setting
by_axes box eps resolution skip =
    record { box = box; eps = eps; resolution = by_axis resolution; skip = λ f. by_axis skip (axis f); rule = by_key eps }

pub record GridReady (box : AABB) (eps : Float) (resolution skip : List Float) (n nf k : ℕ) (w : List ℕ) : Type 0 where
  pub holds : Holds eps n w
  pub held : EdgesHeld (pool_at n w) w (open_edges_at n nf) k
  pub few : count_at w + grid_size box eps (by_axis resolution) ≤ n
  pub size : room_end n nf ≤ length w
  pub small : nf < 268435456
  pub edges : k ≤ 3 * nf
  pub box_in : box_in_range box ≡ true
  pub box_good : bad_box box ≡ false
  pub skips : (a : ℕ) → a < 3 → Within (2 ^ 48) (by_axis skip a)

pub record Gridded (box : AABB) (eps : Float) (resolution skip : List Float) (n nf k : ℕ) (w w' : List ℕ) : Type 0 where
  pub pool : pool_at n w' ≡ foldl (insert (by_key eps)) (pool_at n w) (grid (by_axes box eps resolution skip) (edges_at w (open_edges_at n nf) k) (pool_at n w))
  pub holds : Holds eps n w'
  pub held : EdgesHeld (pool_at n w') w' (open_edges_at n nf) k
  pub long : length w' ≡ length w
  pub rest : (x : ℕ) → joined_at n ≤ x → x < segments_at n nf → get_or w' x 0 ≡ get_or w x 0

-- ---- segments

abbrev pub double : List ℕ → ℕ → Float
double w at = of_bits binary64 (get_or w at 0)

pub record SegmentIn (a b : Uv) (bound : Float) : Type 0 where
  pub au : T (finite a.u)
  pub av : T (finite a.v)
  pub bu : T (finite b.u)
  pub bv : T (finite b.v)
  pub bound_in : T (finite bound)

abbrev pub start_at : List ℕ → ℕ → Uv
start_at w at = uv (double w at) (double w (at + 1))

abbrev pub end_at : List ℕ → ℕ → Uv
end_at w at = uv (double w (at + 2)) (double w (at + 3))

abbrev pub SegmentAt : List ℕ → ℕ → Type 0
SegmentAt w at = SegmentIn (start_at w at) (end_at w at) (double w (at + 4))

unfoldable pub hit_at : List ℕ → ℕ → Float → Uv → Bool
hit_at w at tolerance p = on_segment_by (double w (at + 4)) tolerance p (start_at w at) (end_at w at)

unfoldable pub skips_at : List ℕ → ℕ → ℕ → Float → Uv → Bool
skips_at w at count tolerance p = some (λ i. hit_at w (at + 5 * i) tolerance p) (up_to count)

pub record SegmentPut (at : ℕ) (a b : Uv) (bound : Float) (w w' : List ℕ) : Type 0 where
  pub start : start_at w' at ≡ a
  pub end : end_at w' at ≡ b
  pub bounded : double w' (at + 4) ≡ bound
  pub long : length w' ≡ length w
  pub rest : (x : ℕ) → Outside x at 5 → get_or w' x 0 ≡ get_or w x 0

-- the candidates that the edge at `edge` names stand in the room, below the segments
pub record EdgeReady (at edge : ℕ) (tolerance : Float) (w : List ℕ) : Type 0 where
  pub size : at + 5 ≤ length w
  pub before : edge + 1 < at
  pub from : PointStored w (entry_at (get_or w edge 0))
  pub from_in : entry_at (get_or w edge 0) + 2 < length w
  pub to : PointStored w (entry_at (get_or w (edge + 1) 0))
  pub to_in : entry_at (get_or w (edge + 1) 0) + 2 < length w
  pub tolerance_in : Within (2 ^ 48) tolerance

pub record SegmentGathered (at edge face : ℕ) (tolerance : Float) (w w' : List ℕ) : Type 0 where
  pub segment : SegmentAt w' at
  pub hits : (p : Uv) → hit_at w' at tolerance p ≡ on_segment tolerance p (project face (point_at w (entry_at (get_or w edge 0))))
      (project face (point_at w (entry_at (get_or w (edge + 1) 0))))
  pub long : length w' ≡ length w
  pub rest : (x : ℕ) → Outside x at 5 → get_or w' x 0 ≡ get_or w x 0

-- ---- the open edges of a face

unfoldable pub edge_hit : Pool → List ℕ → ℕ → ℕ → Float → Uv → ℕ → Bool
edge_hit pool w edges f tolerance p i =
    has_bit (get_or w (edges + 3 * i + 2) 0) f
    && on_segment tolerance p (project f (point_of pool (get_or w (edges + 3 * i) 0))) (project f (point_of pool (get_or w (edges + 3 * i + 1) 0)))

pub record EdgesReady (n nf k face : ℕ) (tolerance : Float) (w : List ℕ) : Type 0 where
  pub size : room_end n nf ≤ length w
  pub small_n : n < 268435456
  pub small : nf < 268435456
  pub edges : k ≤ 3 * nf
  pub few : count_at w ≤ n
  pub stored : (c : ℕ) → c < count_at w → PointStored w (entry_at c)
  pub from : (i : ℕ) → i < k → has_bit (get_or w (open_edges_at n nf + 3 * i + 2) 0) face ≡ true → get_or w (open_edges_at n nf + 3 * i) 0 < count_at w
  pub to : (i : ℕ) → i < k → has_bit (get_or w (open_edges_at n nf + 3 * i + 2) 0) face ≡ true → get_or w (open_edges_at n nf + 3 * i + 1) 0 < count_at w
  pub tolerance_in : Within (2 ^ 48) tolerance

pub record Gathered (n nf k face : ℕ) (tolerance : Float) (w w' : List ℕ) (count : ℕ) : Type 0 where
  pub few : count ≤ k
  pub segments : (i : ℕ) → i < count → SegmentAt w' (segments_at n nf + 5 * i)
  pub skips : (p : Uv) → skips_at w' (segments_at n nf) count tolerance p ≡ some (edge_hit (pool_at n w) w (open_edges_at n nf) face tolerance p) (up_to k)
  pub long : length w' ≡ length w
  pub rest : (x : ℕ) → x < segments_at n nf → get_or w' x 0 ≡ get_or w x 0

pub record NearReady (n : ℕ) (near : Near) (w : List ℕ) : Type 0 where
  pub above : pool_end n ≤ near.at
  pub size : near.at + 5 * near.count ≤ length w
  pub segments : (i : ℕ) → i < near.count → SegmentAt w (near.at + 5 * i)

abbrev pub skips_near : List ℕ → Near → Uv → Bool
skips_near w near = skips_at w near.at near.count near.tolerance

-- ---- points, rows, faces

abbrev pub is_inner : ℕ → ℕ → Bool
is_inner i last = not (eqb i 0) && not (eqb i last)

unfoldable pub grid_cell : (Uv → Bool) → Bool → ℕ → Point → List Candidate
grid_cell skips inner f p = cond (inner && skips (project f p)) [] (candidate p 0 (f ∷ []) ∷ [])

unfoldable pub row_cell : (Uv → Bool) → AABB → ℕ → Row → ℕ → ℕ → List Candidate
row_cell skips box f row last j =
    grid_cell skips (row.inner && is_inner j last) f (point_on_face f row.at row.u (line_at (lowest box (v_axis f)) (highest box (v_axis f)) last j))

abbrev pub parts_of : Cuts → ℕ → ℕ
parts_of cuts k = segments cuts.grid.extents cuts.grid.eps (by_axis cuts.grid.resolution) k

abbrev pub line_of : Cuts → ℕ → ℕ → Float
line_of cuts k i = line_at (lowest cuts.grid.extents k) (highest cuts.grid.extents k) (parts_of cuts k) i

abbrev pub row_cells : (Uv → Bool) → Cuts → ℕ → Row → List Candidate
row_cells skips cuts f row = flat_map (row_cell skips cuts.grid.extents f row (parts_of cuts (v_axis f))) (up_to (parts_of cuts (v_axis f) + 1))

abbrev pub face_line : AABB → ℕ → ℕ → Float
face_line box f parts = line_at (lowest box (axis f)) (highest box (axis f)) parts (cond (is_min f) 0 parts)

abbrev pub row_at : AABB → ℕ → Float → ℕ → ℕ → Row
row_at box f at last i = record { at = at; u = line_at (lowest box (u_axis f)) (highest box (u_axis f)) last i; inner = is_inner i last }

pub record PointReady (eps : Float) (n : ℕ) (near : Near) (p : Point) (w : List ℕ) : Type 0 where
  pub holds : Holds eps n w
  pub room : count_at w < n
  pub near_in : NearReady n near w
  pub point_in : PointIn p

-- candidates keep their points, and stay in their lists
pub record Grown (n : ℕ) (w w' : List ℕ) : Type 0 where
  pub more : count_at w ≤ count_at w'
  pub points : (c : ℕ) → c < count_at w → point_of (pool_at n w') c ≡ point_of (pool_at n w) c
  pub lists : (f c : ℕ) → f < 6 → has (face_list (pool_at n w) f) c ≡ true → has (face_list (pool_at n w') f) c ≡ true

-- the words behind the pool are as they were
pub record PointsEntered (eps : Float) (n : ℕ) (l : List Candidate) (most : ℕ) (w w' : List ℕ) : Type 0 where
  pub pool : pool_at n w' ≡ foldl (insert (by_key eps)) (pool_at n w) l
  pub holds : Holds eps n w'
  pub few : count_at w' ≤ count_at w + most
  pub grown : Grown n w w'
  pub long : length w' ≡ length w
  pub rest : (x : ℕ) → joined_at n ≤ x → get_or w' x 0 ≡ get_or w x 0

pub record RowReady (eps : Float) (n : ℕ) (near : Near) (row : Row) (box : AABB) (last : ℕ) (w : List ℕ) : Type 0 where
  pub holds : Holds eps n w
  pub room : count_at w + (last + 1) ≤ n
  pub near_in : NearReady n near w
  pub some_parts : 1 ≤ last
  pub few_parts : last ≤ 256
  pub box_in : box_in_range box ≡ true
  pub at_in : Within (2 ^ 48) row.at
  pub u_in : Within (2 ^ 48) row.u

abbrev pub face_size : AABB → Float → List Float → ℕ → ℕ
face_size box eps resolution f = (segments box eps (by_axis resolution) (u_axis f) + 1) * (segments box eps (by_axis resolution) (v_axis f) + 1)

pub record FaceReady (box : AABB) (eps : Float) (resolution skip : List Float) (n nf k face : ℕ) (w : List ℕ) : Type 0 where
  pub holds : Holds eps n w
  pub held : EdgesHeld (pool_at n w) w (open_edges_at n nf) k
  pub few : count_at w + face_size box eps resolution face ≤ n
  pub size : room_end n nf ≤ length w
  pub small : nf < 268435456
  pub edges : k ≤ 3 * nf
  pub box_in : box_in_range box ≡ true
  pub skips : (a : ℕ) → a < 3 → Within (2 ^ 48) (by_axis skip a)

pub record FaceEntered (box : AABB) (eps : Float) (resolution skip : List Float) (n nf k face : ℕ) (w w' : List ℕ) : Type 0 where
  pub pool : pool_at n w' ≡ foldl (insert (by_key eps)) (pool_at n w) (face_grid (by_axes box eps resolution skip) (edges_at w (open_edges_at n nf) k) (pool_at n w) face)
  pub holds : Holds eps n w'
  pub few : count_at w' ≤ count_at w + face_size box eps resolution face
  pub grown : Grown n w w'
  pub long : length w' ≡ length w
  pub rest : (x : ℕ) → joined_at n ≤ x → x < segments_at n nf → get_or w' x 0 ≡ get_or w x 0
