-- The face grids (document 01, module 5; `add_face_grid_points` of boundary_closure.rs). Assumes nothing.
--   grid_point    the point of face f's grid with the indices i and j along u and v
--   interior     an index is neither the first nor the last of its axis
--   skipped      a point of face f lies on an open edge there
--   grid_at       what a grid point inserts: itself, or nothing
--   face_grid, grid   "the face grids, u outside v"
use Rattle.std.specs.Prelude.{ℕ, ◌+◌, Bool, cond, not, ◌&&◌, eqb}
use mathlib.Core.List.{List, [], ◌∷◌, flat_map}
use Rattle.lists.specs.Lists.{some, up_to}
use Rattle.geometry.specs.declared.point.Point.{Point}
use Rattle.geometry.specs.Points.{on_axes}
use Rattle.geometry.specs.Boxes.{faces, axis, is_min}
use Rattle.geometry.specs.Axes.{segments, grid_line}
use Rattle.box_faces.specs.declared.uv.Uv.{Uv}
use Rattle.box_faces.specs.Faces.{u_axis, v_axis, project}
use Rattle.box_faces.specs.Segments.{on_segment}
use Rattle.candidate_pool.specs.OpenEdges.{OpenEdge}
use Rattle.candidate_pool.specs.Pool.{Candidate, Pool, point_of}
use Rattle.candidate_pool.specs.Setting.{Setting}

module _ (s : Setting) where
  open s use {box, eps, resolution, skip}

  abbrev pub segments_of : ℕ → ℕ
  segments_of k = segments box eps resolution k

  -- on the face's own axis the first or the last line
  unfoldable pub grid_point : ℕ → ℕ → ℕ → Point
  grid_point f i j =
      on_axes
      (λ k. grid_line box eps resolution k (cond (eqb k (axis f)) (cond (is_min f) 0 (segments_of k)) (cond (eqb k (u_axis f)) i j)))

  -- "a grid point interior by index": grid lines may repeat
  abbrev pub interior : ℕ → ℕ → Bool
  interior k i = not (eqb i 0) && not (eqb i (segments_of k))

  -- "lies on an open edge there": edges are face and two candidates, whose points are those of the pool
  unfoldable pub skipped : List OpenEdge → Pool → ℕ → Uv → Bool
  skipped edges pool f p =
      some (λ e. eqb e.face f && on_segment (skip f) p (project f (point_of pool e.from)) (project f (point_of pool e.to))) edges

  unfoldable pub grid_at : List OpenEdge → Pool → ℕ → ℕ → ℕ → List Candidate
  grid_at edges pool f i j =
      let p = grid_point f i j in
      cond (interior (u_axis f) i && (interior (v_axis f) j && skipped edges pool f (project f p))) []
      (record { point = p; mesh = 0; on = f ∷ [] } ∷ [])

  unfoldable pub face_grid : List OpenEdge → Pool → ℕ → List Candidate
  face_grid edges pool f =
      flat_map (λ i. flat_map (λ j. grid_at edges pool f i j) (up_to (segments_of (v_axis f) + 1))) (up_to (segments_of (u_axis f) + 1))

  unfoldable pub grid : List OpenEdge → Pool → List Candidate
  grid edges pool = flat_map (face_grid edges pool) faces
