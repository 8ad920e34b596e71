-- Meshes (document 01, "What the service takes"): coordinates three a vertex, vertex numbers three a facet. Assumes nothing.
--   Mesh, mesh_of           vertices as points, facets as triangles of vertex numbers; from the flat lists handed in
--   points_of, coordinates  flat coordinates to points, and back
--   mesh_lengths            of a mesh as flat lists: coordinates and vertex numbers
--   vertex, vertex_of       the point of vertex v, of a list of points and of a list of coordinates
use Rattle.std.specs.Prelude.{ℕ, get_or, length, Float}
use mathlib.Core.List.{List, [], ◌∷◌, map, flat_map}
use Rattle.geometry.specs.declared.point.Point.{Point}
use Rattle.geometry.specs.Points.{pt, origin}
use Rattle.geometry.specs.Triangles.{Triangle, threes, flat}

pub record Mesh : Type 0 where
  pub points : List Point
  pub facets : List (Triangle ℕ)

abbrev pub points_of : List Float → List Point
points_of l = map (λ t. pt t.a t.b t.c) (threes l)

abbrev pub coordinates : List Point → List Float
coordinates l = flat_map (λ p. p.x ∷ p.y ∷ p.z ∷ []) l

abbrev pub mesh_of : List Float → List ℕ → Mesh
mesh_of vs fs = record { points = points_of vs; facets = threes fs }

-- "counts returned are the lengths written"
abbrev pub mesh_lengths : Mesh → List ℕ
mesh_lengths m = length (coordinates m.points) ∷ length (flat m.facets) ∷ []

abbrev pub vertex : List Point → ℕ → Point
vertex l v = get_or l v origin

abbrev pub vertex_of : List Float → ℕ → Point
vertex_of vs v = vertex (points_of vs) v
