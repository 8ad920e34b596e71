-- What an inner function does: no part of what the product promises. Assumes nothing.
--   Fits      outputs of so many elements hold the mesh
use Rattle.std.specs.Prelude.{ℕ, ◌*◌, ◌≤◌, length}
use Rattle.geometry.specs.Triangles.{flat}
use Rattle.geometry.specs.Meshes.{Mesh}

pub record Fits (m : Mesh) (vertex_room facet_room : ℕ) : Type 0 where
  pub vertices : 3 * length m.points ≤ vertex_room
  pub facets : length (flat m.facets) ≤ facet_room
