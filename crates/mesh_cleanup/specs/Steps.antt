-- What the inner functions do once every test but 12 has passed. Contracts of inner functions cite this; the product promises nothing by it. Assumes nothing.
--   CleanReady       what is known once those tests have passed
--   Staging     the cleaned mesh stands in the work room
use Rattle.std.specs.Prelude.{ℕ, ◌+◌, ◌*◌, ◌/◌, ◌≤◌, ◌≡◌, false, List, length, Float}
use Rattle.geometry.specs.Meshes.{Mesh, vertex_of}
use Rattle.input_tests.specs.Front.{far_keys, ListsPass}
use Rattle.mesh_compact.specs.declared.compact.Staged.{Staged}
use Rattle.mesh_compact.specs.Room.{StagedMesh}
use Rattle.mesh_cleanup.specs.Clean.{CleanAsked}

pub record CleanReady (vs : List Float) (fs : List ℕ) (q : CleanAsked) (lent : ℕ) : Type 0 where
  pub lists : ListsPass vs fs
  pub near : far_keys q.eps vs ≡ false
  pub room : 128 * (length vs / 3 + length fs / 3) + 1024 ≤ lent

pub record Staging (vs : List Float) (mesh : Mesh) (s : Staged) (m : List ℕ) : Type 0 where
  pub vertices_in : s.order + s.vertices ≤ length m
  pub numbers_in : s.corners + s.numbers ≤ length m
  pub few : s.vertices ≤ 196608
  pub small : s.numbers ≤ 196608
  pub delivered : StagedMesh (vertex_of vs) (length vs / 3) mesh s m
