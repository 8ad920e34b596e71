-- What the inner functions do, of which the outer contract does not speak. The room is laid out as crates candidate_pool, cap_triangles and cap_closing say. Assumes nothing.
--   CapsChecked    what `check_caps` leaves
--   edges_in        the open edges that stand in the room
--   closed_of, closed_mesh   the closed mesh of candidates, triangles and open edges; and of those that stand in the room
--   Closable       what is asked of mesh and room for it to be closed
--   Listable       what is asked of the cap list, and the room for it
--   surface_mesh    the result of a mesh with a facet, in a mode that closes
use Rattle.std.specs.Prelude.{ℕ, ◌/◌, ◌≤◌, ◌≡◌, Result, Ok, Bool, cond, List, length, Float}
use Rattle.lists.specs.Regions.{Above}
use Rattle.geometry.specs.Meshes.{Mesh, mesh_of}
use Rattle.refusals.specs.declared.refusal.Refusal.{Refusal}
use Rattle.candidate_pool.specs.Offsets.{open_edges_at}
use Rattle.refusals.specs.Refusals.{first_refusal}
use Rattle.input_tests.specs.Front.{ListsPass, CapListPass}
use Rattle.candidate_pool.specs.OpenEdges.{OpenEdge}
use Rattle.candidate_pool.specs.Pool.{Pool}
use Rattle.candidate_pool.specs.Standing.{pool_at, edges_at}
use Rattle.candidate_edges.specs.Steps.{VerticesIn}
use Rattle.candidate_surface.specs.declared.asked.Asked.{Asked}
use Rattle.candidate_surface.specs.Candidates.{no_two_ends}
use Rattle.cap_triangles.specs.Selection.{Cap, caps_of, outward_caps, selected}
use Rattle.cap_triangles.specs.Room.{turned_at, caps_end, CapReady}
use Rattle.cap_pairs.specs.Pairs.{PairsKnown}
use Rattle.cap_closing.specs.Closing.{closed}
use Rattle.cap_closing.specs.Entering.{MeshWords}
use Rattle.caps.specs.declared.mode.BoundaryClosure.{BoundaryClosure}
use Rattle.caps.specs.Operation.{is_positive, supplied_tests, surface, pool}

abbrev pub edges_in : ℕ → ℕ → ℕ → List ℕ → List OpenEdge
edges_in n nf k w = edges_at w (open_edges_at n nf) k

-- from work room w to w', with the answer r
pub record CapsChecked (n nf k : ℕ) (cap_list : List ℕ) (r : Result (Unit {0}) Refusal) (w w' : List ℕ) : Type 0 where
  pub found : r ≡ first_refusal (supplied_tests (pool_at n w) (caps_of cap_list) (edges_in n nf k w))
  pub above : r ≡ Ok tt → Above (turned_at n nf) w w'
  pub ready : r ≡ Ok tt → CapReady n nf k cap_list w'
  pub known : r ≡ Ok tt → PairsKnown n nf k cap_list w'

abbrev pub closed_of : Pool → List Cap → List OpenEdge → Bool → Mesh → Mesh
closed_of p l es positive mesh = closed p l positive mesh (selected es (outward_caps p l))

abbrev pub closed_mesh : List Float → List ℕ → List ℕ → ℕ → ℕ → Bool → List ℕ → Mesh
closed_mesh vs fs cap_list n k positive w = closed_of (pool_at n w) (caps_of cap_list) (edges_in n (length fs / 3) k w) positive (mesh_of vs fs)

pub record Closable (vs : List Float) (fs cap_list : List ℕ) (n k : ℕ) (w : List ℕ) : Type 0 where
  pub lists : ListsPass vs fs
  pub within : VerticesIn vs
  pub words : MeshWords (length vs / 3) w
  pub ready : CapReady n (length fs / 3) k cap_list w
  pub known : PairsKnown n (length fs / 3) k cap_list w

-- a cap list that passed tests 1 and 2, and the room for it
pub record Listable (vs : List Float) (fs cap_list : List ℕ) (n : ℕ) (w : List ℕ) : Type 0 where
  pub list : CapListPass (length cap_list)
  pub size : caps_end n (length fs / 3) (length cap_list / 4) ≤ length w

abbrev pub surface_mesh : List Float → List ℕ → List ℕ → Asked → BoundaryClosure → Mesh
surface_mesh vs fs cap_list q mode =
    cond (no_two_ends vs fs q) (mesh_of vs fs) (closed_of (pool vs fs q) (caps_of cap_list) (surface vs fs q).edges (is_positive mode) (mesh_of vs fs))
