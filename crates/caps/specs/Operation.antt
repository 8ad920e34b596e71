-- The operation caps (document 01, the table of refusals, module 6 and "Agreement"; `cap_mesh_to_aabb` of boundary_closure.rs): its tests in the table's order, its result, and
-- demand 3 of what it writes. Assumes nothing.
--   leaves_open, is_positive   of a mode
--   supplied_tests  10 and 11
--   surface, pool  the candidates, recomputed from the mesh           cap_tests   10 and 11, for these
--   passed_over     "after test 7 if the mode is `None` or there is no facet"       unchanged   either of the two points at which the mesh comes back unchanged
--   caps_tests      1 to 11                        caps_result  the mesh written
--   Closes         demand 3 of what was written, without its computing
--   Capped         what the operation promises: the answer; and of a call that is not turned down, on a mesh that has an open edge with two ends, demand 3
use Rattle.std.specs.Prelude.{ℕ, ◌≡◌, Result, is_err, Bool, true, false, cond, ◌||◌, List, [], ◌∷◌, ◌++◌, ltb, length, Float}
use Rattle.geometry.specs.Triangles.{flat}
use Rattle.geometry.specs.Meshes.{Mesh, mesh_of, coordinates}
use Rattle.words.specs.Overlay.{overlay}
use Rattle.refusals.specs.declared.refusal.Refusal.{Refusal}
use Rattle.refusals.specs.declared.refusal.Refusal.TheVariants.{BadCap, MissingEdge}
use Rattle.refusals.specs.Refusals.{documented_reply, Test, unless}
use Rattle.refusals.specs.Answers.{mesh_outputs, Answered}
use Rattle.input_tests.specs.Front.{Limits, limits}
use Rattle.candidate_pool.specs.OpenEdges.{OpenEdge}
use Rattle.candidate_pool.specs.Pool.{Pool}
use Rattle.candidate_surface.specs.declared.asked.Asked.{Asked}
use Rattle.candidate_surface.specs.Asked.{setting}
use Rattle.candidate_surface.specs.Candidates.{Candidates, candidates, no_facet, no_two_ends}
use Rattle.closure_tests.specs.Tests.{closure_tests, edge_tests}
use Rattle.cap_triangles.specs.Selection.{Cap, caps_of, outward_caps, selected}
use Rattle.cap_triangles.specs.Listed.{bad_cap_place, missing_place}
use Rattle.caps.specs.declared.mode.BoundaryClosure.{BoundaryClosure}
use Rattle.caps.specs.declared.mode.BoundaryClosure.TheVariants.{None, ClosePositive, CloseNegative}
use Rattle.cap_closing.specs.Closing.{closed, DemandThree}

abbrev pub leaves_open : BoundaryClosure → Bool
leaves_open None = true
leaves_open ClosePositive = false
leaves_open CloseNegative = false

abbrev pub is_positive : BoundaryClosure → Bool
is_positive None = false
is_positive ClosePositive = true
is_positive CloseNegative = false

-- of a list of triangles, for these candidates and open edges
abbrev pub supplied_tests : Pool → List Cap → List OpenEdge → List Test
supplied_tests p caps edges =
    (ltb (bad_cap_place p caps) (length caps), BadCap (bad_cap_place p caps)) ∷ (ltb (missing_place p caps edges) (length edges), MissingEdge (missing_place p caps edges)) ∷ []

-- "Caps recomputes the candidates from the mesh"
module _ (vs : List Float) (fs : List ℕ) (q : Asked) where
  unfoldable pub surface : Candidates
  surface = candidates (setting q) (mesh_of vs fs)

  abbrev pub pool : Pool
  pool = record { all = surface.all; lists = surface.lists }

  unfoldable pub cap_tests : List ℕ → List Test
  cap_tests cap_list = supplied_tests pool (caps_of cap_list) surface.edges

module _ (vs : List Float) (fs cap_list : List ℕ) (q : Asked) (mode : BoundaryClosure) where
  abbrev pub passed_over : Bool
  passed_over = leaves_open mode || no_facet fs

  -- "and after test 9 if no open edge keeps two ends"
  abbrev pub unchanged : Bool
  unchanged = passed_over || no_two_ends vs fs q

  abbrev pub caps_tests : Limits → List Test
  caps_tests l =
      closure_tests vs fs q (length cap_list) l
      ++ unless passed_over (edge_tests vs fs q ++ unless (no_two_ends vs fs q) (cap_tests vs fs q cap_list))

  unfoldable pub caps_result : Mesh
  caps_result =
      let p = pool vs fs q in
      cond unchanged (mesh_of vs fs)
      (closed p (caps_of cap_list) (is_positive mode) (mesh_of vs fs) (selected (surface vs fs q).edges (outward_caps p (caps_of cap_list))))

  -- from outputs v and f to v' and f', with the reply as numbers: whatever list is supplied
  pub record Closes (reply : List ℕ) (v v' : List Float) (f f' : List ℕ) : Type 0 where
    pub out : Mesh
    pub demand : DemandThree (pool vs fs q) (surface vs fs q).edges (caps_of cap_list) (is_positive mode) (mesh_of vs fs) out
    pub lengths : reply ≡ 0 ∷ length (coordinates out.points) ∷ length (flat out.facets) ∷ []
    pub vertices : v' ≡ overlay (coordinates out.points) v
    pub facets : f' ≡ overlay (flat out.facets) f

  -- under a ceiling, from work room w and outputs v and f to w', v' and f', with the reply r
  pub record Capped (ceiling : ℕ) (r : Result (List ℕ) Refusal) (w w' : List ℕ) (v v' : List Float) (f f' : List ℕ) : Type 0 where
    pub answered : Answered (caps_tests (limits ceiling (length w))) (mesh_outputs caps_result v v' f f') w w' (documented_reply r)
    pub rule : is_err r ≡ false → unchanged ≡ false → Closes (documented_reply r) v v' f f'
