-- Tests 1 to 9 of document 01's table of refusals, 2 by the caller's ceiling (document 02, E2), as candidates and caps both ask them, in the table's order. Assumes nothing.
--   closure_tests           1 to 7, for a cap list of the length `caps`
--   stray_edge              the first open edge that lies on no face           edge_tests   8 and 9
use Rattle.std.specs.Prelude.{ℕ, ◌/◌, not, ◌&&◌, ◌||◌, List, [], ◌∷◌, ◌++◌, eqb, ltb, get_or, length, Float}
use Rattle.lists.specs.Lists.{every, place}
use Rattle.geometry.specs.Meshes.{Mesh, mesh_of}
use Rattle.geometry.specs.Axes.{grid_size}
use Rattle.edges.specs.Edges.{sorted_pair, open_edges}
use Rattle.refusals.specs.declared.refusal.Refusal.TheVariants.{BadNumber, BadBox, GridTooFine, KeyRange, OpenEdge}
use Rattle.refusals.specs.Refusals.{Test}
use Rattle.input_tests.specs.Front.{Limits, list_tests, in_range, eps_in_range, resolution_in_range, box_in_range, bad_box, grid_too_fine, work_need, work_test, far_keys, box_far_keys}
use Rattle.candidate_edges.specs.Surface.{edge_faces}
use Rattle.candidate_surface.specs.declared.asked.Asked.{Asked}
use Rattle.candidate_surface.specs.Asked.{one_resolution}

module _ (vs : List Float) (fs : List ℕ) (q : Asked) where
  abbrev pub mesh : Mesh
  mesh = mesh_of vs fs

  unfoldable pub closure_tests : ℕ → Limits → List Test
  closure_tests caps l =
      list_tests l.ceiling vs fs caps
      ++ (not (every in_range vs && (box_in_range q.extents && (eps_in_range q.eps && resolution_in_range q.resolution))), BadNumber)
      ∷ (bad_box q.extents, BadBox)
      ∷ (grid_too_fine q.extents q.eps (one_resolution q.resolution), GridTooFine)
      ∷ work_test (work_need (length vs / 3) (length fs / 3) (caps / 4) (grid_size q.extents q.eps (one_resolution q.resolution))) l.lent ∷ []

  unfoldable pub stray_edge : ℕ
  stray_edge = place (λ e. eqb (length (edge_faces q.extents q.eps mesh e)) 0) (open_edges mesh.facets)

  -- open edges ascend, so the first that lies on no face is "the smallest such pair"
  unfoldable pub edge_tests : List Test
  edge_tests =
      let es = open_edges mesh.facets in
      let e = sorted_pair (get_or es stray_edge (0, 0)) in
      (far_keys q.eps vs || box_far_keys q.eps q.extents, KeyRange)
      ∷ (ltb stray_edge (length es), OpenEdge e.0 e.1) ∷ []
