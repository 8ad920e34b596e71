-- What the inner functions do, of which the outer contract does not speak. Assumes nothing.
--   surface_result  the result of a mesh with a facet
use Rattle.std.specs.Prelude.{ℕ, cond, List, Float}
use Rattle.geometry.specs.Meshes.{mesh_of}
use Rattle.candidate_surface.specs.declared.asked.Asked.{Asked}
use Rattle.candidate_surface.specs.Asked.{setting}
use Rattle.candidate_surface.specs.Candidates.{Candidates, no_candidates, candidates, no_two_ends}

abbrev pub surface_result : List Float → List ℕ → Asked → Candidates
surface_result vs fs q = cond (no_two_ends vs fs q) no_candidates (candidates (setting q) (mesh_of vs fs))
