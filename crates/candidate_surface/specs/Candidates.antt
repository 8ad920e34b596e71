-- Candidates (document 01, module 5; `CandidateCapSurface` of boundary_closure.rs): open edges, the points that caps may use, face lists, constraints. Assumes nothing.
--   Candidates, no_candidates   the four results       candidates   all of it
--   no_facet, no_two_ends         the two points at which candidates and caps find nothing to do
use Rattle.std.specs.Prelude.{ℕ, Bool, eqb, length, Float}
use mathlib.Core.List.{List, [], flat_map, foldl}
use Rattle.geometry.specs.Boxes.{faces}
use Rattle.geometry.specs.Meshes.{Mesh, mesh_of}
use Rattle.candidate_pool.specs.OpenEdges.{OpenEdge}
use Rattle.candidate_pool.specs.Pool.{Candidate, by_key, insert}
use Rattle.candidate_pool.specs.Setting.{Setting}
use Rattle.candidate_edges.specs.Surface.{edge_surface, mesh_pool}
use Rattle.candidate_grids.specs.Grid.{grid}
use Rattle.candidate_constraints.specs.Constraints.{Constraint, face_constraints}
use Rattle.candidate_surface.specs.declared.asked.Asked.{Asked}

pub record Candidates : Type 0 where
  pub all : List Candidate
  pub lists : List (List ℕ)
  pub constraints : List Constraint
  pub edges : List OpenEdge

abbrev pub no_candidates : Candidates
no_candidates = record { all = []; lists = []; constraints = []; edges = [] }

module _ (s : Setting) (mesh : Mesh) where
  open s use {box, eps, rule}

  -- grid points move no point, so open edges run between the points of `mesh_pool`
  unfoldable pub candidates : Candidates
  candidates =
      let edges = (edge_surface box eps rule mesh).edges in
      let first = mesh_pool box eps rule mesh in
      let pool = foldl (insert rule) first (grid s edges first) in
      record {
        all = pool.all;
        lists = pool.lists;
        constraints = flat_map (face_constraints box eps edges pool) faces;
        edges = edges;
      }

abbrev pub no_facet : List ℕ → Bool
no_facet fs = eqb (length fs) 0

-- "if no open edge keeps two ends": after 9 each open edge has a face, so one that keeps them is listed
unfoldable pub no_two_ends : List Float → List ℕ → Asked → Bool
no_two_ends vs fs q = eqb (length (edge_surface q.extents q.eps (by_key q.eps) (mesh_of vs fs)).edges) 0
