-- What open edges and corner vertices leave (document 01, module 5; `inject_mesh_boundary_edges` and `seed_existing_aabb_edge_vertices` of boundary_closure.rs). Assumes nothing.
--   edge_faces        the faces that both ends of an edge lie on
--   mesh_candidate    a mesh vertex as a candidate
--   Surface          the candidates so far and the open edges that kept two ends: face and two candidates
--   enter_edge        an open edge's two ends inserted, and the edge listed with each of its faces
--   corner_vertices   "every mesh vertex on two or more faces", used or not
--   edge_surface, mesh_pool   what the open edges leave; and the candidates once the corner vertices are in
use Rattle.std.specs.Prelude.{ℕ, ◌+◌, cond, eqb, leb, length, Float}
use mathlib.Core.List.{List, [], ◌++◌, map, foldl}
use Rattle.lists.specs.Lists.{keep, up_to}
use Rattle.geometry.specs.declared.point.Point.{Point}
use Rattle.geometry.specs.declared.aabb.AABB.{AABB}
use Rattle.geometry.specs.Meshes.{Mesh, vertex}
use Rattle.mesh_weld.specs.Joining.{Joining}
use Rattle.box_faces.specs.Faces.{faces_of}
use Rattle.edges.specs.Edges.{open_edges}
use Rattle.candidate_pool.specs.OpenEdges.{OpenEdge, open_edge}
use Rattle.candidate_pool.specs.Pool.{Candidate, Pool, no_pool, number_for, insert}

pub record Surface : Type 0 where
  pub pool : Pool
  pub edges : List OpenEdge

abbrev pub mesh_candidate : Mesh → ℕ → List ℕ → Candidate
mesh_candidate mesh v on = record { point = vertex mesh.points v; mesh = v + 1; on = on }

module _ (box : AABB) (eps : Float) (mesh : Mesh) where
  abbrev pub edge_faces : ℕ × ℕ → List ℕ
  edge_faces e = faces_of box eps (vertex mesh.points e.0) (vertex mesh.points e.1)

  -- with its own faces, ascending
  unfoldable pub corner_vertices : List Candidate
  corner_vertices = keep (λ c. leb 2 (length c.on)) (map (λ v. mesh_candidate mesh v (edge_faces (v, v))) (up_to (length mesh.points)))

module _ (box : AABB) (eps : Float) (rule : Joining Point) (mesh : Mesh) where
  -- the first end, then the second, "as its facet side" runs, each with the edge's faces. It "keeps two ends if their candidates differ"
  unfoldable pub enter_edge : Surface → ℕ × ℕ → Surface
  enter_edge t e =
      let on = edge_faces box eps mesh e in
      let p = insert rule t.pool (mesh_candidate mesh e.0 on) in
      let a = number_for rule t.pool (mesh_candidate mesh e.0 on) in
      let b = number_for rule p (mesh_candidate mesh e.1 on) in
      record {
        pool = insert rule p (mesh_candidate mesh e.1 on);
        edges = t.edges ++ cond (eqb a b) [] (map (λ f. open_edge f a b) on);
      }

  -- "Insert their ends", in the order of the open edges
  unfoldable pub edge_surface : Surface
  edge_surface = foldl enter_edge (record { pool = no_pool; edges = [] }) (open_edges mesh.facets)

  unfoldable pub mesh_pool : Pool
  mesh_pool = foldl (insert rule) edge_surface.pool (corner_vertices box eps mesh)
