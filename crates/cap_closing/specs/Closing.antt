-- What the supplied triangles that are taken write (document 01, module 6; demand 3; `append_selected_candidate_caps` and `materialize_candidate` of boundary_closure.rs).
-- Assumes nothing. For a selection of the supplied triangles:
--   taken         those that a mode takes, turned outward, "in the order supplied"
--   new_vertices   the candidates among their corners that become new vertices       vertex_for   the vertex of a candidate
--   closed_points, cap_corners   the vertices, and the corners of those taken as vertex numbers
--   is_large       its "measured double area" is not "1e-12 or under"
--   cap_facets     the caps written                     own_facets   the mesh's own facets, as the mode writes them
--   closed        the closed mesh
--   DemandThree   demand 3: the mesh written is that of the triangles that a chain of shared edges joins to a seed, or of all others, and of no more
use Rattle.std.specs.Prelude.{ℕ, ◌+◌, ◌-◌, ◌≡◌, Bool, false, cond, not, List, ◌++◌, map, eqb, get_or, length}
use Rattle.std.specs.Bool.{beq}
use Rattle.std.specs.Float.Ieee.{le}
use Rattle.lists.specs.Lists.{keep, place, distinct, up_to}
use Rattle.root.specs.Doubles.{1e-12}
use Rattle.geometry.specs.declared.point.Point.{Point}
use Rattle.geometry.specs.Points.{area2}
use Rattle.geometry.specs.Triangles.{Triangle, mapped, reversed, flat}
use Rattle.geometry.specs.Meshes.{Mesh, vertex}
use Rattle.mesh_filter.specs.Filters.{same_corners}
use Rattle.candidate_pool.specs.OpenEdges.{OpenEdge}
use Rattle.candidate_pool.specs.Pool.{Pool, no_candidate, point_of}
use Rattle.cap_triangles.specs.Selection.{Cap, cap_at, outward_caps, Selects}

-- positive takes those chosen, negative "exactly the supplied triangles that are neither seeds nor so joined"
unfoldable pub taken : Bool → List Bool → List Cap → List (Triangle ℕ)
taken positive chosen caps = map (λ i. (cap_at caps i).corners) (keep (λ i. beq (get_or chosen i false) positive) (up_to (length caps)))

-- "mesh vertex + 1 or 0"
abbrev pub mesh_word : Pool → ℕ → ℕ
mesh_word pool c = (get_or pool.all c no_candidate).mesh

-- "a candidate's mesh vertex, else one new vertex at its point": the candidates that have none, each once, in the order of the corners, "before the area test"
unfoldable pub new_vertices : Pool → List (Triangle ℕ) → List ℕ
new_vertices pool ts = distinct eqb (keep (λ c. eqb (mesh_word pool c) 0) (flat ts))

-- and the vertex of a candidate, where the new ones stand behind n others
unfoldable pub vertex_for : Pool → ℕ → List ℕ → ℕ → ℕ
vertex_for pool n new c = cond (eqb (mesh_word pool c) 0) (n + place (eqb c) new) (mesh_word pool c - 1)

unfoldable pub closed_points : Pool → List Point → List (Triangle ℕ) → List Point
closed_points pool points ts = points ++ map (point_of pool) (new_vertices pool ts)

unfoldable pub cap_corners : Pool → ℕ → List (Triangle ℕ) → List (Triangle ℕ)
cap_corners pool n ts = map (mapped (vertex_for pool n (new_vertices pool ts))) ts

-- "double area is the root of the squared cross product"
unfoldable pub is_large : List Point → Triangle ℕ → Bool
is_large points t = not (le (area2 (mapped (vertex points) t)) 1e-12)

-- "less those of measured double area 1e-12 or under; of those left the first for each three mesh corners"
unfoldable pub cap_facets : List Point → List (Triangle ℕ) → List (Triangle ℕ)
cap_facets points ts = distinct same_corners (keep (is_large points) ts)

-- "Negative swaps the mesh facets' last two corners"
unfoldable pub own_facets : Bool → List (Triangle ℕ) → List (Triangle ℕ)
own_facets positive facets = cond positive facets (map reversed facets)

module _ (pool : Pool) (caps : List Cap) (positive : Bool) (mesh : Mesh) where
  unfoldable pub closed : List Bool → Mesh
  closed chosen =
      let ts = taken positive chosen (outward_caps pool caps) in
      let points = closed_points pool mesh.points ts in
      record { points = points; facets = own_facets positive mesh.facets ++ cap_facets points (cap_corners pool (length mesh.points) ts) }

-- Of the whole supplied list, and of all vertices and facets of the mesh written, in order. No other list of Bools is a selection (selects_unique).
pub record DemandThree (pool : Pool) (boundary : List OpenEdge) (caps : List Cap) (positive : Bool) (mesh out : Mesh) : Type 0 where
  pub chosen : List Bool
  pub selects : Selects boundary (outward_caps pool caps) chosen
  pub points : out.points ≡ closed_points pool mesh.points (taken positive chosen (outward_caps pool caps))
  pub facets : out.facets
      ≡ own_facets positive mesh.facets ++ cap_facets out.points (cap_corners pool (length mesh.points) (taken positive chosen (outward_caps pool caps)))
