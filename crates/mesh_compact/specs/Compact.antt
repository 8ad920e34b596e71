-- The last step of cleaning (document 01, module 4; `remove_small_disconnected_components` and `compact_kept_facets` of mesh_cleanup.rs), over the welded vertices, and facets that
-- name them. Assumes nothing.
--   used_vertices, renumbered   "Vertices are renumbered by first use" of the facets kept: a corner's new number is its place among the vertices used
--   compacted                  the mesh of the facets kept; "If no facet reaches the last step, all welded vertices come back"
use Rattle.std.specs.Prelude.{ℕ, cond, ◌||◌, List, map, eqb, leb, length, Float}
use Rattle.lists.specs.Lists.{place, distinct}
use Rattle.geometry.specs.declared.point.Point.{Point}
use Rattle.geometry.specs.Triangles.{Triangle, mapped, flat}
use Rattle.geometry.specs.Meshes.{Mesh, vertex}
use Rattle.mesh_filter.specs.Filters.{facet_at}
use Rattle.mesh_compact.specs.Status.{all_passed, kept_facets}

abbrev pub used_vertices : List (Triangle ℕ) → List ℕ
used_vertices facets = distinct eqb (flat facets)

unfoldable pub renumbered : List Point → List (Triangle ℕ) → Mesh
renumbered points facets =
    let used = used_vertices facets in
    record { points = map (vertex points) used; facets = map (mapped (λ v. place (eqb v) used)) facets }

-- a least number of one facet drops nothing, and then too all welded vertices come back, as in the Rust
unfoldable pub compacted : Float → ℕ → List Point → List (Triangle ℕ) → Mesh
compacted eps m points facets =
    let l = all_passed eps points facets in
    cond (eqb (length l) 0 || leb m 1)
    (record { points = points; facets = map (facet_at facets) l })
    (renumbered points (map (facet_at facets) (kept_facets eps points facets m)))
