-- Clipping a mesh to the box (document 01, module 3; `clip_mesh_to_aabb` of aabb_clipping.rs): a pure function of box, eps and mesh. Assumes nothing.
--   inside_box     `point_inside_aabb`: "inside on all six tests"
--   Clipping      what the facets so far have made
--   shared_number, share_once, sharing   a facet inside: "shares its snapped vertices by number"
--   fan, fanned   any other facet: "written as a fan with vertices of its own"
--   clip_facet     one facet               clip_facets, clipped   all facets in turn, and the mesh they make
use Rattle.std.specs.Prelude.{ℕ, ◌+◌, ◌-◌, Bool, cond, eqb, ltb, length, Float}
use mathlib.Core.List.{List, [], ◌∷◌, ◌++◌, map, foldl}
use Rattle.lists.specs.Lists.{every, some, up_to}
use Rattle.geometry.specs.declared.point.Point.{Point}
use Rattle.geometry.specs.declared.aabb.AABB.{AABB}
use Rattle.geometry.specs.Boxes.{faces}
use Rattle.geometry.specs.Triangles.{Triangle, tri, vertices, mapped}
use Rattle.geometry.specs.Meshes.{Mesh, vertex}
use Rattle.aabb_planes.specs.Planes.{inside, snapped}
use Rattle.aabb_polygons.specs.Polygons.{clip_polygon}

-- vertices and facets, and the vertices shared so far: each as its old number and its new one
pub record Clipping : Type 0 where
  pub points : List Point
  pub facets : List (Triangle ℕ)
  pub shared : List (ℕ × ℕ)

-- the number that v is shared by
unfoldable pub shared_number : List (ℕ × ℕ) → ℕ → ℕ
shared_number [] v = 0
shared_number (s ∷ l) v = cond (eqb v s.0) s.1 (shared_number l v)

-- n triangles about base: base, and two corners that follow each other
unfoldable pub fan : ℕ → ℕ → List (Triangle ℕ)
fan base n = map (λ k. tri base (base + k + 1) (base + k + 2)) (up_to n)

-- fewer than three corners are no facet
unfoldable pub fanned : Clipping → List Point → Clipping
fanned c l =
    cond (ltb (length l) 3) c
    (record {
      points = c.points ++ l;
      facets = c.facets ++ fan (length c.points) (length l - 2);
      shared = c.shared;
    })

module _ (box : AABB) (eps : Float) where
  unfoldable pub inside_box : Point → Bool
  inside_box p = every (λ f. inside box eps f p) faces

  -- made at first use, so shared vertices and those of fans stand in the order of the facets
  unfoldable pub share_once : List Point → Clipping → ℕ → Clipping
  share_once vs c v =
      cond (some (λ s. eqb v s.0) c.shared) c
      (record {
        points = c.points ++ (snapped box eps (vertex vs v) ∷ []);
        facets = c.facets;
        shared = (v, length c.points) ∷ c.shared;
      })

  unfoldable pub sharing : List Point → Clipping → Triangle ℕ → Clipping
  sharing vs c t =
      let s = foldl (share_once vs) c (vertices t) in
      record { points = s.points; facets = c.facets ++ (mapped (shared_number s.shared) t ∷ []); shared = s.shared }

  -- "A facet inside on all six tests .. ; any other is clipped"
  unfoldable pub clip_facet : List Point → Clipping → Triangle ℕ → Clipping
  clip_facet vs c t =
      cond (every (λ v. inside_box (vertex vs v)) (vertices t))
      (sharing vs c t)
      (fanned c (clip_polygon box eps faces (map (vertex vs) (vertices t))))

  unfoldable pub clip_facets : Mesh → Clipping
  clip_facets m = foldl (clip_facet m.points) (record { points = []; facets = []; shared = [] }) m.facets

  unfoldable pub clipped : Mesh → Mesh
  clipped m = let r = clip_facets m in record { points = r.points; facets = r.facets }
