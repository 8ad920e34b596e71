-- The filters of cleaning (document 01, module 4; the loop over the facets in `clean_mesh` of mesh_cleanup.rs): "drop a facet with a repeated corner, with squared cross product at
-- most eps^4, or with the three corners of an earlier one that passed". Over the welded vertices, and facets that name them. Assumes nothing.
--   facet_at             facet i
--   has_repeated_corner   two corners are one welded vertex
--   is_flat              the squared cross product, at the welded points, is at most "the square of the rounded square" of eps
--   same_corners         two facets have the same three corners, in any order
--   is_duplicate         its three corners are those of one of these facets
--   Reason              why cleaning drops a facet: a filter's, or that it is alone (crate mesh_compact)
--   filtered            the first filter that drops a facet, in the order of the document, where these facets passed before it; or none
--   passes              no filter drops it
--   passed n            the facets that passed among the first n, in order
use Rattle.std.specs.Prelude.{ℕ, zero, suc, Bool, cond, ◌&&◌, ◌||◌, List, [], ◌∷◌, ◌++◌, eqb, get_or, Float, Option, None, Some, is_none}
use Rattle.std.specs.Float.Ieee.{le}
use Rattle.lists.specs.Lists.{some as any}
use Rattle.root.specs.Doubles.{◌⊗◌}
use Rattle.geometry.specs.declared.point.Point.{Point}
use Rattle.geometry.specs.Points.{norm2, normal}
use Rattle.geometry.specs.Triangles.{Triangle, tri, mapped, sorted_vertices}
use Rattle.geometry.specs.Meshes.{vertex}

abbrev pub facet_at : List (Triangle ℕ) → ℕ → Triangle ℕ
facet_at facets i = get_or facets i (tri 0 0 0)

unfoldable pub has_repeated_corner : Triangle ℕ → Bool
has_repeated_corner t = eqb t.a t.b || (eqb t.b t.c || eqb t.a t.c)

unfoldable pub is_flat : Float → List Point → Triangle ℕ → Bool
is_flat eps points t = le (norm2 (normal (mapped (vertex points) t))) (eps ⊗ eps ⊗ (eps ⊗ eps))

-- as the Rust compares them: sorted
unfoldable pub same_corners : Triangle ℕ → Triangle ℕ → Bool
same_corners t u =
    let s = sorted_vertices t in
    let r = sorted_vertices u in
    eqb (get_or s 0 0) (get_or r 0 0) && (eqb (get_or s 1 0) (get_or r 1 0) && eqb (get_or s 2 0) (get_or r 2 0))

unfoldable pub is_duplicate : List (Triangle ℕ) → List ℕ → Triangle ℕ → Bool
is_duplicate facets earlier t = any (λ j. same_corners (facet_at facets j) t) earlier

pub data Reason : Type 0 where
  repeated_corner : Reason
  too_flat : Reason
  duplicate : Reason
  alone : Reason

module _ (eps : Float) (points : List Point) (facets : List (Triangle ℕ)) where
  unfoldable pub filtered : List ℕ → Triangle ℕ → Option Reason
  filtered earlier t =
      cond (has_repeated_corner t) (Some repeated_corner)
      (cond (is_flat eps points t) (Some too_flat)
      (cond (is_duplicate facets earlier t) (Some duplicate) None))

  abbrev pub passes : List ℕ → Triangle ℕ → Bool
  passes earlier t = is_none (filtered earlier t)

  -- facet i after those that passed before it
  unfoldable pub passed_next : ℕ → List ℕ → List ℕ
  passed_next i earlier = cond (passes earlier (facet_at facets i)) (earlier ++ (i ∷ [])) earlier

  unfoldable pub passed : ℕ → List ℕ
  passed zero = []
  passed (suc i) = passed_next i (passed i)
