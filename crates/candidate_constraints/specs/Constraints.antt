-- Constraints of a face: pairs of places in its list (document 01, module 5; `build_face_cdt` and `add_face_box_boundary_constraints` of boundary_closure.rs). Assumes nothing.
--   Constraint, constraint   a face and two places in its list        constraint_words   their 64-bit words, three each
--   consecutive        each two that follow each other
--   standing          a place with its fraction along a side, if it stands on it
--   side_order         the places on a side, "sorted by clamped t in `total_cmp` order, stable"
--   edge_places        the places of an open edge's two candidates
--   face_constraints   "smaller place first, listed ascending, once"
use Rattle.std.specs.Prelude.{ℕ, cond, eqb, ltb, get_or, length, Float, Option, Some, None}
use mathlib.Core.List.{List, [], ◌∷◌, ◌++◌, map, flat_map}
use Rattle.lists.specs.Lists.{keep, place, sort_by, distinct, up_to}
use Rattle.root.specs.Doubles.{before}
use Rattle.geometry.specs.declared.aabb.AABB.{AABB}
use Rattle.box_faces.specs.declared.uv.Side.{Side}
use Rattle.box_faces.specs.Faces.{project}
use Rattle.box_faces.specs.Sides.{face_sides, on_side}
use Rattle.edges.specs.Edges.{sorted_pair, same_pair, pair_before}
use Rattle.candidate_pool.specs.OpenEdges.{OpenEdge}
use Rattle.candidate_pool.specs.Pool.{Pool, point_of, face_list}

pub record Constraint : Type 0 where
  pub face : ℕ
  pub smaller : ℕ
  pub greater : ℕ

abbrev pub constraint : ℕ → ℕ → ℕ → Constraint
constraint f a b = record { face = f; smaller = a; greater = b }

abbrev pub constraint_words : List Constraint → List ℕ
constraint_words l = flat_map (λ c. c.face ∷ c.smaller ∷ c.greater ∷ []) l

unfoldable pub consecutive : List ℕ → List (ℕ × ℕ)
consecutive [] = []
consecutive (a ∷ []) = []
consecutive (a ∷ b ∷ l) = (a, b) ∷ consecutive (b ∷ l)

abbrev pub standing : ℕ → Option Float → List (Float × ℕ)
standing i (Some t) = (t, i) ∷ []
standing i None = []

module _ (box : AABB) (eps : Float) (edges : List OpenEdge) (pool : Pool) (f : ℕ) where
  unfoldable pub side_order : Side → List ℕ
  side_order s =
      let l = face_list pool f in
      map (λ x. x.1)
      (sort_by (λ x y. before x.0 y.0)
      (flat_map (λ i. standing i (on_side eps s (project f (point_of pool (get_or l i 0))))) (up_to (length l))))

  unfoldable pub edge_places : List (ℕ × ℕ)
  edge_places =
      let l = face_list pool f in
      map (λ e. (place (eqb e.from) l, place (eqb e.to) l)) (keep (λ e. eqb e.face f) edges)

  -- "neighbours along each box side .. plus open edges; none on a face with under three candidates"
  unfoldable pub face_constraints : List Constraint
  face_constraints =
      let pairs = flat_map (λ s. consecutive (side_order s)) (face_sides box f) ++ edge_places in
      let listed = map (λ q. constraint f (sorted_pair q).0 (sorted_pair q).1) (distinct same_pair (sort_by pair_before pairs)) in
      cond (ltb (length (face_list pool f)) 3) [] listed
