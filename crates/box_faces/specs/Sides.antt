-- The sides of a face and the points along them (document 01, module 5; `face_boundary_sides` and `candidate_on_face_side` of boundary_closure.rs). Assumes nothing.
--   side_from     a side by its ends          face_sides   the four sides of a face, as they run
--   between_ends  t as a fraction, clamped, or nothing where it is further than `slack` beyond the ends
--   along_side    the fraction t at which a point stands along a side, or nothing
--   on_side       `candidate_on_face_side`: the same of a point given by u and v
use Rattle.std.specs.Prelude.{ℕ, cond, ◌&&◌, List, [], ◌∷◌, Float, Option, Some, None}
use Rattle.std.specs.Float.Ieee.{neg, le}
use Rattle.root.specs.Doubles.{◌⊕◌, ◌⊖◌, ◌⊘◌, one_f, magnitude, within, larger, clamped}
use Rattle.geometry.specs.declared.aabb.AABB.{AABB}
use Rattle.geometry.specs.Boxes.{lowest, highest}
use Rattle.box_faces.specs.declared.uv.Uv.{Uv}
use Rattle.box_faces.specs.declared.uv.Side.{Side}
use Rattle.box_faces.specs.Faces.{uv, u_axis, v_axis}

abbrev pub side_from : Uv → Uv → Side
side_from a b = record { start = a; end = b }

-- round the face: two of them run downward
unfoldable pub face_sides : AABB → ℕ → List Side
face_sides box f =
    let u0 = lowest box (u_axis f) in
    let u1 = highest box (u_axis f) in
    let v0 = lowest box (v_axis f) in
    let v1 = highest box (v_axis f) in
    side_from (uv u0 v0) (uv u1 v0) ∷ side_from (uv u1 v0) (uv u1 v1) ∷ side_from (uv u1 v1) (uv u0 v1) ∷ side_from (uv u0 v1) (uv u0 v0) ∷ []

-- an infinite t is beyond them
unfoldable pub between_ends : Float → Float → Option Float
between_ends t slack = cond (le (neg slack) t && le t (one_f ⊕ slack)) (Some (clamped t)) None

module _ (eps : Float) where
  -- of a side with this extent along its axis, and a point that stands at this fraction of it and this far from the side's line
  unfoldable pub along_side : (extent fraction away : Float) → Option Float
  along_side extent fraction away = cond (within eps away) (between_ends fraction (eps ⊘ larger (magnitude extent) eps)) None

  -- along u where the side is no longer in v
  unfoldable pub on_side : Side → Uv → Option Float
  on_side s p =
      let du = s.end.u ⊖ s.start.u in
      let dv = s.end.v ⊖ s.start.v in
      cond (le (magnitude dv) (magnitude du))
      (along_side du ((p.u ⊖ s.start.u) ⊘ du) (p.v ⊖ s.start.v))
      (along_side dv ((p.v ⊖ s.start.v) ⊘ dv) (p.u ⊖ s.start.u))
