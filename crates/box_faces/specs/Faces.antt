-- The faces of the box by number (document 01, module 5; `BoxFace` of boundary_closure.rs). A face is its whole plane: the box does not bound it. Assumes nothing.
--   uv             a point of a face by its own coordinates u and v
--   u_axis, v_axis   `uv_axes`: the axes that u and v run along
--   project        a point's u and v
--   on_face         `point_on`: a point is within eps of the plane
--   faces_of        `aabb_face_mask`: the faces that both of two points lie on, in face order
--   face_bits       faces as one word: "bit f for face f"
--   has_bit, bit_count   a word's bit for face f, and how many of its six bits are set
--   ccw_is_outward   counter-clockwise in u and v is outward: on XMax, YMin and ZMax
use Rattle.std.specs.Prelude.{ℕ, ◌+◌, ◌/◌, ◌%◌, ◌^◌, Bool, cond, ◌&&◌, List, [], ◌∷◌, eqb, length, Float}
use Rattle.lists.specs.Lists.{keep, has}
use Rattle.root.specs.Doubles.{◌⊖◌, within}
use Rattle.geometry.specs.declared.point.Point.{Point}
use Rattle.geometry.specs.declared.aabb.AABB.{AABB}
use Rattle.geometry.specs.Points.{along}
use Rattle.geometry.specs.Boxes.{faces, axis, plane}
use Rattle.box_faces.specs.declared.uv.Uv.{Uv}

abbrev pub uv : Float → Float → Uv
uv u v = record { u = u; v = v }

-- X faces: y and z; Y faces: x and z; Z faces: x and y
abbrev pub u_axis : ℕ → ℕ
u_axis f = cond (eqb (axis f) 0) 1 0

abbrev pub v_axis : ℕ → ℕ
v_axis f = cond (eqb (axis f) 2) 1 2

unfoldable pub project : ℕ → Point → Uv
project f p = uv (along p (u_axis f)) (along p (v_axis f))

unfoldable pub face_bits : List ℕ → ℕ
face_bits [] = 0
face_bits (f ∷ l) = 2 ^ f + face_bits l

unfoldable pub has_bit : ℕ → ℕ → Bool
has_bit mask f = eqb (mask / 2 ^ f % 2) 1

unfoldable pub bit_count : ℕ → ℕ
bit_count mask = length (keep (has_bit mask) faces)

abbrev pub ccw_is_outward : ℕ → Bool
ccw_is_outward f = has (1 ∷ 2 ∷ 5 ∷ []) f

module _ (box : AABB) (eps : Float) where
  unfoldable pub on_face : ℕ → Point → Bool
  on_face f p = within eps (along p (axis f) ⊖ plane box f)

  unfoldable pub faces_of : Point → Point → List ℕ
  faces_of p q = keep (λ f. on_face f p && on_face f q) faces
