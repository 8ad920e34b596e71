-- Points near a segment of a face (document 01, module 5; `point_on_segment2` of boundary_closure.rs). Assumes nothing.
--   segment_length     the length of a segment with the extent d in u and v
--   uv_difference             a difference in u and v
--   segment_bound      how large the cross product of a point near the segment may be
--   on_segment_by       a point lies on the segment from a to b, for such a bound and a tolerance at the ends
--   on_segment         `point_on_segment2`: the same for the segment's own bound
use Rattle.std.specs.Prelude.{Bool, not, ◌&&◌, Float}
use Rattle.std.specs.Float.Ieee.{lt, le}
use Rattle.root.specs.Doubles.{◌⊕◌, ◌⊖◌, ◌⊗◌, one_f, magnitude, larger}
use Rattle.hypot.specs.Length.{hypotenuse}
use Rattle.box_faces.specs.declared.uv.Uv.{Uv}
use Rattle.box_faces.specs.Faces.{uv}

-- "the double nearest the exact root of the exact sum, the even one where two are equally near" (document 02, E3)
unfoldable pub segment_length : Uv → Float
segment_length d = hypotenuse d.u d.v

abbrev pub uv_difference : Uv → Uv → Uv
uv_difference p q = uv (p.u ⊖ q.u) (p.v ⊖ q.v)

-- the tolerance for each unit of a length of at least 1
unfoldable pub segment_bound : Float → Uv → Uv → Float
segment_bound tolerance a b = tolerance ⊗ larger (segment_length (uv_difference b a)) one_f

-- beside the line by no more than the bound; and between the ends, or beyond one by no more than the tolerance's square
unfoldable pub on_segment_by : Float → Float → Uv → Uv → Uv → Bool
on_segment_by bound tolerance p a b =
    let ab = uv_difference b a in
    let ap = uv_difference p a in
    let bp = uv_difference p b in
    not (lt bound (magnitude (ab.u ⊗ ap.v ⊖ ab.v ⊗ ap.u)))
    && le (ap.u ⊗ bp.u ⊕ ap.v ⊗ bp.v) (tolerance ⊗ tolerance)

unfoldable pub on_segment : Float → Uv → Uv → Uv → Bool
on_segment tolerance p a b = on_segment_by (segment_bound tolerance a b) tolerance p a b
