-- The box and its faces (document 01, "What the service takes"): "two corners of three doubles". Assumes nothing.
--   lowest, highest     a corner's coordinate on axis 0, 1, 2
--   axes, faces   0, 1, 2; and 0 to 5, "XMin, XMax, YMin, YMax, ZMin, ZMax"
--   axis, is_min   the axis that face f bounds, and whether it is the min face
--   plane         where face f stands
--   axis_of, face_of   the number of an `Axis` and of a `BoxFace`
--   Numbered      what a number from 0 on is read as: the face of that number, or none
use Rattle.std.specs.Prelude.{ℕ, ◌/◌, ◌%◌, ◌≡◌, ◌<◌, Bool, cond, List, [], ◌∷◌, eqb, get_or, Float, Result, MatchResult}
use Rattle.std.specs.Float.{nan}
use Rattle.geometry.specs.declared.aabb.AABB.{AABB}
use Rattle.geometry.specs.declared.face.Axis.{Axis}
use Rattle.geometry.specs.declared.face.Axis.TheVariants.{X, Y, Z}
use Rattle.geometry.specs.declared.face.BoxFace.{BoxFace}
use Rattle.geometry.specs.declared.face.BoxFace.TheVariants.{XMin, XMax, YMin, YMax, ZMin, ZMax}
use Rattle.geometry.specs.declared.face.UnknownFace.{UnknownFace}

abbrev pub lowest : AABB → ℕ → Float
lowest b k = get_or b.min_corner k nan

abbrev pub highest : AABB → ℕ → Float
highest b k = get_or b.max_corner k nan

abbrev pub axes : List ℕ
axes = 0 ∷ 1 ∷ 2 ∷ []

-- "in face order"
abbrev pub faces : List ℕ
faces = 0 ∷ 1 ∷ 2 ∷ 3 ∷ 4 ∷ 5 ∷ []

abbrev pub axis : ℕ → ℕ
axis f = f / 2

abbrev pub is_min : ℕ → Bool
is_min f = eqb (f % 2) 0

abbrev pub plane : AABB → ℕ → Float
plane b f = cond (is_min f) (lowest b (axis f)) (highest b (axis f))

abbrev pub axis_of : Axis → ℕ
axis_of X = 0
axis_of Y = 1
axis_of Z = 2

-- "XMin, XMax, YMin, YMax, ZMin, ZMax"
abbrev pub face_of : BoxFace → ℕ
face_of XMin = 0
face_of XMax = 1
face_of YMin = 2
face_of YMax = 3
face_of ZMin = 4
face_of ZMax = 5

abbrev pub Numbered : ℕ → Result BoxFace UnknownFace → Type 0
Numbered n r = MatchResult r (λ f. face_of f ≡ n) (λ e. (e.0 ≡ n) × (5 < n))
