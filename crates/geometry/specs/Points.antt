-- Points (document 01, module 1; geometry/point.rs, and `normal` and `area2` of geometry/triangle.rs), each operation rounded. Assumes nothing.
--   pt, origin     a point by its coordinates; (0, 0, 0)
--   along, on_axes  a point's coordinate on axis 0, 1, 2; a point given by a coordinate for each axis
--   difference          `Point::sub`: "componentwise difference"       dot    "(x + y) + z"
--   cross          the Rust's cross product                       norm2, norm   dot with itself, and its root
--   normal, area2  of a triangle: (b - a) × (c - a), and its length, twice the area
use Rattle.std.specs.Prelude.{ℕ, zero, suc, Float}
use Rattle.root.specs.Doubles.{◌⊕◌, ◌⊖◌, ◌⊗◌, zero_f}
use Rattle.root.specs.Root.{root}
use Rattle.geometry.specs.declared.point.Point.{Point}
use Rattle.geometry.specs.Triangles.{Triangle}

abbrev pub pt : Float → Float → Float → Point
pt x y z = record { x = x; y = y; z = z }

abbrev pub origin : Point
origin = pt zero_f zero_f zero_f

unfoldable pub along : Point → ℕ → Float
along p zero = p.x
along p (suc zero) = p.y
along p (suc (suc k)) = p.z

abbrev pub on_axes : (ℕ → Float) → Point
on_axes f = pt (f 0) (f 1) (f 2)

unfoldable pub difference : Point → Point → Point
difference p q = pt (p.x ⊖ q.x) (p.y ⊖ q.y) (p.z ⊖ q.z)

unfoldable pub dot : Point → Point → Float
dot p q = p.x ⊗ q.x ⊕ p.y ⊗ q.y ⊕ p.z ⊗ q.z

unfoldable pub cross : Point → Point → Point
cross p q = pt (p.y ⊗ q.z ⊖ p.z ⊗ q.y) (p.z ⊗ q.x ⊖ p.x ⊗ q.z) (p.x ⊗ q.y ⊖ p.y ⊗ q.x)

abbrev pub norm2 : Point → Float
norm2 p = dot p p

abbrev pub norm : Point → Float
norm p = root (norm2 p)

abbrev pub normal : Triangle Point → Point
normal t = cross (difference t.b t.a) (difference t.c t.a)

abbrev pub area2 : Triangle Point → Float
area2 t = norm (normal t)
