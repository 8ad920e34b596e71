-- Laws of meshes (specs/Meshes.antt): flat coordinates and points. Assumes nothing.
--   length_points_of, vertex_at            how many vertices, and the coordinates of one
--   length_coordinates, coordinates_append, coordinates_points_of   points as coordinates; to points and back, a list is itself
use Prim.Native.Nat.{ℕ, ◌+◌, ◌*◌, ◌/◌, ◌%◌, ◌<◌}
use mathlib.Core.Path.{◌≡◌, refl, ap, ◌∙◌}
use mathlib.Core.List.{List, [], ◌∷◌, ◌++◌, flat_map}
use native.Mathlib.Omega.{arith}
use lib.ListN.{get_or, length, length-map, get_or-map}
use lib.Ieee.{Float}
use Rattle.lists.proofs.Sequences.{flat_map_append}
use Rattle.geometry.specs.declared.point.Point.{Point}
use Rattle.geometry.specs.Points.{pt, origin}
use Rattle.geometry.specs.Triangles.{Triangle, tri, threes}
use Rattle.geometry.specs.Meshes.{points_of, coordinates, vertex}
use Rattle.geometry.proofs.Threes.{length_threes, threes_at_lem}

abbrev three : Triangle Float → Point
three t = pt t.a t.b t.c

pub length_points_of : (l : List Float) → length (points_of l) ≡ length l / 3
length_points_of l = length-map (threes l) three ∙ length_threes l

-- any z: there are coordinates enough
pub vertex_at : (l : List Float) (v : ℕ) (z : Float) → 3 * v + 2 < length l → vertex (points_of l) v ≡ pt (get_or l (3 * v) z) (get_or l (3 * v + 1) z) (get_or l (3 * v + 2) z)
vertex_at l v z h =
    get_or-map three (threes l) v (tri origin.x origin.y origin.z)
    ∙ ap three (threes_at_lem l v (tri origin.x origin.y origin.z) z h)

pub length_coordinates : (l : List Point) → length (coordinates l) ≡ 3 * length l
unfolding flat_map
length_coordinates [] = refl
length_coordinates (p ∷ l) = omega (arith, length_coordinates l)

pub coordinates_append : (l m : List Point) → coordinates (l ++ m) ≡ coordinates l ++ coordinates m
coordinates_append l m = flat_map_append (λ (p : Point). p.x ∷ p.y ∷ p.z ∷ []) l m

pub coordinates_points_of : (l : List Float) → length l % 3 ≡ 0 → coordinates (points_of l) ≡ l
unfolding threes flat_map
coordinates_points_of [] h = refl
coordinates_points_of (x ∷ []) h = absurd (omega arith)
coordinates_points_of (x ∷ y ∷ []) h = absurd (omega arith)
coordinates_points_of (x ∷ y ∷ z ∷ l) h = ap (λ (m : List Float). x ∷ y ∷ z ∷ m) (coordinates_points_of l (omega arith))
