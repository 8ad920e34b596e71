-- The points of a face's grid are bounded, in a box that passed the tests. Assumes nothing.
--   corner_in     a corner on an axis          line_in     a line of an axis
--   point_in      a point of a face from its three lines
use Prim.Native.Nat.{ℕ, zero, suc, ◌*◌, ◌^◌, ◌≤◌, ◌<◌}
use native.Mathlib.Omega.{arith}
use native.Mathlib.Nat.{mul-one, one-mul, le_trans, le_of_eq, mul-le-mul_right}
use mathlib.Core.Path.{◌≡◌, sym, subst, ◌∙◌}
use mathlib.Core.Bool.{Bool, true, false, cond}
use lib.Dec.{eqb, lit≤, lit<}
use lib.IntN.{pos}
use lib.Ieee.{Float, nan, inf, fin, binary64, up, down, of_int}
use lib.Ieee.Exact.{HasValue}
use Rattle.root.specs.Doubles.{◌⊕◌, ◌⊖◌, ◌⊗◌, ◌⊘◌}
use Rattle.root.specs.Bounds.{Within, AtLeast}
use Rattle.root.proofs.Bounds.{held_pow, held_small, round_within}
use Rattle.root.proofs.Powers.{within_pow, mul_pow, add_pow, sub_pow, div_pow}
use Rattle.geometry.specs.declared.point.Point.{Point}
use Rattle.geometry.specs.declared.aabb.AABB.{AABB}
use Rattle.geometry.specs.Boxes.{lowest, highest, axis}
use Rattle.input_tests.specs.Front.{box_in_range}
use Rattle.input_tests.proofs.Ranges.{CornersWithin, box_within}
use Rattle.box_faces.specs.Faces.{u_axis}
use Rattle.box_faces.specs.Lines.{line_at, point_on_face}
use Rattle.candidate_pool.specs.Standing.{PointIn}

pub corner_in : (box : AABB) (k : ℕ) → box_in_range box ≡ true → k < 3 → CornersWithin box k
corner_in box zero e h = (box_within box e).x
corner_in box (suc zero) e h = (box_within box e).y
corner_in box (suc (suc zero)) e h = (box_within box e).z
corner_in box (suc (suc (suc k))) e h = absurd (omega arith)

number_in : (i : ℕ) → i ≤ 256 → Within (2 ^ 8) (of_int binary64 (pos i))
unfolding of_int
number_in i h = round_within binary64 i 1 (2 ^ 8) (lit< tt) (lit< tt) (le_trans h (lit≤ tt)) (held_pow 8 (lit≤ tt)) false

whole_at_least : (x : Float) (b : ℕ) → HasValue x false b 1 → 1 ≤ b → AtLeast (2 ^ 0) x
whole_at_least nan b v h = absurd v
whole_at_least (inf s) b v h = absurd v
whole_at_least (fin s m e) b v h =
    record {
      is_finite = tt;
      size = le_trans (le_of_eq (sym (one-mul (down e)))) (le_trans (mul-le-mul_right (down e) h) (le_of_eq (sym v.1 ∙ mul-one (m * up e) ∙ sym (one-mul (m * up e)))));
    }

parts_at_least : (n : ℕ) → 1 ≤ n → n ≤ 256 → AtLeast (2 ^ 0) (of_int binary64 (pos n))
unfolding of_int
parts_at_least n a b = whole_at_least _ n (held_small binary64 n (le_trans b (lit≤ tt))) a

pub line_in : (box : AABB) (k parts i : ℕ) → box_in_range box ≡ true → k < 3 → 1 ≤ parts → parts ≤ 256 → i ≤ 256 →
    Within (2 ^ 48) (line_at (lowest box k) (highest box k) parts i)
unfolding line_at
line_in box k parts i e h some few j = go (eqb i parts)
  where
    C : CornersWithin box k
    C = corner_in box k e h

    ratio : Within (2 ^ 8) (of_int binary64 (pos i) ⊘ of_int binary64 (pos parts))
    ratio = div_pow 8 0 (lit≤ tt) (number_in i j) (parts_at_least parts some few)

    step : Within (2 ^ 39) ((highest box k ⊖ lowest box k) ⊗ (of_int binary64 (pos i) ⊘ of_int binary64 (pos parts)))
    step = mul_pow 31 8 (lit≤ tt) (sub_pow 30 (lit≤ tt) C.high_within C.low_within) ratio

    go : (b : Bool) → Within (2 ^ 48) (cond b (highest box k) (lowest box k ⊕ (highest box k ⊖ lowest box k) ⊗ (of_int binary64 (pos i) ⊘ of_int binary64 (pos parts))))
    go true = within_pow 30 48 (lit≤ tt) C.high_within
    go false = within_pow 40 48 (lit≤ tt) (add_pow 39 (lit≤ tt) (within_pow 30 39 (lit≤ tt) C.low_within) step)

pub point_in : (f : ℕ) (at u v : Float) (p : Point) → p ≡ point_on_face f at u v → Within (2 ^ 48) at → Within (2 ^ 48) u → Within (2 ^ 48) v → PointIn p
unfolding point_on_face
point_in f at u v p e a b c =
    subst PointIn (sym e)
    (record {
      x = go (eqb 0 (axis f)) (eqb 0 (u_axis f));
      y = go (eqb 1 (axis f)) (eqb 1 (u_axis f));
      z = go (eqb 2 (axis f)) (eqb 2 (u_axis f));
    })
  where
    go : (p q : Bool) → Within (2 ^ 48) (cond p at (cond q u v))
    go true q = a
    go false true = b
    go false false = c
