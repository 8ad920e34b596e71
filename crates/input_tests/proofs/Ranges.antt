-- What the ranges of test 4 give: bounds, so that sums, products and roots of accepted numbers are finite.
use mathlib.Core.Path.{◌≡◌, refl, sym, subst}
use mathlib.Core.Bool.{Bool, true, false, not, cond, ◌&&◌, ◌||◌}
use Rattle.std.specs.Prelude.{Some, None}
use Rattle.std.specs.declared.ops.RangeInclusive.{RangeInclusive}
use Rattle.std.specs.Ordering.{partial_le, is_some_and, is_le, float_partial_cmp}
use Rattle.std.specs.declared.cmp.Ordering.TheVariants.{Less, Equal, Greater}
use Rattle.std.specs.Range.{range_inclusive_start, range_inclusive_end, range_inclusive_exhausted, range_inclusive_contains}
use Prim.Native.Nat.{ℕ, ◌^◌}
use native.Mathlib.Omega.{arith}
use lib.Dec.{T}
use lib.Ieee.{Float, nan, inf, fin, is_nan, of_bits, neg, le, lt, eq}
use Rattle.lists.proofs.Bools.{and_left, and_right}
use Rattle.root.specs.Doubles.{2^30}
use Rattle.root.specs.Bounds.{Within}
use Rattle.root.proofs.Powers.{in_range_lem}
use Rattle.geometry.specs.declared.aabb.AABB.{AABB}
use Rattle.geometry.specs.Boxes.{lowest, highest}
use Rattle.input_tests.specs.Front.{in_range, box_in_range, eps_in_range}

pub in_range_within : (x : Float) → in_range x ≡ true → Within (2 ^ 30) x
unfolding in_range
in_range_within x e =
    in_range_lem x (subst T (sym (and_left (le (neg 2^30) x) (le x 2^30) e)) tt) (subst T (sym (and_right (le (neg 2^30) x) (le x 2^30) e)) tt)

-- both corners on the axes 0, 1, 2
pub record CornersWithin (b : AABB) (k : ℕ) : Type 0 where
  pub low_within : Within (2 ^ 30) (lowest b k)
  pub high_within : Within (2 ^ 30) (highest b k)

pub record BoxWithin (b : AABB) : Type 0 where
  pub x : CornersWithin b 0
  pub y : CornersWithin b 1
  pub z : CornersWithin b 2

corners : (b : AABB) (k : ℕ) → (in_range (lowest b k) && in_range (highest b k)) ≡ true → CornersWithin b k
corners b k e =
    record {
      low_within = in_range_within (lowest b k) (and_left (in_range (lowest b k)) (in_range (highest b k)) e);
      high_within = in_range_within (highest b k) (and_right (in_range (lowest b k)) (in_range (highest b k)) e);
    }

pub box_within : (b : AABB) → box_in_range b ≡ true → BoxWithin b
unfolding box_in_range
box_within b e =
    let rest = and_right (in_range (lowest b 0) && in_range (highest b 0)) _ e in
    let last = and_right (in_range (lowest b 1) && in_range (highest b 1)) _ rest in
    record {
      x = corners b 0 (and_left (in_range (lowest b 0) && in_range (highest b 0)) _ e);
      y = corners b 1 (and_left (in_range (lowest b 1) && in_range (highest b 1)) _ rest);
      z = corners b 2 (and_left (in_range (lowest b 2) && in_range (highest b 2)) _ last);
    }

-- an eps in range is a number: it has bits
pub eps_is_number : (x : Float) → eps_in_range x ≡ true → T (not (is_nan x))
unfolding eps_in_range is_nan of_bits le lt eq
eps_is_number nan e = absurd (let z : ◌≡◌ {A = ℕ} 0 1 = cc in omega arith)
eps_is_number (inf s) e = tt
eps_is_number (fin s m d) e = tt

-- `<=` of doubles, as the library's order answers it, and what `contains` answers of a range of them
at_most : (x y : Float) → partial_le float_partial_cmp x y ≡ le x y
unfolding le
at_most x y = go (lt x y) (eq x y) (lt y x)
  where
    go : (a b c : Bool) → is_some_and is_le (cond a (Some Less) (cond b (Some Equal) (cond c (Some Greater) None))) ≡ (a || b)
    go true b c = refl
    go false true c = refl
    go false false true = refl
    go false false false = refl

module _ (r : RangeInclusive Float) (low high x : Float) where
  pub contained : range_inclusive_start r ≡ low → range_inclusive_end r ≡ high → range_inclusive_exhausted r ≡ false
      → range_inclusive_contains float_partial_cmp r x ≡ (le low x && le x high)
  contained s e n = simp (s, e, n, at_most)
