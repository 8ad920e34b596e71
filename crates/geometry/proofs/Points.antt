-- Bounds of points: coordinates within a power of two keep differences, cross products and squared norms finite, and a squared norm has a root.
use mathlib.Core.Path.{◌≡◌}
use mathlib.Core.Bool.{false}
use Prim.Native.Nat.{ℕ, suc, ◌+◌, ◌^◌, ◌≤◌}
use native.Mathlib.Omega.{arith}
use lib.Dec.{T}
use lib.Ieee.{Float, binary64}
use Rattle.root.specs.Doubles.{◌⊖◌, ◌⊗◌, negative}
use Rattle.root.specs.Bounds.{Within}
use Rattle.root.specs.Root.{rootable}
use Rattle.root.proofs.Bounds.{square_plus, add_plus}
use Rattle.root.proofs.Powers.{sub_pow, mul_pow, add_pow, three_squares, three_rootable}
use Rattle.geometry.specs.declared.point.Point.{Point}
use Rattle.geometry.specs.Points.{difference, dot, cross, norm2}

-- every coordinate is at most 2 ^ k in size
pub record PointWithin (k : ℕ) (p : Point) : Type 0 where
  pub x : Within (2 ^ k) p.x
  pub y : Within (2 ^ k) p.y
  pub z : Within (2 ^ k) p.z

pub minus_within : (k : ℕ) → suc k ≤ 1023 → {p q : Point} → PointWithin k p → PointWithin k q → PointWithin (suc k) (difference p q)
unfolding difference
minus_within k room h g = record { x = sub_pow k room h.x g.x; y = sub_pow k room h.y g.y; z = sub_pow k room h.z g.z }

product : (k : ℕ) → suc (k + k) ≤ 1023 → {a b c d : Float} → Within (2 ^ k) a → Within (2 ^ k) b → Within (2 ^ k) c → Within (2 ^ k) d →
    Within (2 ^ suc (k + k)) (a ⊗ b ⊖ c ⊗ d)
product k room ha hb hc hd =
    let less : k + k ≤ 1023 = omega arith in
    sub_pow (k + k) room (mul_pow k k less ha hb) (mul_pow k k less hc hd)

pub cross_within : (k : ℕ) → suc (k + k) ≤ 1023 → {p q : Point} → PointWithin k p → PointWithin k q → PointWithin (suc (k + k)) (cross p q)
unfolding cross
cross_within k room h g =
    record {
      x = product k room h.y g.z h.z g.y;
      y = product k room h.z g.x h.x g.z;
      z = product k room h.x g.y h.y g.x;
    }

module _ (k : ℕ) (room : suc (suc (k + k)) ≤ 1023) {p : Point} (h : PointWithin k p) where
  pub norm2_within : Within (2 ^ suc (suc (k + k))) (norm2 p)
  unfolding dot
  norm2_within = three_squares k room h.x h.y h.z

  pub norm2_rootable : T (rootable (norm2 p))
  unfolding dot
  norm2_rootable = three_rootable k room h.x h.y h.z

  pub norm2_plus : negative (norm2 p) ≡ false
  unfolding dot
  norm2_plus =
      let less : k + k ≤ 1023 = omega arith in
      let more : suc (k + k) ≤ 1023 = omega arith in
      let x² = mul_pow k k less h.x h.x in
      let y² = mul_pow k k less h.y h.y in
      add_plus binary64 (add_pow (k + k) more x² y²) (mul_pow k k less h.z h.z)
      (add_plus binary64 x² y² (square_plus binary64 h.x) (square_plus binary64 h.y))
      (square_plus binary64 h.z)
