-- Snapping twice is snapping once, bit for bit: with any box, eps and point. Assumes nothing.
use mathlib.Core.Bool.{Bool, true, false, cond}
use mathlib.Core.Path.{◌≡◌, refl, sym, ap, ◌∙◌}
use lib.Ieee.{Float, binary64, sub}
use Rattle.root.specs.Doubles.{within}
use Rattle.geometry.specs.declared.point.Point.{Point}
use Rattle.geometry.specs.declared.aabb.AABB.{AABB}
use Rattle.geometry.specs.Points.{along}
use Rattle.geometry.specs.Boxes.{lowest, highest}
use Rattle.geometry.proofs.Within.{within_turned}
use Rattle.aabb_planes.specs.Planes.{snap_to, snapped}

-- ---- snapping twice is snapping once
module _ (lo hi eps : Float) where
  to_near : (v at : Float) → within eps (sub binary64 v at) ≡ true → snap_to eps at v ≡ at
  unfolding snap_to
  to_near v at h = ap (λ (b : Bool). cond b at v) h

  to_far : (v at : Float) → within eps (sub binary64 v at) ≡ false → snap_to eps at v ≡ v
  unfolding snap_to
  to_far v at h = ap (λ (b : Bool). cond b at v) h

  same : (b : Bool) (x : Float) → cond b x x ≡ x
  same true x = refl
  same false x = refl

  to_itself : (at : Float) → snap_to eps at at ≡ at
  unfolding snap_to
  to_itself at = same (within eps (sub binary64 at at)) at

  high_stays : (b : Bool) → within eps (sub binary64 hi lo) ≡ b → snap_to eps hi (snap_to eps lo hi) ≡ hi
  high_stays true h = ap (λ (x : Float). snap_to eps hi x) (to_near hi lo h) ∙ to_near lo hi (within_turned lo hi eps ∙ h)
  high_stays false h = ap (λ (x : Float). snap_to eps hi x) (to_far hi lo h) ∙ to_itself hi

  low_stays : (v : Float) (b : Bool) → within eps (sub binary64 v lo) ≡ b → snap_to eps lo (snap_to eps lo v) ≡ snap_to eps lo v
  low_stays v true h = ap (λ (x : Float). snap_to eps lo x) (to_near v lo h) ∙ to_itself lo ∙ sym (to_near v lo h)
  low_stays v false h = ap (λ (x : Float). snap_to eps lo x) (to_far v lo h)

  axis_by : (v : Float) (b : Bool) → within eps (sub binary64 (snap_to eps lo v) hi) ≡ b
      → snap_to eps hi (snap_to eps lo (snap_to eps hi (snap_to eps lo v))) ≡ snap_to eps hi (snap_to eps lo v)
  axis_by v true h =
      ap (λ (x : Float). snap_to eps hi (snap_to eps lo x)) (to_near (snap_to eps lo v) hi h) ∙ high_stays (within eps (sub binary64 hi lo)) refl ∙ sym
      (to_near (snap_to eps lo v) hi h)
  axis_by v false h =
      ap (λ (x : Float). snap_to eps hi (snap_to eps lo x)) (to_far (snap_to eps lo v) hi h)
      ∙ ap (λ (x : Float). snap_to eps hi x) (low_stays v (within eps (sub binary64 v lo)) refl)

  axis_twice : (v : Float) → snap_to eps hi (snap_to eps lo (snap_to eps hi (snap_to eps lo v))) ≡ snap_to eps hi (snap_to eps lo v)
  axis_twice v = axis_by v (within eps (sub binary64 (snap_to eps lo v) hi)) refl

pub snap_twice : (box : AABB) (eps : Float) (p : Point) → snapped box eps (snapped box eps p) ≡ snapped box eps p
unfolding snapped along
snap_twice box eps p = λ i. record {
  x = axis_twice (lowest box 0) (highest box 0) eps p.x i;
  y = axis_twice (lowest box 1) (highest box 1) eps p.y i;
  z = axis_twice (lowest box 2) (highest box 2) eps p.z i;
}
