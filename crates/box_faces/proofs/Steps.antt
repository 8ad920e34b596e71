-- Laws about single steps of the functions of this crate. Assumes nothing.
--   third, fourth     a number below 3 (below 4) that is none of those before the last is the last
--   last_axis         an axis that is neither x nor y is z
--   le_same           a comparison of equal numbers
--   uv_is             u and v by their coordinates
--   segment_length_is   a segment's length by its two coordinates
--   segment_length_pow  how long it is, at most
--   far_off, near_by  the two answers of `point_on_segment2`
--   line_is           geometry's grid line is `line_at` for the segments that the axis needs
use Prim.Native.Nat.{ℕ, zero, suc, ◌^◌, ◌≤◌, ◌<◌}
use mathlib.Core.Path.{◌≡◌, refl, sym, subst, ◌∙◌}
use mathlib.Core.Bool.{Bool, true, false}
use native.Mathlib.Omega.{arith}
use lib.Ieee.{Float, lt, le}
use Rattle.root.specs.Doubles.{◌⊕◌, ◌⊖◌, ◌⊗◌, magnitude}
use Rattle.root.specs.Bounds.{Within}
use Rattle.hypot.specs.Length.{hypotenuse}
use Rattle.hypot.proofs.Computed.{hypotenuse_pow}
use Rattle.geometry.specs.declared.point.Point.{Point}
use Rattle.geometry.specs.declared.aabb.AABB.{AABB}
use Rattle.geometry.specs.Points.{along}
use Rattle.geometry.specs.Boxes.{lowest, highest}
use Rattle.geometry.specs.Axes.{segments, grid_line}
use Rattle.box_faces.specs.declared.uv.Uv.{Uv}
use Rattle.box_faces.specs.Faces.{uv}
use Rattle.box_faces.specs.Segments.{segment_length, uv_difference, on_segment_by}
use Rattle.box_faces.specs.Lines.{line_at}

pub third : (k : ℕ) → k < 3 → (k ≡ 0 → ⊥) → (k ≡ 1 → ⊥) → k ≡ 2
third zero h a b = absurd (a refl)
third (suc zero) h a b = absurd (b refl)
third (suc (suc k)) h a b = omega arith

pub fourth : (k : ℕ) → k < 4 → (k ≡ 0 → ⊥) → (k ≡ 1 → ⊥) → (k ≡ 2 → ⊥) → k ≡ 3
fourth zero h a b d = absurd (a refl)
fourth (suc zero) h a b d = absurd (b refl)
fourth (suc (suc zero)) h a b d = absurd (d refl)
fourth (suc (suc (suc k))) h a b d = omega arith

pub last_axis : (p : Point) (k : ℕ) → (k ≡ 0 → ⊥) → (k ≡ 1 → ⊥) → p.z ≡ along p k
unfolding along
last_axis p zero a b = absurd (a refl)
last_axis p (suc zero) a b = absurd (b refl)
last_axis p (suc (suc k)) a b = refl

pub le_same : {a b x y : Float} {r : Bool} → a ≡ x → b ≡ y → le a b ≡ r → le x y ≡ r
le_same e f t = sym (λ i. le (e i) (f i)) ∙ t

pub uv_is : {u v x y : Float} → u ≡ x → v ≡ y → ◌≡◌ {A = Uv} (uv u v) (uv x y)
uv_is e f = λ i. uv (e i) (f i)

pub segment_length_is : (d : Uv) → segment_length d ≡ hypotenuse d.u d.v
unfolding segment_length
segment_length_is d = refl

pub segment_length_pow : (d : Uv) (i : ℕ) → i ≤ 1021 → Within (2 ^ i) d.u → Within (2 ^ i) d.v → Within (2 ^ suc i) (segment_length d)
segment_length_pow d i I h g = subst (λ (x : Float). Within (2 ^ suc i) x) (sym (segment_length_is d)) (hypotenuse_pow d.u d.v i I h g)

module _ (bound tolerance : Float) (p a b : Uv) {ab ap bp : Uv} {m : Float} (eab : ab ≡ uv_difference b a) (eap : ap ≡ uv_difference p a) (ebp : bp ≡ uv_difference p b)
    (em : m ≡ magnitude (ab.u ⊗ ap.v ⊖ ab.v ⊗ ap.u)) where
  off_is : m ≡ magnitude ((b.u ⊖ a.u) ⊗ (p.v ⊖ a.v) ⊖ (b.v ⊖ a.v) ⊗ (p.u ⊖ a.u))
  off_is = em ∙ (λ i. magnitude ((eab i).u ⊗ (eap i).v ⊖ (eab i).v ⊗ (eap i).u))

  pub far_off : lt bound m ≡ true → false ≡ on_segment_by bound tolerance p a b
  unfolding on_segment_by
  far_off t = let e : lt bound (magnitude ((b.u ⊖ a.u) ⊗ (p.v ⊖ a.v) ⊖ (b.v ⊖ a.v) ⊗ (p.u ⊖ a.u))) ≡ true = sym (λ i. lt bound (off_is i)) ∙ t in simp e

  pub near_by : lt bound m ≡ false → le (ap.u ⊗ bp.u ⊕ ap.v ⊗ bp.v) (tolerance ⊗ tolerance) ≡ on_segment_by bound tolerance p a b
  unfolding on_segment_by
  near_by t =
      let e : lt bound (magnitude ((b.u ⊖ a.u) ⊗ (p.v ⊖ a.v) ⊖ (b.v ⊖ a.v) ⊗ (p.u ⊖ a.u))) ≡ false = sym (λ i. lt bound (off_is i)) ∙ t in
      simp e (λ i. le ((eap i).u ⊗ (ebp i).u ⊕ (eap i).v ⊗ (ebp i).v) (tolerance ⊗ tolerance))

pub line_is : (box : AABB) (eps : Float) (resolution : ℕ → Float) (k i : ℕ) → grid_line box eps resolution k i ≡ line_at (lowest box k) (highest box k) (segments box eps resolution k) i
unfolding grid_line line_at
line_is box eps resolution k i = refl
