-- The tolerance of a box (document 01, module 2; `bbox_eps` of aabb_clipping.rs). Assumes nothing.
--   tolerance            "1e-10 times the larger of 1 and the root of the summed squares of the sides"
--   tolerance_tests       4, 5
--   tolerance_reply       the reply: 0 and the tolerance's bits, or the refusal's number
--   documented_tolerance  the number and values of each case of the answer
--   Tolerated            what `bbox_eps` promises: that reply; that the tolerance is an eps in its range; and that its root is "the double nearest the exact root"
use Rattle.std.specs.Prelude.{ℕ, ◌≡◌, true, not, List, [], ◌∷◌, Float, Result, Ok, Err}
use Rattle.std.specs.Float.{binary64}
use Rattle.std.specs.Float.Ieee.{to_bits}
use Rattle.root.specs.Doubles.{◌⊖◌, ◌⊗◌, one_f, 1e-10, larger}
use Rattle.root.specs.Root.{IsRoot}
use Rattle.geometry.specs.declared.aabb.AABB.{AABB}
use Rattle.geometry.specs.declared.point.Point.{Point}
use Rattle.geometry.specs.Boxes.{lowest, highest}
use Rattle.geometry.specs.Points.{on_axes, norm2, norm}
use Rattle.refusals.specs.declared.refusal.Refusal.TheVariants.{BadNumber, BadBox}
use Rattle.refusals.specs.Refusals.{documented, Test, reply_to}
use Rattle.input_tests.specs.Front.{box_in_range, bad_box, eps_in_range}
use Rattle.refusals.specs.declared.refusal.Refusal.{Refusal}

abbrev pub box_lengths : AABB → Point
box_lengths b = on_axes (λ k. highest b k ⊖ lowest b k)

unfoldable pub tolerance : AABB → Float
tolerance b = 1e-10 ⊗ larger (norm (box_lengths b)) one_f

abbrev pub tolerance_tests : AABB → List Test
tolerance_tests b = (not (box_in_range b), BadNumber) ∷ (bad_box b, BadBox) ∷ []

abbrev pub tolerance_reply : AABB → List ℕ
tolerance_reply b = reply_to (tolerance_tests b) (to_bits binary64 (tolerance b) ∷ [])

abbrev pub documented_tolerance : Result Float Refusal → List ℕ
documented_tolerance (Ok eps) = 0 ∷ to_bits binary64 eps ∷ []
documented_tolerance (Err r) = documented r

pub record Tolerated (b : AABB) (r : Result Float Refusal) : Type 0 where
  pub replied : documented_tolerance r ≡ tolerance_reply b
  pub admitted : (eps : Float) → r ≡ Ok eps → eps_in_range eps ≡ true
  pub rooted : (eps : Float) → r ≡ Ok eps → IsRoot (norm2 (box_lengths b)) (norm (box_lengths b))
