-- Laws of the tolerance: the sides of an accepted box have a finite diagonal, and the reply by cases.
use mathlib.Core.Path.{◌≡◌, sym, ap, ◌∙◌}
use mathlib.Core.Bool.{true, false, not}
use mathlib.Core.List.{List, [], ◌∷◌}
use Prim.Native.Nat.{ℕ}
use lib.Dec.{T, lit≤}
use lib.Ieee.{binary64, to_bits}
use Rattle.root.specs.Root.{rootable}
use Rattle.root.proofs.Powers.{sub_pow}
use Rattle.geometry.specs.declared.aabb.AABB.{AABB}
use Rattle.geometry.specs.Points.{norm2}
use Rattle.geometry.proofs.Points.{PointWithin, norm2_rootable}
use Rattle.std.specs.Prelude.{Result}
use Rattle.refusals.specs.declared.refusal.Refusal.{Refusal}
use Rattle.refusals.specs.declared.refusal.Refusal.TheVariants.{BadNumber, BadBox}
use Rattle.refusals.specs.Refusals.{documented, numbered}
use Rattle.input_tests.specs.Front.{box_in_range, bad_box}
use Rattle.refusals.proofs.Refusals.{holds, passes, none_left}
use Rattle.input_tests.proofs.Ranges.{box_within}
use Rattle.tolerance.specs.Tolerance.{box_lengths, tolerance, tolerance_reply}

pub sides_within : (b : AABB) → box_in_range b ≡ true → PointWithin 31 (box_lengths b)
sides_within b e =
    let h = box_within b e in
    record {
      x = sub_pow 30 (lit≤ tt) h.x.high_within h.x.low_within;
      y = sub_pow 30 (lit≤ tt) h.y.high_within h.y.low_within;
      z = sub_pow 30 (lit≤ tt) h.z.high_within h.z.low_within;
    }

pub sides_rootable : (b : AABB) → box_in_range b ≡ true → T (rootable (norm2 (box_lengths b)))
sides_rootable b e = norm2_rootable 31 (lit≤ tt) (sides_within b e)

-- ---- the reply: 4 before 5

abbrev replied : AABB → Result (Unit {0}) Refusal → List ℕ
replied b c = numbered c (to_bits binary64 (tolerance b) ∷ [])

pub reply_bad_number : (b : AABB) → box_in_range b ≡ false → documented BadNumber ≡ tolerance_reply b
reply_bad_number b e = sym (ap (replied b) (holds _ BadNumber _ (ap not e)))

pub reply_bad_box : (b : AABB) → box_in_range b ≡ true → bad_box b ≡ true → documented BadBox ≡ tolerance_reply b
reply_bad_box b e f = sym (ap (replied b) (passes _ BadNumber _ (ap not e) ∙ holds _ BadBox _ f))

pub reply_done : (b : AABB) → box_in_range b ≡ true → bad_box b ≡ false → 0 ∷ to_bits binary64 (tolerance b) ∷ [] ≡ tolerance_reply b
reply_done b e f = sym (ap (replied b) (passes _ BadNumber _ (ap not e) ∙ passes _ BadBox _ f ∙ none_left))
