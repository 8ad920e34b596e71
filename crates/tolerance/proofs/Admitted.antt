-- The tolerance of an accepted box is an eps that document 01 admits: "eps from 0 to 1".
use mathlib.Core.Path.{◌≡◌, refl, ap, ◌∙◌}
use mathlib.Core.Bool.{Bool, true, false, cond}
use mathlib.Core.List.{[], ◌∷◌}
use Prim.Native.Nat.{◌^◌}
use lib.Dec.{T, lit≤, lit<}
use lib.Ieee.{Float, binary64, fits, of_bits, to_bits, lt, le}
use lib.Ieee.Fits.{add-fits}
use Rattle.lists.proofs.Bools.{and_next}
use Rattle.root.specs.Doubles.{zero_f, one_f, 1e-10, larger, negative}
use Rattle.root.specs.Bounds.{Within}
use Rattle.root.proofs.Bounds.{held_pow, held_small, mul_below, mul_plus, plus_from_zero, plus_to_one}
use Rattle.root.proofs.Computed.{root_meets, computed_within}
use Rattle.geometry.specs.declared.aabb.AABB.{AABB}
use Rattle.geometry.specs.Points.{dot, norm, norm2}
use Rattle.geometry.proofs.Points.{norm2_within, norm2_plus, norm2_rootable}
use Rattle.refusals.specs.declared.refusal.Refusal.{Refusal}
use Rattle.refusals.specs.Refusals.{documented}
use Rattle.input_tests.specs.Front.{box_in_range, bad_box, eps_in_range}
use Rattle.std.specs.Prelude.{Result, Ok, Err}
use Rattle.tolerance.specs.Tolerance.{box_lengths, tolerance, tolerance_reply, Tolerated}
use Rattle.tolerance.proofs.Replies.{sides_within, reply_done}

norm2_fits : (b : AABB) → T (fits binary64 (norm2 (box_lengths b)))
unfolding dot
norm2_fits b = add-fits binary64 _ _

module _ (b : AABB) (e : box_in_range b ≡ true) where
  diagonal_within : Within (2 ^ 32) (norm (box_lengths b))
  diagonal_within =
      computed_within (norm2 (box_lengths b)) (norm2_fits b) (norm2_rootable 31 (lit≤ tt) (sides_within b e)) (2 ^ 32) (held_pow 32 (lit≤ tt))
      (norm2_within 31 (lit≤ tt) (sides_within b e))

  diagonal_plus : negative (norm (box_lengths b)) ≡ false
  diagonal_plus =
      (root_meets (norm2 (box_lengths b)) (norm2_fits b) (norm2_rootable 31 (lit≤ tt) (sides_within b e))).sign
      ∙ norm2_plus 31 (lit≤ tt) (sides_within b e)

-- both choices of `larger` are within 2 ^ 32 and have no sign
pick_within : (t : Bool) (d : Float) → Within (2 ^ 32) d → Within (2 ^ 32) (cond t one_f d)
unfolding of_bits
pick_within true d h = record { is_finite = tt; size = lit≤ tt }
pick_within false d h = h

pick_plus : (t : Bool) (d : Float) → negative d ≡ false → negative (cond t one_f d) ≡ false
unfolding of_bits
pick_plus true d h = refl
pick_plus false d h = h

module _ (b : AABB) (e : box_in_range b ≡ true) where
  most : Within (2 ^ 32) (larger (norm (box_lengths b)) one_f)
  unfolding larger
  most = pick_within (lt (norm (box_lengths b)) one_f) (norm (box_lengths b)) (diagonal_within b e)

  plus : negative (larger (norm (box_lengths b)) one_f) ≡ false
  unfolding larger
  plus = pick_plus (lt (norm (box_lengths b)) one_f) (norm (box_lengths b)) (diagonal_plus b e)

  -- 1e-10 times 2 ^ 32 is below 1
  within_one : Within 1 (tolerance b)
  unfolding tolerance of_bits
  within_one = mul_below binary64 {A = 2 ^ 32} {B = 1} 1e-10 (lit< tt) (held_small binary64 1 (lit≤ tt)) tt (lit≤ tt) most

  no_sign : negative (tolerance b) ≡ false
  unfolding tolerance of_bits
  no_sign = mul_plus binary64 1e-10 (larger (norm (box_lengths b)) one_f) tt most.is_finite refl plus

  pub tolerance_admitted : eps_in_range (tolerance b) ≡ true
  unfolding eps_in_range of_bits
  tolerance_admitted = and_next (le zero_f (tolerance b)) (le (tolerance b) one_f) true (plus_from_zero within_one no_sign) (plus_to_one within_one no_sign)

-- ---- what `bbox_eps` promises, by cases

pub refused : (b : AABB) (r : Refusal) → documented r ≡ tolerance_reply b → Tolerated b (Err r)
refused b r e = record { replied = e; admitted = λ eps h. absurd (never r eps h); rooted = λ eps h. absurd (never r eps h) }
  where
    never : (r : Refusal) (eps : Float) → ◌≡◌ {A = Result Float Refusal} (Err r) (Ok eps) → ⊥
    never r eps h = cc

pub tolerated : (b : AABB) (eps : Float) → eps ≡ tolerance b → box_in_range b ≡ true → bad_box b ≡ false → Tolerated b (Ok eps)
tolerated b eps h e f =
    record {
      replied = ap (λ (d : Float). 0 ∷ to_bits binary64 d ∷ []) h ∙ reply_done b e f;
      admitted = λ d k. ap eps_in_range (let same : d ≡ tolerance b = cc in same) ∙ tolerance_admitted b e;
      rooted = λ d k. root_meets (norm2 (box_lengths b)) (norm2_fits b) (norm2_rootable 31 (lit≤ tt) (sides_within b e));
    }
