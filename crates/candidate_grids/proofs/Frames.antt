-- Rooms that agree where segments stand: they stand in both. Assumes nothing.
--   segment_same, hit_same, skips_same, near_same   the words of segments
use Prim.Native.Nat.{ℕ, ◌+◌, ◌*◌, ◌≤◌, ◌<◌}
use native.Mathlib.Omega.{arith}
use mathlib.Core.Path.{◌≡◌, sym, ap, subst, ◌∙◌}
use mathlib.Core.List.{List}
use lib.ListN.{length, get_or}
use lib.Ieee.{Float, binary64, of_bits}
use Rattle.lists.proofs.Sequences.{some_below}
use Rattle.box_faces.specs.declared.uv.Uv.{Uv}
use Rattle.candidate_grids.specs.declared.grids.Near.{Near}
use Rattle.candidate_grids.specs.Steps.{double, SegmentIn, SegmentAt, start_at, end_at, hit_at, skips_at, NearReady}
use Rattle.candidate_pool.specs.Offsets.{joined_at}

module _ (w v : List ℕ) (at : ℕ) (same : (k : ℕ) → k < 5 → get_or v (at + k) 0 ≡ get_or w (at + k) 0) where
  word : get_or v at 0 ≡ get_or w at 0
  word = let e : at ≡ at + 0 = omega arith in ap (λ (x : ℕ). get_or v x 0) e ∙ same 0 (omega arith) ∙ ap (λ (x : ℕ). get_or w x 0) (sym e)

  start_same : start_at v at ≡ start_at w at
  start_same = let a = word in let b = same 1 (omega arith) in cc

  end_same : end_at v at ≡ end_at w at
  end_same = let a = same 2 (omega arith) in let b = same 3 (omega arith) in cc

  bound_same : double v (at + 4) ≡ double w (at + 4)
  bound_same = ap (of_bits binary64) (same 4 (omega arith))

  pub segment_same : SegmentAt w at → SegmentAt v at
  segment_same s =
      subst (λ (x : Uv). SegmentIn x (end_at v at) (double v (at + 4))) (sym start_same)
      (subst (λ (x : Uv). SegmentIn (start_at w at) x (double v (at + 4))) (sym end_same)
      (subst (λ (x : Float). SegmentIn (start_at w at) (end_at w at) x) (sym bound_same) s))

  pub hit_same : (tolerance : Float) (p : Uv) → hit_at v at tolerance p ≡ hit_at w at tolerance p
  unfolding hit_at
  hit_same tolerance p = let a = start_same in let b = end_same in let c = bound_same in cc

module _ (w v : List ℕ) (at count : ℕ) (same : (x : ℕ) → at ≤ x → x < at + 5 * count → get_or v x 0 ≡ get_or w x 0) where
  pub skips_same : (tolerance : Float) (p : Uv) → skips_at v at count tolerance p ≡ skips_at w at count tolerance p
  unfolding skips_at
  skips_same tolerance p =
      some_below (λ i. hit_at v (at + 5 * i) tolerance p) (λ i. hit_at w (at + 5 * i) tolerance p) count
      (λ i h. hit_same w v (at + 5 * i) (λ k l. same (at + 5 * i + k) (omega arith) (omega arith)) tolerance p)

pub near_same : (n : ℕ) (near : Near) (w v : List ℕ) → length v ≡ length w → ((x : ℕ) → joined_at n ≤ x → get_or v x 0 ≡ get_or w x 0) → NearReady n near w → NearReady n near v
near_same n near w v long same r =
    record {
      above = r.above;
      size = let s = r.size in omega arith;
      segments = λ i h. segment_same w v (near.at + 5 * i) (λ k l. same (near.at + 5 * i + k) (let a = r.above in omega arith)) (r.segments i h);
    }
