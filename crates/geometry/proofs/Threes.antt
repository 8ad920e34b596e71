-- Laws of lists taken three at a time, and back (specs/Triangles.antt). Assumes nothing.
--   length_threes, threes_at_lem     how many triangles, and the corners of the i-th
--   length_flat, flat_append     flat lists; flat_threes   taken three at a time and back, a list is itself
--   three_set                    three stores, as a run of stores
use Prim.Native.Nat.{ℕ, zero, suc, ◌+◌, ◌*◌, ◌/◌, ◌%◌, ◌<◌}
use mathlib.Core.Path.{◌≡◌, refl, ap, ◌∙◌}
use mathlib.Core.List.{List, [], ◌∷◌, ◌++◌, flat_map}
use native.Mathlib.Omega.{arith}
use lib.ListN.{get_or, set, length}
use lib.Seq.{sets}
use Rattle.lists.proofs.Sequences.{flat_map_append}
use Rattle.geometry.specs.Triangles.{Triangle, tri, vertices, threes, flat}

module _ {A : Type 0} where
  pub length_threes : (l : List A) → length (threes l) ≡ length l / 3
  unfolding threes
  length_threes [] = refl
  length_threes (a ∷ []) = refl
  length_threes (a ∷ b ∷ []) = refl
  length_threes (a ∷ b ∷ c ∷ l) = omega (arith, length_threes l)

  pub threes_at_lem : (l : List A) (i : ℕ) (d : Triangle A) (z : A) → 3 * i + 2 < length l
      → get_or (threes l) i d ≡ tri (get_or l (3 * i) z) (get_or l (3 * i + 1) z) (get_or l (3 * i + 2) z)
  unfolding threes
  threes_at_lem [] i d z h = absurd (omega arith)
  threes_at_lem (a ∷ []) i d z h = absurd (omega arith)
  threes_at_lem (a ∷ b ∷ []) i d z h = absurd (omega arith)
  threes_at_lem (a ∷ b ∷ c ∷ l) zero d z h = refl
  threes_at_lem (a ∷ b ∷ c ∷ l) (suc i) d z h =
      let x : suc (suc (suc (3 * i))) ≡ 3 * suc i = omega arith in
      let y : suc (suc (suc (3 * i + 1))) ≡ 3 * suc i + 1 = omega arith in
      let w : suc (suc (suc (3 * i + 2))) ≡ 3 * suc i + 2 = omega arith in
      threes_at_lem l i d z (omega arith)
      ∙ (λ t. tri (get_or (a ∷ b ∷ c ∷ l) (x t) z) (get_or (a ∷ b ∷ c ∷ l) (y t) z) (get_or (a ∷ b ∷ c ∷ l) (w t) z))

  pub length_flat : (l : List (Triangle A)) → length (flat l) ≡ 3 * length l
  unfolding flat_map
  length_flat [] = refl
  length_flat (t ∷ l) = omega (arith, length_flat l)

  pub flat_append : (l m : List (Triangle A)) → flat (l ++ m) ≡ flat l ++ flat m
  flat_append l m = flat_map_append vertices l m

  pub flat_threes : (l : List A) → length l % 3 ≡ 0 → flat (threes l) ≡ l
  unfolding threes flat_map
  flat_threes [] h = refl
  flat_threes (a ∷ []) h = absurd (omega arith)
  flat_threes (a ∷ b ∷ []) h = absurd (omega arith)
  flat_threes (a ∷ b ∷ c ∷ l) h = ap (λ (m : List A). a ∷ b ∷ c ∷ m) (flat_threes l (omega arith))

  pub three_set : (out : List A) (at : ℕ) (a b c : A) → set (set (set out at a) (at + 1) b) (at + 2) c ≡ sets out at (a ∷ b ∷ c ∷ [])
  three_set out at a b c =
      let e : at + 1 ≡ suc at = omega arith in
      let f : at + 2 ≡ suc (suc at) = omega arith in
      (λ t. set (set (set out at a) (e t) b) (f t) c)
