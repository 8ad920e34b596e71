-- Laws of the word of faces that pass a test: its bits are the test's answers. Assumes nothing.
--   word_is      the word as a sum of six digits            word_small   it is below 64
--   bit_passes   the bit of a face is set exactly if the face passes
--   bits_count   as many bits are set as faces pass
--   word_adds    a face that joins adds its bit
use Prim.Native.Nat.{ℕ, zero, suc, ◌+◌, ◌*◌, ◌/◌, ◌%◌, ◌^◌, ◌<◌, ◌≤◌}
use mathlib.Core.Path.{◌≡◌, refl, sym, ap, ◌∙◌}
use mathlib.Core.Bool.{Bool, true, false, cond}
use native.Mathlib.Omega.{arith}
use borrow.Author.Tests.{eqb-true}
use lib.Dec.{eqb}
use lib.ListN.{length}
use Rattle.lists.specs.Lists.{keep}
use Rattle.geometry.specs.Boxes.{faces}
use Rattle.box_faces.specs.Faces.{face_bits, has_bit, bit_count}
use Rattle.box_faces.proofs.Masks.{mask_of, count_of}

abbrev pub digit : Bool → ℕ
digit b = cond b 1 0

digit_low : (b : Bool) → digit b ≤ 1
digit_low true = omega arith
digit_low false = omega arith

weighs : (k : ℕ) (b : Bool) → k * digit b ≡ cond b k 0
weighs k true = omega arith
weighs k false = omega arith

digit_is : (b : Bool) → eqb (digit b) 1 ≡ b
digit_is true = refl
digit_is false = refl

module _ (p : ℕ → Bool) where
  pub word_is : 1 * digit (p 0) + (2 * digit (p 1) + (4 * digit (p 2) + (8 * digit (p 3) + (16 * digit (p 4) + 32 * digit (p 5))))) ≡ face_bits (keep p faces)
  word_is = mask_of p _ _ _ _ _ _ (weighs 1 (p 0)) (weighs 2 (p 1)) (weighs 4 (p 2)) (weighs 8 (p 3)) (weighs 16 (p 4)) (weighs 32 (p 5))

  pub record Digits (n : ℕ) : Type 0 where
    pub is : 1 * digit (p 0) + (2 * digit (p 1) + (4 * digit (p 2) + (8 * digit (p 3) + (16 * digit (p 4) + 32 * digit (p 5))))) ≡ n
    pub low0 : digit (p 0) ≤ 1
    pub low1 : digit (p 1) ≤ 1
    pub low2 : digit (p 2) ≤ 1
    pub low3 : digit (p 3) ≤ 1
    pub low4 : digit (p 4) ≤ 1
    pub low5 : digit (p 5) ≤ 1

  digits : Digits (face_bits (keep p faces))
  digits =
      record {
        is = word_is;
        low0 = digit_low (p 0);
        low1 = digit_low (p 1);
        low2 = digit_low (p 2);
        low3 = digit_low (p 3);
        low4 = digit_low (p 4);
        low5 = digit_low (p 5);
      }

  pub word_small : face_bits (keep p faces) < 64
  word_small = let d = digits in omega arith

  digit_at : (f n : ℕ) → Digits n → f < 6 → n / 2 ^ f % 2 ≡ digit (p f)
  digit_at zero n d h = omega arith
  digit_at (suc zero) n d h = omega arith
  digit_at (suc (suc zero)) n d h = omega arith
  digit_at (suc (suc (suc zero))) n d h = omega arith
  digit_at (suc (suc (suc (suc zero)))) n d h = omega arith
  digit_at (suc (suc (suc (suc (suc zero))))) n d h = omega arith
  digit_at (suc (suc (suc (suc (suc (suc f)))))) n d h = absurd (omega arith)

  pub bit_passes : (f : ℕ) → f < 6 → has_bit (face_bits (keep p faces)) f ≡ p f
  unfolding has_bit
  bit_passes f h = ap (λ k. eqb k 1) (digit_at f (face_bits (keep p faces)) digits h) ∙ digit_is (p f)

  counts : (f : ℕ) → f < 6 → digit (p f) ≡ digit (has_bit (face_bits (keep p faces)) f)
  counts f h = ap digit (sym (bit_passes f h))

  pub bits_count : bit_count (face_bits (keep p faces)) ≡ length (keep p faces)
  unfolding bit_count
  bits_count =
      let m = face_bits (keep p faces) in
      sym (count_of (has_bit m) (digit (p 0)) (digit (p 1)) (digit (p 2)) (digit (p 3)) (digit (p 4)) (digit (p 5)) (counts 0 (omega arith)) (counts 1 (omega arith))
      (counts 2 (omega arith)) (counts 3 (omega arith)) (counts 4 (omega arith)) (counts 5 (omega arith)))
      ∙ count_of p (digit (p 0)) (digit (p 1)) (digit (p 2)) (digit (p 3)) (digit (p 4)) (digit (p 5)) refl refl refl refl refl refl

-- q passes what p does, and f
module _ (p q : ℕ → Bool) where
  -- both words, and q's digits by p's
  record Joins (f : ℕ) : Type 0 where
    old : 1 * digit (p 0) + (2 * digit (p 1) + (4 * digit (p 2) + (8 * digit (p 3) + (16 * digit (p 4) + 32 * digit (p 5))))) ≡ face_bits (keep p faces)
    new : 1 * digit (q 0) + (2 * digit (q 1) + (4 * digit (q 2) + (8 * digit (q 3) + (16 * digit (q 4) + 32 * digit (q 5))))) ≡ face_bits (keep q faces)
    off : digit (p f) ≡ 0
    at0 : digit (q 0) ≡ cond (eqb 0 f) 1 (digit (p 0))
    at1 : digit (q 1) ≡ cond (eqb 1 f) 1 (digit (p 1))
    at2 : digit (q 2) ≡ cond (eqb 2 f) 1 (digit (p 2))
    at3 : digit (q 3) ≡ cond (eqb 3 f) 1 (digit (p 3))
    at4 : digit (q 4) ≡ cond (eqb 4 f) 1 (digit (p 4))
    at5 : digit (q 5) ≡ cond (eqb 5 f) 1 (digit (p 5))

  joined : (f : ℕ) → q f ≡ true → ((g : ℕ) → eqb g f ≡ false → q g ≡ p g) → (g : ℕ) → digit (q g) ≡ cond (eqb g f) 1 (digit (p g))
  joined f on same g = go (eqb g f) refl
    where
      go : (b : Bool) → eqb g f ≡ b → digit (q g) ≡ cond b 1 (digit (p g))
      go true e = ap digit (ap q (eqb-true g f e) ∙ on)
      go false e = ap digit (same g e)

  adds : (f : ℕ) → f < 6 → Joins f → face_bits (keep q faces) ≡ face_bits (keep p faces) + 2 ^ f
  adds zero h j = omega arith
  adds (suc zero) h j = omega arith
  adds (suc (suc zero)) h j = omega arith
  adds (suc (suc (suc zero))) h j = omega arith
  adds (suc (suc (suc (suc zero)))) h j = omega arith
  adds (suc (suc (suc (suc (suc zero))))) h j = omega arith
  adds (suc (suc (suc (suc (suc (suc f)))))) h j = absurd (omega arith)

  pub word_adds : (f : ℕ) → f < 6 → p f ≡ false → q f ≡ true → ((g : ℕ) → eqb g f ≡ false → q g ≡ p g) → face_bits (keep q faces) ≡ face_bits (keep p faces) + 2 ^ f
  word_adds f h off on same =
      let d = joined f on same in
      adds f h
      (record { old = word_is p; new = word_is q; off = ap digit off; at0 = d 0; at1 = d 1; at2 = d 2; at3 = d 3; at4 = d 4; at5 = d 5 })
