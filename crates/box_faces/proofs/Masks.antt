-- Laws of faces as one word: a sum of six bits is the word of the faces that pass, and says of each face whether it is one of them. Assumes nothing.
--   mask_of        six summands, each a face's bit where the face passes, make the word of those that pass
--   count_of       six summands, each 1 where a face passes, make their number
use Prim.Native.Nat.{ℕ, ◌+◌, ◌^◌, ◌<◌}
use native.Mathlib.Nat.{zero-add, add-zero}
use native.Mathlib.Omega.{arith}
use Rattle.std.proofs.lemmas.Grind.{pow_more}
use mathlib.Core.Path.{◌≡◌, refl, sym, ap, ◌∙◌}
use mathlib.Core.Bool.{Bool, true, false, cond}
use mathlib.Core.List.{List, [], ◌∷◌, ◌++◌}
use lib.ListN.{length}
use Rattle.lists.specs.Lists.{keep, up_to, up_from}
use Rattle.lists.proofs.Sequences.{keep_up}
use Rattle.geometry.specs.Boxes.{faces}
use Rattle.box_faces.specs.Faces.{face_bits}

module _ (p : ℕ → Bool) where
  bits_step : (f : ℕ) (l : List ℕ) (b : Bool) → cond b (2 ^ f) 0 + face_bits (keep p l) ≡ face_bits (cond b (f ∷ keep p l) (keep p l))
  unfolding face_bits
  bits_step f l true = refl
  bits_step f l false = zero-add (face_bits (keep p l))

  count_step : (f : ℕ) (l : List ℕ) (b : Bool) → cond b 1 0 + length (keep p l) ≡ length (cond b (f ∷ keep p l) (keep p l))
  count_step f l true = omega arith
  count_step f l false = zero-add (length (keep p l))

  pub mask_of : (r0 r1 r2 r3 r4 r5 : ℕ) → r0 ≡ cond (p 0) 1 0 → r1 ≡ cond (p 1) 2 0 → r2 ≡ cond (p 2) 4 0 → r3 ≡ cond (p 3) 8 0 → r4 ≡ cond (p 4) 16 0 → r5 ≡ cond (p 5) 32 0
      → r0 + (r1 + (r2 + (r3 + (r4 + r5)))) ≡ face_bits (keep p faces)
  unfolding face_bits
  mask_of r0 r1 r2 r3 r4 r5 e0 e1 e2 e3 e4 e5 =
      let b5 : r5 ≡ face_bits (keep p (5 ∷ [])) = e5 ∙ sym (add-zero (cond (p 5) 32 0)) ∙ bits_step 5 [] (p 5) in
      let b4 : r4 + r5 ≡ face_bits (keep p (4 ∷ 5 ∷ [])) = ap (λ k. k + r5) e4 ∙ ap (λ k. cond (p 4) 16 0 + k) b5 ∙ bits_step 4 (5 ∷ []) (p 4) in
      let b3 : r3 + (r4 + r5) ≡ face_bits (keep p (3 ∷ 4 ∷ 5 ∷ [])) = ap (λ k. k + (r4 + r5)) e3 ∙ ap (λ k. cond (p 3) 8 0 + k) b4 ∙ bits_step 3 (4 ∷ 5 ∷ []) (p 3) in
      let b2 : r2 + (r3 + (r4 + r5)) ≡ face_bits (keep p (2 ∷ 3 ∷ 4 ∷ 5 ∷ [])) = ap (λ k. k + (r3 + (r4 + r5))) e2 ∙ ap (λ k. cond (p 2) 4 0 + k) b3 ∙
      bits_step 2 (3 ∷ 4 ∷ 5 ∷ [])
      (p 2) in
      let b1 : r1 + (r2 + (r3 + (r4 + r5))) ≡ face_bits (keep p (1 ∷ 2 ∷ 3 ∷ 4 ∷ 5 ∷ [])) = ap (λ k. k + (r2 + (r3 + (r4 + r5)))) e1 ∙ ap (λ k. cond (p 1) 2 0 + k) b2 ∙ bits_step 1
      (2 ∷ 3 ∷ 4 ∷ 5 ∷ []) (p 1) in
      ap (λ k. k + (r1 + (r2 + (r3 + (r4 + r5))))) e0 ∙ ap (λ k. cond (p 0) 1 0 + k) b1 ∙ bits_step 0 (1 ∷ 2 ∷ 3 ∷ 4 ∷ 5 ∷ []) (p 0)

  pub count_of : (r0 r1 r2 r3 r4 r5 : ℕ) → r0 ≡ cond (p 0) 1 0 → r1 ≡ cond (p 1) 1 0 → r2 ≡ cond (p 2) 1 0 → r3 ≡ cond (p 3) 1 0 → r4 ≡ cond (p 4) 1 0 → r5 ≡ cond (p 5) 1 0
      → r0 + (r1 + (r2 + (r3 + (r4 + r5)))) ≡ length (keep p faces)
  count_of r0 r1 r2 r3 r4 r5 e0 e1 e2 e3 e4 e5 =
      let b5 : r5 ≡ length (keep p (5 ∷ [])) = e5 ∙ sym (add-zero (cond (p 5) 1 0)) ∙ count_step 5 [] (p 5) in
      let b4 : r4 + r5 ≡ length (keep p (4 ∷ 5 ∷ [])) = ap (λ k. k + r5) e4 ∙ ap (λ k. cond (p 4) 1 0 + k) b5 ∙ count_step 4 (5 ∷ []) (p 4) in
      let b3 : r3 + (r4 + r5) ≡ length (keep p (3 ∷ 4 ∷ 5 ∷ [])) = ap (λ k. k + (r4 + r5)) e3 ∙ ap (λ k. cond (p 3) 1 0 + k) b4 ∙ count_step 3 (4 ∷ 5 ∷ []) (p 3) in
      let b2 : r2 + (r3 + (r4 + r5)) ≡ length (keep p (2 ∷ 3 ∷ 4 ∷ 5 ∷ [])) = ap (λ k. k + (r3 + (r4 + r5))) e2 ∙ ap (λ k. cond (p 2) 1 0 + k) b3 ∙ count_step 2 (3 ∷ 4 ∷ 5 ∷ [])
      (p 2) in
      let b1 : r1 + (r2 + (r3 + (r4 + r5))) ≡ length (keep p (1 ∷ 2 ∷ 3 ∷ 4 ∷ 5 ∷ [])) = ap (λ k. k + (r2 + (r3 + (r4 + r5)))) e1 ∙ ap (λ k. cond (p 1) 1 0 + k) b2 ∙ count_step 1
      (2 ∷ 3 ∷ 4 ∷ 5 ∷ []) (p 1) in
      ap (λ k. k + (r1 + (r2 + (r3 + (r4 + r5))))) e0 ∙ ap (λ k. cond (p 0) 1 0 + k) b1 ∙ count_step 0 (1 ∷ 2 ∷ 3 ∷ 4 ∷ 5 ∷ []) (p 0)

  -- the same a face at a time, in face order
  bits_append : (l r : List ℕ) → face_bits (l ++ r) ≡ face_bits l + face_bits r
  unfolding face_bits
  bits_append [] r = sym (zero-add (face_bits r))
  bits_append (f ∷ l) r = omega (arith, bits_append l r)

  bits_one : (f : ℕ) (b : Bool) → face_bits (cond b (f ∷ []) []) ≡ cond b (2 ^ f) 0
  unfolding face_bits
  bits_one f true = add-zero (2 ^ f)
  bits_one f false = refl

  pub record SoFar (f m : ℕ) : Type 0 where
    pub word : m ≡ face_bits (keep p (up_to f))
    pub low : m < 2 ^ f

  pub none_so_far : SoFar 0 0
  unfolding face_bits up_from
  none_so_far = record { word = refl; low = omega arith }

  up : (f m : ℕ) → m ≡ face_bits (keep p (up_to f)) → m + cond (p f) (2 ^ f) 0 ≡ face_bits (keep p (up_to (f + 1)))
  up f m e =
      ap (λ k. k + cond (p f) (2 ^ f) 0) e ∙ ap (λ k. face_bits (keep p (up_to f)) + k) (sym (bits_one f (p f)))
      ∙ sym (ap face_bits (keep_up p f) ∙ bits_append (keep p (up_to f)) (cond (p f) (f ∷ []) []))

  pub passes_too : (f m r : ℕ) → SoFar f m → p f ≡ true → r ≡ m + 2 ^ f → SoFar (f + 1) r
  passes_too f m r h e er = record {
    word = er ∙ ap (λ (b : Bool). m + cond b (2 ^ f) 0) (sym e) ∙ up f m h.word;
    low = omega (arith, h.low, pow_more 2 f);
  }

  pub passes_not : (f m : ℕ) → SoFar f m → p f ≡ false → SoFar (f + 1) m
  passes_not f m h e = record {
    word = sym (add-zero m) ∙ ap (λ (b : Bool). m + cond b (2 ^ f) 0) (sym e) ∙ up f m h.word;
    low = omega (arith, h.low, pow_more 2 f);
  }
