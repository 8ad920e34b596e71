-- A word of faces: its faces, and a face's bit that is added to it. Assumes nothing.
--   mask_back     a word below 64 is the word of its faces
--   mask_more     the faces of the word with one bit more
--   mask_low      which is below 64 too
--   shifted       the bit as the machine makes it
--   faces_word    the faces that a word of passing faces has are those that pass
--   has_faces     a face is among those of a word exactly if the word has its bit
--   few_faces     a word has six faces at most
--   no_faces, no_bit   the word 0 has no face, and no bit
--   Bit, word_bit   a word below 64 that is not 0 has the bit of a face
use Prim.Native.Nat.{ℕ, zero, suc, ◌+◌, ◌*◌, ◌/◌, ◌%◌, ◌^◌, ◌<◌, ◌≤◌}
use native.Mathlib.Omega.{arith}
use mathlib.Core.Path.{◌≡◌, refl, sym, ap, ◌∙◌}
use mathlib.Core.Bool.{Bool, true, false, ◌||◌, or-false, or-true}
use mathlib.Core.List.{List, []}
use mathlib.Core.Logic.{⊎_elim}
use lib.Dec.{eqb}
use lib.ListN.{length}
use borrow.Author.Tests.{eq-eqb, eqb-false}
use Rattle.lists.specs.Lists.{keep, has}
use Rattle.lists.proofs.Counts.{count_le}
use Rattle.lists.proofs.Orders.{cases}
use Rattle.geometry.specs.Boxes.{faces}
use Rattle.box_faces.specs.Faces.{face_bits, has_bit}
use Rattle.box_faces.proofs.Bits.{digit, word_is, word_small, bit_passes, word_adds}
use Rattle.candidate_pool.specs.Standing.{faces_in}
use Rattle.candidate_pool.proofs.Listing.{keep_faces, has_kept}

digit_back : (x : ℕ) → x < 2 → digit (eqb x 1) ≡ x
digit_back zero h = refl
digit_back (suc zero) h = refl
digit_back (suc (suc x)) h = absurd (omega arith)

pub mask_back : (mask : ℕ) → mask < 64 → face_bits (keep (has_bit mask) faces) ≡ mask
unfolding has_bit
mask_back mask h =
    let s = word_is (has_bit mask) in
    let d0 : digit (has_bit mask 0) ≡ mask / 1 % 2 = digit_back (mask / 1 % 2) (omega arith) in
    let d1 : digit (has_bit mask 1) ≡ mask / 2 % 2 = digit_back (mask / 2 % 2) (omega arith) in
    let d2 : digit (has_bit mask 2) ≡ mask / 4 % 2 = digit_back (mask / 4 % 2) (omega arith) in
    let d3 : digit (has_bit mask 3) ≡ mask / 8 % 2 = digit_back (mask / 8 % 2) (omega arith) in
    let d4 : digit (has_bit mask 4) ≡ mask / 16 % 2 = digit_back (mask / 16 % 2) (omega arith) in
    let d5 : digit (has_bit mask 5) ≡ mask / 32 % 2 = digit_back (mask / 32 % 2) (omega arith) in
    sum mask (digit (has_bit mask 0)) (digit (has_bit mask 1)) (digit (has_bit mask 2)) (digit (has_bit mask 3)) (digit (has_bit mask 4)) (digit (has_bit mask 5))
    (mask / 2) (mask / 4) (mask / 8) (mask / 16) (mask / 32) (face_bits (keep (has_bit mask) faces)) s
    (half0 mask ∙ ap (λ (x : ℕ). x + 2 * (mask / 2)) (sym d0))
    (half1 mask ∙ ap (λ (x : ℕ). x + 2 * (mask / 4)) (sym d1))
    (half2 mask ∙ ap (λ (x : ℕ). x + 2 * (mask / 8)) (sym d2))
    (half3 mask ∙ ap (λ (x : ℕ). x + 2 * (mask / 16)) (sym d3))
    (half4 mask ∙ ap (λ (x : ℕ). x + 2 * (mask / 32)) (sym d4))
    (half5 mask h ∙ sym d5)
  where
    half0 : (m : ℕ) → m ≡ m / 1 % 2 + 2 * (m / 2)
    half0 m = omega arith

    half1 : (m : ℕ) → m / 2 ≡ m / 2 % 2 + 2 * (m / 4)
    half1 m = omega arith

    half2 : (m : ℕ) → m / 4 ≡ m / 4 % 2 + 2 * (m / 8)
    half2 m = omega arith

    half3 : (m : ℕ) → m / 8 ≡ m / 8 % 2 + 2 * (m / 16)
    half3 m = omega arith

    half4 : (m : ℕ) → m / 16 ≡ m / 16 % 2 + 2 * (m / 32)
    half4 m = omega arith

    half5 : (m : ℕ) → m < 64 → m / 32 ≡ m / 32 % 2
    half5 m h = omega arith

    sum : (m a b c d e f u v x y z t : ℕ) → 1 * a + (2 * b + (4 * c + (8 * d + (16 * e + 32 * f)))) ≡ t
        → m ≡ a + 2 * u → u ≡ b + 2 * v → v ≡ c + 2 * x → x ≡ d + 2 * y → y ≡ e + 2 * z → z ≡ f → t ≡ m
    sum m a b c d e f u v x y z t s p q r i j k = omega arith

module _ (mask f : ℕ) (low : mask < 64) (k : f < 6) (off : has_bit mask f ≡ false) where
  abbrev wider : ℕ → Bool
  wider g = has_bit mask g || eqb g f

  wider_is : face_bits (keep wider faces) ≡ mask + 2 ^ f
  wider_is =
      word_adds (has_bit mask) wider f k off (ap (λ (b : Bool). has_bit mask f || b) (eq-eqb f f refl) ∙ or-true (has_bit mask f))
      (λ g e. ap (λ (b : Bool). has_bit mask g || b) e ∙ or-false (has_bit mask g))
      ∙ ap (λ (x : ℕ). x + 2 ^ f) (mask_back mask low)

  pub mask_more : (g : ℕ) → g < 6 → has_bit (mask + 2 ^ f) g ≡ (has_bit mask g || eqb g f)
  mask_more g h = ap (λ (m : ℕ). has_bit m g) (sym wider_is) ∙ bit_passes wider g h

  pub mask_low : mask + 2 ^ f < 64
  mask_low = omega (arith, wider_is, word_small wider)

pub shifted : (f : ℕ) → f < 6 → 1 * 2 ^ f % 18446744073709551616 ≡ 2 ^ f
shifted zero h = refl
shifted (suc zero) h = refl
shifted (suc (suc zero)) h = refl
shifted (suc (suc (suc zero))) h = refl
shifted (suc (suc (suc (suc zero)))) h = refl
shifted (suc (suc (suc (suc (suc zero))))) h = refl
shifted (suc (suc (suc (suc (suc (suc f)))))) h = absurd (omega arith)

-- ---- the faces of a word

pub faces_word : (p : ℕ → Bool) → faces_in (face_bits (keep p faces)) ≡ keep p faces
faces_word p = keep_faces (has_bit (face_bits (keep p faces))) p (bit_passes p)

pub has_faces : (mask f : ℕ) → f < 6 → has (faces_in mask) f ≡ has_bit mask f
has_faces mask f h = has_kept (has_bit mask) f h

pub few_faces : (mask : ℕ) → length (faces_in mask) ≤ 6
few_faces mask = count_le (has_bit mask) faces

pub no_faces : faces_in 0 ≡ []
unfolding has_bit
no_faces = refl

pub no_bit : (f : ℕ) → f < 6 → has_bit 0 f ≡ false
no_bit f h = sym (has_faces 0 f h) ∙ ap (λ (l : List ℕ). has l f) no_faces

abbrev pub Bit : ℕ → Type 0
Bit m = (f : ℕ) × (f < 6) × (has_bit m f ≡ true)

even : (x : ℕ) → eqb (x % 2) 1 ≡ false → x % 2 ≡ 0
even x e = let n = eqb-false (x % 2) 1 e in omega arith

unset : (m : ℕ) → m < 64 → (m ≡ 0 → ⊥) → has_bit m 0 ≡ false → has_bit m 1 ≡ false → has_bit m 2 ≡ false → has_bit m 3 ≡ false → has_bit m 4 ≡
    false → has_bit m 5 ≡ false → ⊥
unfolding has_bit
unset m h n a b c d e f =
    n (zero_word m h (even (m / 2 ^ 0) a) (even (m / 2 ^ 1) b) (even (m / 2 ^ 2) c) (even (m / 2 ^ 3) d) (even (m / 2 ^ 4) e) (even (m / 2 ^ 5) f))
  where
    zero_word : (m : ℕ) → m < 64 → m / 2 ^ 0 % 2 ≡ 0 → m / 2 ^ 1 % 2 ≡ 0 → m / 2 ^ 2 % 2 ≡ 0 → m / 2 ^ 3 % 2 ≡ 0 → m / 2 ^ 4 % 2 ≡ 0 → m / 2 ^ 5 % 2 ≡ 0 → m ≡ 0
    zero_word m h a b c d e f =
        let l5 : m < 32 = half5 m h f in
        let l4 : m < 16 = half4 m l5 e in
        let l3 : m < 8 = half3 m l4 d in
        let l2 : m < 4 = half2 m l3 c in
        let l1 : m < 2 = half1 m l2 b in
        half0 m l1 a
      where
        half5 : (m : ℕ) → m < 64 → m / 2 ^ 5 % 2 ≡ 0 → m < 32
        half5 m h e = omega arith

        half4 : (m : ℕ) → m < 32 → m / 2 ^ 4 % 2 ≡ 0 → m < 16
        half4 m h e = omega arith

        half3 : (m : ℕ) → m < 16 → m / 2 ^ 3 % 2 ≡ 0 → m < 8
        half3 m h e = omega arith

        half2 : (m : ℕ) → m < 8 → m / 2 ^ 2 % 2 ≡ 0 → m < 4
        half2 m h e = omega arith

        half1 : (m : ℕ) → m < 4 → m / 2 ^ 1 % 2 ≡ 0 → m < 2
        half1 m h e = omega arith

        half0 : (m : ℕ) → m < 2 → m / 2 ^ 0 % 2 ≡ 0 → m ≡ 0
        half0 m h e = omega arith

pub word_bit : (m : ℕ) → m < 64 → (m ≡ 0 → ⊥) → Bit m
word_bit m h n =
    or 0 (omega arith) (λ a. or 1 (omega arith) (λ b. or 2 (omega arith)
    (λ c. or 3 (omega arith) (λ d. or 4 (omega arith) (λ e. or 5 (omega arith) (λ f. absurd (unset m h n a b c d e f)))))))
  where
    or : (f : ℕ) → f < 6 → (has_bit m f ≡ false → Bit m) → Bit m
    or f l else = ⊎_elim (λ (e : has_bit m f ≡ true). (f, l, e)) else (cases (has_bit m f))
