-- Laws of the word of faces that open edges and vertices lie on. Assumes nothing.
--   stray_word   a word of passing faces is 0 exactly if none passes
--   mask_faces, mask_small, mask_count   the word of the faces that two points lie on: its faces, its size, how many they are
use Prim.Native.Nat.{ℕ, zero, suc, ◌+◌, ◌^◌, ◌≤◌, ◌<◌}
use mathlib.Core.Path.{◌≡◌, refl, sym, ◌∙◌}
use mathlib.Core.Bool.{Bool, ◌&&◌}
use mathlib.Core.List.{List, [], ◌∷◌}
use native.Mathlib.Omega.{arith}
use borrow.Author.Tests.{ne_eqb}
use lib.Dec.{eqb}
use lib.ListN.{length}
use lib.Ieee.{Float}
use Rattle.geometry.specs.declared.point.Point.{Point}
use Rattle.geometry.specs.declared.aabb.AABB.{AABB}
use Rattle.box_faces.specs.Faces.{face_bits, bit_count, on_face, faces_of}
use Rattle.box_faces.proofs.Bits.{word_small, bits_count}
use Rattle.candidate_pool.specs.Standing.{faces_in}
use Rattle.candidate_pool.proofs.Masking.{faces_word}

bit_large : (f : ℕ) → 1 ≤ 2 ^ f
bit_large zero = omega arith
bit_large (suc f) = let h = bit_large f in omega arith

pub stray_word : (l : List ℕ) → eqb (face_bits l) 0 ≡ eqb (length l) 0
unfolding face_bits
stray_word [] = refl
stray_word (f ∷ l) = let h = bit_large f in ne_eqb (2 ^ f + face_bits l) 0 (λ e. omega arith) ∙ sym (ne_eqb (suc (length l)) 0 (λ e. omega arith))

module _ (box : AABB) (eps : Float) (p q : Point) where
  abbrev both : ℕ → Bool
  both f = on_face box eps f p && on_face box eps f q

  pub mask_faces : faces_in (face_bits (faces_of box eps p q)) ≡ faces_of box eps p q
  unfolding faces_of
  mask_faces = faces_word both

  pub mask_small : face_bits (faces_of box eps p q) < 64
  unfolding faces_of
  mask_small = word_small both

  pub mask_count : bit_count (face_bits (faces_of box eps p q)) ≡ length (faces_of box eps p q)
  unfolding faces_of
  mask_count = bits_count both
