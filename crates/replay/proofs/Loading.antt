-- Laws of a file's words, eight bytes each. Assumes nothing.
--   loading_turn   one more word, of the next eight bytes
use Prim.Native.Nat.{ℕ, zero, suc, ◌+◌, ◌*◌, ◌≤◌, ◌<◌}
use mathlib.Core.Path.{◌≡◌, refl, sym, ap, ◌∙◌}
use mathlib.Core.List.{List}
use mathlib.Core.Logic.{inl, inr}
use native.Mathlib.Omega.{arith}
use lib.ListN.{length, get_or, set, take, drop, length-take}
use lib.Seq.{get_or-set_same, get_or-set_other}
use Rattle.root.proofs.Grid.{lt_or_ge}
use Rattle.std.proofs.lemmas.List.{drop-drop, get_or-take}
use Rattle.std.specs.Int.{from_le_bytes, w64}
use Rattle.std.specs.Simd.{first_chunks}
use Rattle.replay.specs.Words.{word_of}

same_word : (bs cs : List ℕ) → ((i : ℕ) → i < 8 → get_or bs i 0 ≡ get_or cs i 0) → word_of bs ≡ word_of cs
same_word bs cs e = omega (arith, e 0 (omega arith), e 1 (omega arith), e 2 (omega arith), e 3 (omega arith), e 4 (omega arith), e 5 (omega arith), e 6 (omega arith), e 7 (omega arith))

le_word : (bs : List ℕ) → from_le_bytes w64 bs ≡ word_of bs
le_word bs = omega arith

chunk_word : (bs : List ℕ) → from_le_bytes w64 (take 8 bs) ≡ word_of bs
chunk_word bs = le_word (take 8 bs) ∙ same_word (take 8 bs) bs (λ i h. get_or-take 8 bs i 0 h)

at_chunk : (m k : ℕ) (file d : List ℕ) → k < m → from_le_bytes w64 (get_or (first_chunks 8 m file) k d) ≡ word_of (drop (8 * k) file)
at_chunk zero k file d h = absurd (omega arith)
at_chunk (suc m) zero file d h = chunk_word file
at_chunk (suc m) (suc k) file d h = at_chunk m k (drop 8 file) d (omega arith) ∙ ap word_of (drop-drop (8 * k) 8 file ∙ ap (λ (n : ℕ). drop n file) (omega arith))

chunk_count : (m : ℕ) (file : List ℕ) → length (first_chunks 8 m file) ≡ m
chunk_count zero file = refl
chunk_count (suc m) file = ap suc (chunk_count m (drop 8 file))

module _ (file words : List ℕ) (chunks : List (List ℕ)) (m n i x : ℕ) (d : List ℕ)
    (all : chunks ≡ first_chunks 8 m file)
    (room : n ≤ length words)
    (before : (k : ℕ) → k < i → get_or words k 0 ≡ word_of (drop (8 * k) file))
    (more : i < length (take n chunks))
    (next : x ≡ from_le_bytes w64 (get_or (take n chunks) i d))
  where
    few : (i < n) × (i < m)
    few = let e = ap length all ∙ chunk_count m file in let l = length-take n chunks in (omega arith, omega arith)

    here : get_or (set words i x) i 0 ≡ word_of (drop (8 * i) file)
    here =
        get_or-set_same words i x 0 (omega (arith, few.0)) ∙ next ∙ ap (from_le_bytes w64) (get_or-take n chunks i d few.0) ∙
        ap (λ (l : List (List ℕ)). from_le_bytes w64 (get_or l i d)) all ∙ at_chunk m i file d few.1

    pub loading_turn : (k : ℕ) → k < i + 1 → get_or (set words i x) k 0 ≡ word_of (drop (8 * k) file)
    loading_turn k h = elim (lt_or_ge k i) [
      | inl l ↦ get_or-set_other words i k x 0 (λ e. omega arith) ∙ before k l
      | inr g ↦ let e : k ≡ i = omega arith in ap (λ (j : ℕ). get_or (set words i x) j 0) e ∙ here ∙ ap (λ (j : ℕ). word_of (drop (8 * j) file)) (sym e)
    ]
