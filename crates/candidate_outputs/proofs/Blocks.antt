-- The four results as lists that are written one after the other, word for word as they stand in the room. Assumes nothing.
--   part_copied, part_is               words copied to a part of an output; a part of the room
--   list_block, lists_are, lists_long, numbers_long, block_read, block_long, lists_stored   "six counts, then the numbers"
--   key_block, keys_are, keys_long      constraints            faces_are, faces_long, face_taken, face_left   an open edge with its faces
--   edge_block, edges_are               open edges
--   words_are, words_same              candidates, and in a room that agrees with one that holds them
use Prim.Native.Nat.{ℕ, zero, suc, ◌+◌, ◌-◌, ◌*◌, ◌≤◌, ◌<◌}
use native.Mathlib.Nat.{mul-le-mul_right}
use native.Mathlib.Omega.{arith}
use mathlib.Core.Bool.{true, false}
use mathlib.Core.Path.{◌≡◌, refl, sym, ap, ◌∙◌}
use mathlib.Core.List.{List, [], ◌∷◌, ◌++◌, map, flat_map, append_assoc}
use borrow.Rule.Slice.PartMut.{put_mid, Post-is}
use lib.ListN.{length, get_or, take, drop, length-append, length-take, length-drop, length-map}
use lib.Seq.{ext_get_or, sets, sets-eq, take-add, drop-drop}
use Rattle.lists.proofs.Places.{length_up, at_map_up}
use lib.Ieee.{Float, binary64, to_bits}
use Rattle.lists.specs.Lists.{up_from, up_to}
use Rattle.lists.specs.Regions.{view}
use Rattle.lists.proofs.Regions.{view_length, view_map, view_same}
use Rattle.geometry.specs.Boxes.{faces}
use Rattle.lists.proofs.Bools.{cond_true, cond_false}
use Rattle.lists.proofs.Stores.{sets_append}
use Rattle.lists.proofs.Sequences.{flat_map_lem, flat_flat, flat_keep, flat_up, flat_below}
use Rattle.words.specs.Overlay.{overlay}
use Rattle.words.proofs.Overlay.{overlay_whole}
use Rattle.box_faces.specs.Faces.{face_bits, has_bit}
use Rattle.candidate_pool.specs.OpenEdges.{open_edge, open_edge_words}
use Rattle.candidate_constraints.specs.Constraints.{Constraint, constraint_words}
use Rattle.candidate_pool.specs.Offsets.{entry_at, list_at, joined_at, pool_end}
use Rattle.candidate_pool.specs.Pool.{Candidate, Pool}
use Rattle.candidate_pool.specs.Standing.{faces_in, count_at, candidate_at, pool_at, PointStored, Holds, edge_at, edges_at}
use Rattle.candidate_pool.proofs.Masking.{mask_back}
use Rattle.candidate_pool.proofs.Frames.{count_same, pool_same}
use Rattle.candidate_constraints.specs.Steps.{unpacked}
use Rattle.candidate_outputs.specs.Outputs.{candidate_words, list_words}
use Rattle.candidate_outputs.specs.Written.{face_words}

-- ---- a part of the room

pub part_copied : (words out ys : List ℕ) (at : ℕ) → at + length words ≤ length out
    → ys ≡ overlay words (take (at + length words - at) (drop at out)) → put_mid at (at + length words - at) out ys ≡ sets out at words
part_copied words out ys at k e =
    let b : at + length words - at ≡ length words = omega arith in
    let m : length (take (length words) (drop at out)) ≤ length words = simp (length-take, length-drop) (omega arith) in
    let q : ys ≡ words = e ∙ ap (λ (n : ℕ). overlay words (take n (drop at out))) b ∙ overlay_whole words (take (length words) (drop at out)) m in
    (λ t. take at out ++ (q t ++ Post-is at (at + length words) out (omega arith) t))
    ∙ sym (sets-eq words out at (omega arith) ∙ append_assoc (take at out) words (drop (at + length words) out))

-- a part as the code has it, from its first place to its end
pub part_is : (w : List ℕ) (from n : ℕ) → take (from + n - from) (drop from w) ≡ view w from n
part_is w from n = let e : from + n - from ≡ n = omega arith in ap (λ (m : ℕ). take m (drop from w)) e

-- ---- "six counts, then the numbers"

abbrev pub list_block : ℕ → List ℕ → ℕ → List ℕ
list_block n w f = view w (list_at n f) (get_or w f 0)

-- the list of face f as the code reads it
pub block_read : (n : ℕ) (w : List ℕ) (f list count : ℕ) → list ≡ list_at n f → count ≡ get_or w f 0 → take (list + count - list) (drop list w) ≡ list_block n w f
block_read n w f list count a b = part_is w list count ∙ (λ t. view w (a t) (b t))

module _ (n : ℕ) (w : List ℕ) (size : pool_end n ≤ length w) (short : (f : ℕ) → f < 6 → get_or w f 0 ≤ n) where
  six : view w 0 6 ≡ get_or w 0 0 ∷ get_or w 1 0 ∷ get_or w 2 0 ∷ get_or w 3 0 ∷ get_or w 4 0 ∷ get_or w 5 0 ∷ []
  unfolding up_from
  six = view_map w 0 6 (omega arith)

  long : (f : ℕ) → f < 6 → f * n ≤ 5 * n → length (list_block n w f) ≡ get_or w f 0
  long f h k = view_length w (list_at n f) (get_or w f 0) (let s = short f h in omega arith)

  counts : map length (pool_at n w).lists ≡ view w 0 6
  unfolding pool_at
  counts =
      (λ t. long 0 (omega arith) (omega arith) t ∷ long 1 (omega arith) (omega arith) t ∷ long 2 (omega arith) (omega arith) t
      ∷ long 3 (omega arith) (omega arith) t ∷ long 4 (omega arith) (omega arith) t ∷ long 5 (omega arith) (omega arith) t ∷ [])
      ∙ sym six

  numbers : flat_map (list_block n w) (up_to 6) ≡ flat_map (λ l. l) (pool_at n w).lists
  unfolding pool_at flat_map up_from
  numbers = refl

  pub lists_are : list_words (pool_at n w).lists ≡ view w 0 6 ++ flat_map (list_block n w) (up_to 6)
  unfolding list_words
  lists_are = (λ t. counts t ++ sym numbers t)

  -- how many words they are
  pub lists_long : length (list_words (pool_at n w).lists) ≡ 6 + length (flat_map (list_block n w) (up_to 6))
  lists_long =
      ap length lists_are ∙ length-append (view w 0 6) (flat_map (list_block n w) (up_to 6))
      ∙ ap (λ (x : ℕ). x + length (flat_map (list_block n w) (up_to 6))) (view_length w 0 6 (omega arith))

  -- the list of one face, and the room that it takes
  pub block_long : (f : ℕ) → f < 6 → (length (list_block n w f) ≡ get_or w f 0) × (list_at n f + get_or w f 0 ≤ length w)
  block_long f h =
      let k = mul-le-mul_right n (five_least f h) in
      (long f h k, let s = short f h in omega (arith, k))
    where
      five_least : (f : ℕ) → f < 6 → f ≤ 5
      five_least f h = omega arith

  pub lists_stored : (old out : List ℕ) → out ≡ sets old 0 (view w 0 6) → sets out 6 (flat_map (list_block n w) (up_to 6)) ≡ sets old 0 (list_words (pool_at n w).lists)
  lists_stored old out e =
      let l : 6 ≡ 0 + length (view w 0 6) = let q = view_length w 0 6 (omega arith) in omega arith in
      (λ t. sets (e t) (l t) (flat_map (list_block n w) (up_to 6))) ∙ sym (sets_append old 0 (view w 0 6) (flat_map (list_block n w) (up_to 6)))
      ∙ ap (sets old 0) (sym lists_are)

  pub numbers_long : length (flat_map (list_block n w) (up_to 6)) ≡ get_or w 0 0 + (get_or w 1 0 + (get_or w 2 0 + (get_or w 3 0 + (get_or w 4 0 + get_or w 5 0))))
  unfolding flat_map up_from
  numbers_long =
      simp length-append
      (omega (
        arith,
        long 0 (omega arith) (omega arith),
        long 1 (omega arith) (omega arith),
        long 2 (omega arith) (omega arith),
        long 3 (omega arith) (omega arith),
        long 4 (omega arith) (omega arith),
        long 5 (omega arith) (omega arith),
      ))

-- ---- three words each

pub threes_long : {A : Type 0} (f : A → List ℕ) → ((x : A) → length (f x) ≡ 3) → (l : List A) → length (flat_map f l) ≡ 3 * length l
unfolding flat_map
threes_long f h [] = refl
threes_long f h (x ∷ l) = let a = length-append (f x) (flat_map f l) in let b = h x in let c = threes_long f h l in omega arith

-- ---- constraints

abbrev constraint_word : Constraint → List ℕ
constraint_word c = c.face ∷ c.smaller ∷ c.greater ∷ []

abbrev pub key_block : List ℕ → ℕ → List ℕ
key_block keys i = constraint_word (unpacked (get_or keys i 0))

module _ (keys : List ℕ) where
  by_places : map (λ i. get_or keys i 0) (up_to (length keys)) ≡ keys
  by_places =
      let long : length (map (λ i. get_or keys i 0) (up_to (length keys))) ≡ length keys = length-map (up_to (length keys)) (λ i. get_or keys i 0) ∙ length_up 0 (length keys) in
      ext_get_or 0 (map (λ i. get_or keys i 0) (up_to (length keys))) keys long
      (λ j h. at_map_up (λ i. get_or keys i 0) 0 0 (length keys) j (omega (arith, h, long)) ∙ ap (λ (i : ℕ). get_or keys i 0) (omega arith))

  pub keys_are : flat_map (key_block keys) (up_to (length keys)) ≡ constraint_words (map unpacked keys)
  keys_are =
      sym
      (flat_map_lem constraint_word unpacked keys ∙ ap (flat_map (λ x. constraint_word (unpacked x))) (sym by_places)
      ∙ flat_map_lem (λ x. constraint_word (unpacked x)) (λ i. get_or keys i 0) (up_to (length keys)))

  pub keys_long : length (flat_map (key_block keys) (up_to (length keys))) ≡ 3 * length keys
  keys_long = ap length keys_are ∙ threes_long constraint_word (λ c. refl) (map unpacked keys) ∙ ap (λ (x : ℕ). 3 * x) (length-map keys unpacked)

-- ---- open edges

module _ (mask a b : ℕ) where
  pub faces_are : flat_map (face_words mask a b) (up_to 6) ≡ open_edge_words (map (λ f. open_edge f a b) (faces_in mask))
  unfolding up_from
  faces_are =
      flat_keep (has_bit mask) (λ f. f ∷ a ∷ b ∷ []) faces
      ∙ sym (flat_map_lem (λ e. e.face ∷ e.from ∷ e.to ∷ []) (λ f. open_edge f a b) (faces_in mask))

  pub faces_long : length (flat_map (face_words mask a b) (up_to 6)) ≡ length (open_edge_words (map (λ f. open_edge f a b) (faces_in mask)))
  faces_long = ap length faces_are

  pub face_taken : (f : ℕ) → has_bit mask f ≡ true → face_words mask a b f ≡ f ∷ a ∷ b ∷ []
  face_taken f e = cond_true (has_bit mask f) (f ∷ a ∷ b ∷ []) [] (f ∷ a ∷ b ∷ []) e refl

  pub face_left : (f : ℕ) → has_bit mask f ≡ false → face_words mask a b f ≡ []
  face_left f e = cond_false (has_bit mask f) (f ∷ a ∷ b ∷ []) [] [] e refl

abbrev pub edge_block : List ℕ → ℕ → ℕ → List ℕ
edge_block w at i = open_edge_words (edge_at w (at + 3 * i))

pub edges_are : (w : List ℕ) (at k : ℕ) → flat_map (edge_block w at) (up_to k) ≡ open_edge_words (edges_at w at k)
unfolding edges_at
edges_are w at k = sym (flat_flat (λ e. e.face ∷ e.from ∷ e.to ∷ []) (λ i. edge_at w (at + 3 * i)) (up_to k))

-- ---- candidates

abbrev five : List ℕ → ℕ → List ℕ
five w c =
    get_or w (entry_at c) 0 ∷ get_or w (entry_at c + 1) 0 ∷ get_or w (entry_at c + 2) 0 ∷ get_or w (entry_at c + 3) 0 ∷ get_or w (entry_at c + 4) 0 ∷ []

abbrev words_of : Candidate → List ℕ
words_of c = to_bits binary64 c.point.x ∷ to_bits binary64 c.point.y ∷ to_bits binary64 c.point.z ∷ c.mesh ∷ face_bits c.on ∷ []

five_is : (w : List ℕ) (c : ℕ) → PointStored w (entry_at c) → get_or w (entry_at c + 4) 0 < 64 → words_of (candidate_at w c) ≡ five w c
five_is w c s h = λ t. s.x t ∷ s.y t ∷ s.z t ∷ get_or w (entry_at c + 3) 0 ∷ mask_back (get_or w (entry_at c + 4) 0) h t ∷ []

five_view : (w : List ℕ) (o : ℕ) → o + 5 ≤ length w → view w o 5 ≡ get_or w o 0 ∷ get_or w (o + 1) 0 ∷ get_or w (o + 2) 0 ∷ get_or w (o + 3) 0 ∷ get_or w (o + 4) 0 ∷ []
unfolding up_from
five_view w o h =
    let e : o + 0 ≡ o = omega arith in
    view_map w o 5 h ∙ (λ t. get_or w (e t) 0 ∷ get_or w (o + 1) 0 ∷ get_or w (o + 2) 0 ∷ get_or w (o + 3) 0 ∷ get_or w (o + 4) 0 ∷ [])

fives : (w : List ℕ) (m : ℕ) → entry_at m ≤ length w → flat_map (five w) (up_to m) ≡ view w 8 (5 * m)
unfolding flat_map up_from
fives w zero h = refl
fives w (suc m) h =
    let q : suc m ≡ m + 1 = omega arith in
    let r : 5 * m + 5 ≡ 5 * suc m = omega arith in
    ap (λ (x : ℕ). flat_map (five w) (up_to x)) q ∙ flat_up (five w) m
    ∙ (λ t. fives w m (omega arith) t ++ sym (ap (take 5) (drop-drop (5 * m) 8 w) ∙ five_view w (entry_at m) (omega arith)) t)
    ∙ sym (take-add (5 * m) 5 (drop 8 w)) ∙ ap (view w 8) r

pub words_are : (eps : Float) (n : ℕ) (w : List ℕ) → Holds eps n w → candidate_words (pool_at n w).all ≡ view w 8 (5 * count_at w)
unfolding candidate_words pool_at
words_are eps n w h =
    flat_map_lem words_of (candidate_at w) (up_to (count_at w))
    ∙ flat_below (λ c. words_of (candidate_at w c)) (five w) (count_at w) (λ c l. five_is w c (h.stored c l) (h.masks c l))
    ∙ fives w (count_at w) (let a = h.size in let b = h.table.few in omega arith)

module _ (eps : Float) (n : ℕ) (w w' : List ℕ) (H : Holds eps n w) (long : length w' ≡ length w) (same : (x : ℕ) → x < joined_at n → get_or w' x 0 ≡ get_or w x 0) where
  pub words_same : candidate_words (pool_at n w').all ≡ view w' 8 (5 * count_at w')
  words_same =
      let l = H.table.few in
      let z = H.size in
      ap (λ (p : Pool). candidate_words p.all) (pool_same eps n w w' H long same) ∙ words_are eps n w H
      ∙ sym (ap (λ (k : ℕ). view w' 8 (5 * k)) (count_same n w w' long same) ∙ view_same w w' 8 (5 * count_at w) (omega arith) long (λ i h. same (8 + i) (omega arith)))
