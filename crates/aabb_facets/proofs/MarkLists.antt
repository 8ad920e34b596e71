-- Laws of the words of the vertices: 0 outside the box, else 1 more than the vertex's link. Assumes nothing.
--   marked_is, word_less, new_word   what a word says, and the store of a new number
--   words_length, words_low     how many, and how large before any is shared
--   mark_byte                   the word of a vertex, by the test alone
--   MarkedTo, marking-..        the loop that makes the words;   by_places   a test of each point, place by place
--   mark_a, mark_b, mark_c      the three tests of a facet
--   all_below                   facet numbers are below the count of vertices
use Prim.Native.Nat.{ℕ, zero, suc, ◌+◌, ◌*◌, ◌-◌, ◌/◌, ◌≤◌, ◌<◌}
use mathlib.Core.Bool.{Bool, true, false, cond, not, ◌&&◌}
use mathlib.Core.List.{List, [], ◌∷◌, ◌++◌, map, map-append, append_assoc, append-nil}
use mathlib.Core.Path.{◌≡◌, refl, sym, ap, ◌∙◌}
use native.Mathlib.Omega.{arith}
use native.Mathlib.Numerals.{add-one}
use lib.Dec.{ltb, eqb}
use mir.Val.{bool_byte}
use lib.ListN.{get_or, drop, set, length, length-append, length-map, length-drop, drop_of_length-le}
use lib.Seq.{drop-cons, set_at}
use lib.Ieee.{Float}
use Rattle.geometry.specs.declared.aabb.AABB.{AABB}
use borrow.Author.Tests.{ne_eqb, eq-eqb, ltb-true, not-false}
use Rattle.std.specs.List.{range_with_len}
use Rattle.lists.specs.Lists.{every, up_from, up_to}
use Rattle.lists.proofs.Every.{none_at}
use Rattle.lists.proofs.Places.{of_up, length_up, at_map_up}
use Rattle.lists.proofs.Sequences.{up_snoc, map_same}
use Rattle.input_tests.specs.Front.{bad_index}
use Rattle.lists.proofs.Bools.{and_next, and_stop}
use Rattle.geometry.specs.declared.point.Point.{Point}
use Rattle.geometry.specs.Points.{origin}
use Rattle.geometry.specs.Meshes.{vertex, vertex_of}
use Rattle.aabb_facets.specs.Clipped.{inside_box}
use Rattle.aabb_facets.specs.Rooms.{link, mark, mark_word, mark_words, marked}

-- a store among the values of f at k, k + 1, .. makes them those of g, where f and g differ there alone
set_up : (f g : ℕ → ℕ) (k n i x : ℕ) → x ≡ g (k + i) → ((w : ℕ) → (w ≡ k + i → ⊥) → f w ≡ g w) → set (map f (up_from k n)) i x ≡ map g (up_from k n)
unfolding up_from
set_up f g k zero i x e h = refl
set_up f g k (suc n) zero x e h =
    let z : k + 0 ≡ k = omega arith in
    (λ t. (e ∙ ap g z) t ∷ map_same f g (up_from (suc k) n) (λ w m. let b = of_up (suc k) n m in h w (λ q. omega arith)) t)
set_up f g k (suc n) (suc i) x e h =
    let z : k + suc i ≡ suc k + i = omega arith in
    (λ t. h k (λ q. omega arith) t ∷ set_up f g (suc k) n i x (e ∙ ap g z) (λ w d. h w (λ q. d (q ∙ z))) t)

-- ---- the numbers of shared vertices, and their words
pub link_new : (l : List (ℕ × ℕ)) (v k : ℕ) → link ((v, k) ∷ l) v ≡ k + 1
unfolding link
link_new l v k = ap (λ (b : Bool). cond b (k + 1) (link l v)) (eq-eqb v v refl)

link_other : (l : List (ℕ × ℕ)) (v k w : ℕ) → (w ≡ v → ⊥) → link ((v, k) ∷ l) w ≡ link l w
unfolding link
link_other l v k w d = ap (λ (b : Bool). cond b (k + 1) (link l w)) (ne_eqb w v d)

-- the words of the vertices
module _ (vs : List Float) (box : AABB) (eps : Float) where
  abbrev in_box : ℕ → Bool
  in_box v = inside_box box eps (vertex_of vs v)

  pub words_length : (n : ℕ) (l : List (ℕ × ℕ)) → length (mark_words vs box eps n l) ≡ n
  words_length n l = length-map (up_to n) (mark_word vs box eps l) ∙ length_up 0 n

  words_at : (n : ℕ) (l : List (ℕ × ℕ)) (v : ℕ) → v < n → get_or (mark_words vs box eps n l) v 0 ≡ mark_word vs box eps l v
  words_at n l v h = let z : 0 + v ≡ v = omega arith in at_map_up (mark_word vs box eps l) 0 0 n v h ∙ ap (mark_word vs box eps l) z

  is_marked : (b : Bool) (s : ℕ) → not (eqb (mark b s) 0) ≡ b
  is_marked true s = ap not (ne_eqb (s + 1) 0 (λ h. omega arith))
  is_marked false s = refl

  pub marked_is : (n : ℕ) (l : List (ℕ × ℕ)) (v : ℕ) → v < n → marked (mark_words vs box eps n l) v ≡ in_box v
  marked_is n l v h = ap (λ (k : ℕ). not (eqb k 0)) (words_at n l v h) ∙ is_marked (in_box v) (link l v)

  pub word_less : (n : ℕ) (l : List (ℕ × ℕ)) (v : ℕ) → v < n → in_box v ≡ true → get_or (mark_words vs box eps n l) v 0 - 1 ≡ link l v
  word_less n l v h t =
      let e : get_or (mark_words vs box eps n l) v 0 ≡ link l v + 1 = words_at n l v h ∙ ap (λ (b : Bool). mark b (link l v)) t in
      omega arith

  pub new_word : (n : ℕ) (l : List (ℕ × ℕ)) (v k : ℕ) → in_box v ≡ true → set (mark_words vs box eps n l) v (k + 2) ≡ mark_words vs box eps n ((v, k) ∷ l)
  new_word n l v k t =
      let q : k + 2 ≡ k + 1 + 1 = omega arith in
      let z : v ≡ 0 + v = omega arith in
      set_up (mark_word vs box eps l) (mark_word vs box eps ((v, k) ∷ l)) 0 n v (k + 2)
      (q ∙ sym (ap (λ (j : ℕ). j + 1) (link_new l v k)) ∙ sym (ap (λ (b : Bool). mark b (link ((v, k) ∷ l) v)) t) ∙ ap (mark_word vs box eps ((v, k) ∷ l)) z)
      (λ w d. ap (mark (in_box w)) (sym (link_other l v k w (λ e. d (e ∙ z)))))

  low_mark : (b : Bool) → mark b 0 ≤ 1
  low_mark true = omega arith
  low_mark false = omega arith

  pub words_low : (k n w : ℕ) → get_or (map (mark_word vs box eps []) (up_from k n)) w 0 ≤ 1
  unfolding up_from link
  words_low k zero w = omega arith
  words_low k (suc n) zero = low_mark (in_box k)
  words_low k (suc n) (suc w) = words_low (suc k) n w

-- the word that the test itself is
pub mark_byte : (b : Bool) → bool_byte b ≡ mark b 0
mark_byte true = refl
mark_byte false = refl

-- ---- the words made, from the front
abbrev pub MarkedTo : List Float → AABB → Float → List ℕ → List ℕ → ℕ → Type 0
MarkedTo vs box eps w v i = v ≡ mark_words vs box eps i [] ++ drop i w

module _ (vs : List Float) (box : AABB) (eps : Float) (w : List ℕ) where
  pub marking_same : (v : List ℕ) (i : ℕ) → MarkedTo vs box eps w v i → i ≤ length w → length v ≡ length w
  marking_same v i e h = ap length e ∙ length-append (mark_words vs box eps i []) (drop i w) ∙ omega (arith, words_length vs box eps i [], length-drop i w)

  pub marking_more : (v : List ℕ) (i : ℕ) (x : ℕ) → MarkedTo vs box eps w v i → i ≤ length w → i < length v → x ≡ mark (inside_box box eps (vertex_of vs i)) 0
      → (i + 1 ≤ length w) × MarkedTo vs box eps w (set v i x) (i + 1)
  unfolding link
  marking_more v i x e h k g =
      let l : i < length w = omega (arith, marking_same v i e h) in
      let d : drop i w ≡ get_or w i 0 ∷ drop (suc i) w = drop-cons w i 0 l in
      let one : mark_words vs box eps (i + 1) [] ≡ mark_words vs box eps i [] ++ (mark_word vs box eps [] i ∷ []) =
      ap (map (mark_word vs box eps [])) (up_snoc i) ∙ map-append (mark_word vs box eps []) (up_to i) (i ∷ []) in (
        omega arith,
        ap (λ (y : List ℕ). set y i x) (e ∙ ap (λ (y : List ℕ). mark_words vs box eps i [] ++ y) d)
            ∙ set_at (mark_words vs box eps i []) (get_or w i 0) (drop (suc i) w) x i (words_length vs box eps i [])
            ∙ ap (λ (y : ℕ). mark_words vs box eps i [] ++ (y ∷ drop (suc i) w)) g
            ∙ sym (append_assoc (mark_words vs box eps i []) (mark (inside_box box eps (vertex_of vs i)) 0 ∷ []) (drop (suc i) w))
            ∙ (λ t. sym one t ++ drop (sym (add-one i) t) w),
      )

  pub marking_end : (v : List ℕ) (i : ℕ) → MarkedTo vs box eps w v i → i ≤ length w → length v ≤ i → v ≡ mark_words vs box eps (length w) []
  marking_end v i e h k =
      let n : i ≡ length w = omega (arith, marking_same v i e h) in
      e ∙ ap (λ (l : List ℕ). mark_words vs box eps i [] ++ l) (drop_of_length-le w {i = i} (omega arith))
      ∙ append-nil (mark_words vs box eps i []) ∙ ap (λ (k : ℕ). mark_words vs box eps k []) n

-- ---- the three tests
module _ (l : List ℕ) (a b c : ℕ) where
  abbrev three_marked : Bool
  three_marked = marked l a && (marked l b && marked l c)

  pub mark_a : get_or l a 0 ≡ 0 → false ≡ three_marked
  mark_a h = sym (and_stop (marked l a) (marked l b && marked l c) (ap not (eq-eqb (get_or l a 0) 0 h)))

  pub mark_b : (get_or l a 0 ≡ 0 → ⊥) → get_or l b 0 ≡ 0 → false ≡ three_marked
  mark_b g h =
      sym (and_next (marked l a) (marked l b && marked l c) false (ap not (ne_eqb (get_or l a 0) 0 g)) (and_stop (marked l b) (marked l c) (ap not (eq-eqb (get_or l b 0) 0 h))))

  pub mark_c : (get_or l a 0 ≡ 0 → ⊥) → (get_or l b 0 ≡ 0 → ⊥) → marked l c ≡ three_marked
  mark_c g h =
      sym (and_next (marked l a) (marked l b && marked l c) (marked l c) (ap not (ne_eqb (get_or l a 0) 0 g)) (and_next (marked l b) (marked l c) (marked l c) (ap not (ne_eqb
      (get_or l b 0) 0 h)) refl))

pub marking_none : (vs : List Float) (box : AABB) (eps : Float) (w : List ℕ) → MarkedTo vs box eps w w 0
unfolding up_from
marking_none vs box eps w = refl

-- ---- a facet number is below the count of vertices, so its word and its coordinates are there
pub all_below : (vs : List Float) (fs : List ℕ) (box : AABB) (eps : Float) (ids₀ ids : List ℕ) → bad_index (length vs / 3) fs ≡ false
    → ids₀ ≡ mark_words vs box eps (length vs / 3) [] → length ids ≡ length ids₀
    → (j : ℕ) → j < length fs → (get_or fs j 0 < length ids) × (3 * get_or fs j 0 + 2 < length vs)
unfolding bad_index
all_below vs fs box eps ids₀ ids e g l j h =
    let b = ltb-true (get_or fs j 0) (length vs / 3) (not-false (ltb (get_or fs j 0) (length vs / 3)) (none_at (λ k. not (ltb k (length vs / 3))) fs j 0 e h)) in
    (omega (arith, b, l, ap length g ∙ words_length vs box eps (length vs / 3) []), omega (arith, b))

-- ---- a test of each point, place by place
pub by_places : (p : Point → Bool) (l : List Point) (n i : ℕ) → i + n ≡ length l → every (λ k. p (vertex l k)) (range_with_len i n) ≡ every p (drop i l)
by_places p l zero i h = sym (ap (every p) (drop_of_length-le l {i = i} (omega arith)))
by_places p l (suc n) i h =
    ap (λ (b : Bool). p (vertex l i) && b) (by_places p l n (i + 1) (omega arith) ∙ ap (λ (k : ℕ). every p (drop k l)) (add-one i))
    ∙ sym (ap (every p) (drop-cons l i origin (omega arith)))
