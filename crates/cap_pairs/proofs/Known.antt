-- What the words of a pair say of open edges and of triangles, by the numbers of pairs. Assumes nothing.
--   numbers_kept        numbers stay where nothing below their end changed
--   some_faces          a test that asks for one face, of the faces of a word
--   way_up, way_down    an open edge's faces are added to the word of its pair in the table for its way
--   edges_some          over all open edges
--   turned_edges        a triangle turned has the same pairs
--   sides_some          over all sides
use Prim.Native.Nat.{ℕ, ◌+◌, ◌*◌, ◌/◌, ◌≤◌, ◌<◌}
use mathlib.Core.Bool.{Bool, true, false, cond, ◌&&◌, ◌||◌, beq, and-false}
use mathlib.Core.List.{List, [], ◌∷◌}
use mathlib.Core.Logic.{inr, ⊎_elim}
use mathlib.Core.Path.{◌≡◌, refl, sym, ap, ◌∙◌}
use native.Mathlib.Omega.{arith}
use borrow.Author.Tests.{lt-ltb, le-ltb, eq-eqb, ne_eqb, eqb-true}
use lib.Dec.{eqb, ltb}
use lib.Ieee.{lt}
use lib.ListN.{length, get_or, length-map}
use Rattle.lists.specs.Lists.{some, has, up_to}
use Rattle.lists.specs.Regions.{Above}
use Rattle.lists.proofs.Orders.{never}
use Rattle.lists.proofs.Sequences.{some_flat, some_below}
use Rattle.lists.proofs.Bools.{both_ways, eqb_sym}
use Rattle.words.proofs.Packed.{less_equal_more}
use Rattle.root.specs.Doubles.{zero_f}
use Rattle.geometry.specs.Triangles.{Triangle, tri, edges, reversed}
use Rattle.box_faces.specs.Faces.{has_bit, ccw_is_outward}
use Rattle.edges.specs.Edges.{same_pair}
use Rattle.edges.specs.Table.{next_side}
use Rattle.edges.proofs.Keys.{SameEnds, pair_same}
use Rattle.edges.proofs.Edges.{same_pair_sym, same_pair_as}
use Rattle.edges.proofs.Sides.{next_wrap, next_on}
use Rattle.candidate_pool.specs.OpenEdges.{open_edge}
use Rattle.candidate_pool.specs.Offsets.{open_edges_at}
use Rattle.candidate_pool.specs.Pool.{Pool}
use Rattle.candidate_pool.specs.Standing.{faces_in, pool_at, edge_at, edges_at}
use Rattle.candidate_pool.proofs.Listing.{has_kept}
use Rattle.candidate_pool.proofs.Masking.{no_bit}
use Rattle.cap_triangles.specs.Selection.{Cap, cap, caps_of, cap_at, signed_area, outward, outward_caps}
use Rattle.cap_triangles.specs.Room.{turned_at, numbers_at, up_at, down_at, held_at, CapReady}
use Rattle.cap_triangles.proofs.Fours.{caps_length, cap_at_lem, outward_at}
use Rattle.cap_triangles.proofs.Good.{turned_corners}
use Rattle.cap_pairs.specs.Pairs.{pair_count, pair_at, number_in, PairNumbers}
use Rattle.cap_pairs.specs.Steps.{side_words, edge_mask, edge_target, side_target, side_face}
use Rattle.cap_pairs.proofs.Sums.{some_map, some_threes, some_places}
use Rattle.cap_pairs.proofs.Ends.{pair_listed, pair_side, pair_kept}

-- ---- the numbers
pub numbers_kept : (n nf k : ℕ) (cap_list w w' : List ℕ) (b : ℕ) → Above b w w' → up_at n nf (length cap_list / 4) ≤ b → k ≤ 3 * nf → PairNumbers n nf k cap_list w
    → PairNumbers n nf k cap_list w'
numbers_kept n nf k cap_list w w' b above end few N =
    record {
      low = λ q h. let e = number q h in let l = N.low q h in omega arith;
      same = λ q r hq hr.
          (λ t. eqb (number q hq t) (number r hr t)) ∙ N.same q r hq hr
          ∙ (λ t. same_pair (sym (pair_kept n nf k cap_list w b w' above (omega arith) few q) t) (sym (pair_kept n nf k cap_list w b w' above (omega arith) few r) t));
    }
  where
    number : (q : ℕ) → q < k + 3 * (length cap_list / 4) → number_in n nf k cap_list w' q ≡ number_in n nf k cap_list w q
    number q h = above.below (numbers_at n nf (length cap_list / 4) + q) (omega arith)

-- ---- truth values
eqb_shift : (u x y : ℕ) → eqb (u + x) (u + y) ≡ eqb x y
eqb_shift u x y =
    both_ways (eqb (u + x) (u + y)) (eqb x y) (λ e. let q = eqb-true (u + x) (u + y) e in eq-eqb x y (omega arith))
    (λ e. eq-eqb (u + x) (u + y) (ap (λ (z : ℕ). u + z) (eqb-true x y e)))

with_way : (h s w e : Bool) → (h ≡ true → e ≡ s) → (h && (s && w)) ≡ ((w && e) && h)
with_way true s w e f = turn s w ∙ ap (λ (b : Bool). (w && b) && true) (sym (f refl))
  where
    turn : (s w : Bool) → (s && w) ≡ ((w && s) && true)
    turn true true = refl
    turn true false = refl
    turn false true = refl
    turn false false = refl
with_way false s w e f = sym (and-false (w && e))

three_ways : (x y z f : Bool) → ((x && f) || ((y && f) || (z && f))) ≡ (f && (x || (y || (z || false))))
three_ways true y z true = refl
three_ways true y z false = none y z
  where
    none : (y z : Bool) → ((y && false) || (z && false)) ≡ false
    none true true = refl
    none true false = refl
    none false true = refl
    none false false = refl
three_ways false true z true = refl
three_ways false true z false = and-false z
three_ways false false true true = refl
three_ways false false true false = refl
three_ways false false false true = refl
three_ways false false false false = refl

-- ---- open edges
some_one_face : (f : ℕ) (c : Bool) (l : List ℕ) → some (λ g. eqb g f && c) l ≡ (has l f && c)
some_one_face f c [] = refl
some_one_face f c (g ∷ l) = ap (λ (b : Bool). (eqb g f && c) || b) (some_one_face f c l) ∙ ap (λ (b : Bool). (b && c) || (has l f && c)) (eqb_sym g f) ∙ share (eqb f g) (has l f) c
  where
    share : (x y c : Bool) → ((x && c) || (y && c)) ≡ ((x || y) && c)
    share true true true = refl
    share true false true = refl
    share true true false = refl
    share true false false = refl
    share false y c = refl

pub some_faces : (mask f : ℕ) (c : Bool) → f < 6 → some (λ g. eqb g f && c) (faces_in mask) ≡ (has_bit mask f && c)
some_faces mask f c h = some_one_face f c (faces_in mask) ∙ ap (λ (b : Bool). b && c) (has_kept (has_bit mask) f h)

module _ (a b m u d x y f : ℕ) (none : has_bit 0 f ≡ false) where
  abbrev placed : ℕ → Bool
  placed z = eqb (cond (ltb a b) u d + x) z && has_bit (cond (eqb a b) 0 m) f

  rising : a < b → (z : ℕ) → placed z ≡ (eqb (u + x) z && has_bit m f)
  rising h z = let l = lt-ltb a b h in let e = ne_eqb a b (λ q. omega arith) in λ t. eqb (cond (l t) u d + x) z && has_bit (cond (e t) 0 m) f

  falling : b < a → (z : ℕ) → placed z ≡ (eqb (d + x) z && has_bit m f)
  falling h z = let l = le-ltb a b (omega arith) in let e = ne_eqb a b (λ q. omega arith) in λ t. eqb (cond (l t) u d + x) z && has_bit (cond (e t) 0 m) f

  level : a ≡ b → (z : ℕ) → placed z ≡ false
  level h z =
      let e = eq-eqb a b h in
      (λ t. eqb (cond (ltb a b) u d + x) z && has_bit (cond (e t) 0 m) f) ∙ ap (λ (c : Bool). eqb (cond (ltb a b) u d + x) z && c) none ∙ and-false (eqb (cond (ltb a b) u d + x) z)

  stays : (b : Bool) → b ≡ false → false ≡ ((b && eqb x y) && has_bit m f)
  stays b e = sym (ap (λ (c : Bool). (c && eqb x y) && has_bit m f) e)

  goes : (b : Bool) → b ≡ true → (eqb x y && has_bit m f) ≡ ((b && eqb x y) && has_bit m f)
  goes b e = sym (ap (λ (c : Bool). (c && eqb x y) && has_bit m f) e)

  pub way_up : (d + x ≡ u + y → ⊥) → placed (u + y) ≡ ((ltb a b && eqb x y) && has_bit m f)
  way_up apart =
      ⊎_elim (λ (h : a < b). rising h (u + y) ∙ ap (λ (c : Bool). c && has_bit m f) (eqb_shift u x y) ∙ goes (ltb a b) (lt-ltb a b h))
      (⊎_elim (λ (h : a ≡ b). level h (u + y) ∙ stays (ltb a b) (le-ltb a b (omega arith)))
      (λ (h : b < a). falling h (u + y) ∙ ap (λ (c : Bool). c && has_bit m f) (ne_eqb (d + x) (u + y) apart) ∙ stays (ltb a b) (le-ltb a b (omega arith))))
      (less_equal_more a b)

  pub way_down : (u + x ≡ d + y → ⊥) → placed (d + y) ≡ ((ltb b a && eqb x y) && has_bit m f)
  way_down apart =
      ⊎_elim (λ (h : a < b). rising h (d + y) ∙ ap (λ (c : Bool). c && has_bit m f) (ne_eqb (u + x) (d + y) apart) ∙ stays (ltb b a) (le-ltb b a (omega arith)))
      (⊎_elim (λ (h : a ≡ b). level h (d + y) ∙ stays (ltb b a) (le-ltb b a (omega arith)))
      (λ (h : b < a). falling h (d + y) ∙ ap (λ (c : Bool). c && has_bit m f) (eqb_shift d x y) ∙ goes (ltb b a) (lt-ltb b a h)))
      (less_equal_more a b)

-- ---- a triangle turned
same_pair_right : (s t u : ℕ × ℕ) → SameEnds t u → same_pair s t ≡ same_pair s u
same_pair_right s t u e = same_pair_sym s t ∙ same_pair_as t u (pair_same t u e) s ∙ same_pair_sym u s

pub turned_edges : (pool : Pool) (t : Cap) (s : ℕ × ℕ) → some (same_pair s) (edges (outward pool t).corners) ≡ some (same_pair s) (edges t.corners)
unfolding outward
turned_edges pool t s = go (beq (lt zero_f (signed_area pool t)) (ccw_is_outward t.face))
  where
    order : (x y z : Bool) → (z || (y || (x || false))) ≡ (x || (y || (z || false)))
    order true true true = refl
    order true true false = refl
    order true false true = refl
    order true false false = refl
    order false true true = refl
    order false true false = refl
    order false false true = refl
    order false false false = refl

    go : (b : Bool) → some (same_pair s) (edges (cond b t.corners (reversed t.corners))) ≡ some (same_pair s) (edges t.corners)
    go true = refl
    go false =
        let c = t.corners in
        let x = same_pair_right s (c.a, c.c) (c.c, c.a) (inr (refl, refl)) in
        let y = same_pair_right s (c.c, c.b) (c.b, c.c) (inr (refl, refl)) in
        let z = same_pair_right s (c.b, c.a) (c.a, c.b) (inr (refl, refl)) in
        (λ i. x i || (y i || (z i || false))) ∙ order (same_pair s (c.a, c.b)) (same_pair s (c.b, c.c)) (same_pair s (c.c, c.a))

module _ (n nf k : ℕ) (cap_list w : List ℕ) (ready : CapReady n nf k cap_list w) (N : PairNumbers n nf k cap_list w) (q f : ℕ) (hq : q < pair_count n nf k cap_list) (hf : f < 6) where
  abbrev nc : ℕ
  nc = length cap_list / 4

  abbrev num : ℕ → ℕ
  num r = number_in n nf k cap_list w r

  abbrev Q : ℕ × ℕ
  Q = pair_at n nf k cap_list w q

  abbrev row : ℕ → ℕ
  row j = open_edges_at n nf + 3 * j

  abbrev from : ℕ → ℕ
  from j = get_or w (row j) 0

  abbrev to : ℕ → ℕ
  to j = get_or w (row j + 1) 0

  abbrev mask : ℕ → ℕ
  mask j = get_or w (row j + 2) 0

  pub listed : (j : ℕ) → j < k → has_bit (mask j) f ≡ true → pair_at n nf k cap_list w j ≡ (from j, to j)
  listed j h on = pair_listed n nf k cap_list w j h (λ e. never (has_bit (mask j) f) on (ap (λ (m : ℕ). has_bit m f) e ∙ no_bit f hf))

  same_number : (j : ℕ) → j < k → has_bit (mask j) f ≡ true → eqb (num j) (num q) ≡ same_pair Q (from j, to j)
  same_number j h on = N.same j q (omega arith) hq ∙ same_pair_sym (pair_at n nf k cap_list w j) Q ∙ ap (same_pair Q) (listed j h on)

  pub edges_some : (W : ℕ → ℕ → Bool)
      → some (λ j. (W (from j) (to j) && eqb (num j) (num q)) && has_bit (mask j) f) (up_to k)
      ≡ some (λ e. eqb e.face f && (same_pair Q (e.from, e.to) && W e.from e.to)) (edges_at w (open_edges_at n nf) k)
  unfolding edges_at
  edges_some W =
      sym (some_flat (λ e. eqb e.face f && (same_pair Q (e.from, e.to) && W e.from e.to)) (λ i. edge_at w (row i)) (up_to k)
      ∙ some_below (λ j. some (λ e. eqb e.face f && (same_pair Q (e.from, e.to) && W e.from e.to)) (edge_at w (row j)))
      (λ j. (W (from j) (to j) && eqb (num j) (num q)) && has_bit (mask j) f) k (λ j h.
      some_map (λ e. eqb e.face f && (same_pair Q (e.from, e.to) && W e.from e.to)) (λ g. open_edge g (from j) (to j)) (faces_in (mask j))
      ∙ some_faces (mask j) f (same_pair Q (from j, to j) && W (from j) (to j)) hf
      ∙ with_way (has_bit (mask j) f) (same_pair Q (from j, to j)) (W (from j) (to j)) (eqb (num j) (num q)) (same_number j h)))

  number_low : (j : ℕ) → j < k → num j < k + 3 * nc
  number_low j h = N.low j (omega arith)

  pub up_some : some (λ j. eqb (edge_target n nf nc w j) (up_at n nf nc + num q) && has_bit (edge_mask n nf nc w j) f) (up_to k)
      ≡ some (λ e. eqb e.face f && (same_pair Q (e.from, e.to) && ltb e.from e.to)) (edges_at w (open_edges_at n nf) k)
  up_some =
      some_below (λ j. eqb (edge_target n nf nc w j) (up_at n nf nc + num q) && has_bit (edge_mask n nf nc w j) f)
      (λ j. (ltb (from j) (to j) && eqb (num j) (num q)) && has_bit (mask j) f) k
      (λ j h. way_up (from j) (to j) (mask j) (up_at n nf nc) (down_at n nf nc) (num j) (num q) f (no_bit f hf) (λ e. let a = N.low q hq in omega (arith, ready.edges)))
      ∙ edges_some ltb

  pub down_some : some (λ j. eqb (edge_target n nf nc w j) (down_at n nf nc + num q) && has_bit (edge_mask n nf nc w j) f) (up_to k)
      ≡ some (λ e. eqb e.face f && (same_pair Q (e.from, e.to) && ltb e.to e.from)) (edges_at w (open_edges_at n nf) k)
  down_some =
      some_below (λ j. eqb (edge_target n nf nc w j) (down_at n nf nc + num q) && has_bit (edge_mask n nf nc w j) f)
      (λ j. (ltb (to j) (from j) && eqb (num j) (num q)) && has_bit (mask j) f) k
      (λ j h. way_down (from j) (to j) (mask j) (up_at n nf nc) (down_at n nf nc) (num j) (num q) f (no_bit f hf) (λ e. let a = number_low j h in omega (arith, ready.edges)))
      ∙ edges_some (λ a b. ltb b a)

  -- ---- sides
  abbrev low : ℕ
  low = turned_at n nf

  abbrev held_test : ℕ → Bool
  held_test s = eqb (side_target n nf nc w k s) (held_at n nf nc + num q) && eqb (side_face cap_list s) f

  side_test : (s : ℕ) → s < 3 * nc → (x y face : ℕ) → side_words w low s ≡ (x, y) → side_face cap_list s ≡ face → held_test s ≡ (same_pair Q (x, y) && eqb face f)
  side_test s h x y face e g =
      let m : eqb (side_target n nf nc w k s) (held_at n nf nc + num q) ≡ same_pair Q (x, y) =
      eqb_shift (held_at n nf nc) (get_or w (numbers_at n nf nc + k + s) 0) (num q)
      ∙ ap (λ (z : ℕ). eqb (get_or w z 0) (num q)) (assoc (numbers_at n nf nc) k s)
      ∙ N.same (k + s) q (omega arith) hq ∙ same_pair_sym (pair_at n nf k cap_list w (k + s)) Q
      ∙ ap (same_pair Q) (pair_side n nf k cap_list w (omega (arith, ready.ready.supplied.size)) s h ∙ e) in
      λ t. m t && eqb (g t) f
    where
      assoc : (a k s : ℕ) → a + k + s ≡ a + (k + s)
      assoc a k s = omega arith

  module _ (i : ℕ) (h : i < nc) where
    abbrev T0 : Cap
    T0 = outward (pool_at n w) (cap_at (caps_of cap_list) i)

    there : i < length (caps_of cap_list)
    there = let e = caps_length cap_list in omega arith

    face_is : get_or cap_list (4 * i) 0 ≡ T0.face
    unfolding outward
    face_is = ap (λ (t : Cap). t.face) (sym (cap_at_lem cap_list i h))

    corner_a : get_or w (low + 3 * i) 0 ≡ T0.corners.a
    corner_a = ap (λ (t : Triangle ℕ). t.a) (turned_corners n nf cap_list w ready.ready i h)

    corner_b : get_or w (low + (3 * i + 1)) 0 ≡ T0.corners.b
    corner_b = ap (λ (x : ℕ). get_or w x 0) (one low i) ∙ ap (λ (t : Triangle ℕ). t.b) (turned_corners n nf cap_list w ready.ready i h)
      where
        one : (a i : ℕ) → a + (3 * i + 1) ≡ a + 3 * i + 1
        one a i = omega arith

    corner_c : get_or w (low + (3 * i + 2)) 0 ≡ T0.corners.c
    corner_c = ap (λ (x : ℕ). get_or w x 0) (two low i) ∙ ap (λ (t : Triangle ℕ). t.c) (turned_corners n nf cap_list w ready.ready i h)
      where
        two : (a i : ℕ) → a + (3 * i + 2) ≡ a + 3 * i + 2
        two a i = omega arith

    next_0 : next_side (3 * i) ≡ 3 * i + 1
    next_0 = next_on (3 * i) (λ e. omega arith)

    next_1 : next_side (3 * i + 1) ≡ 3 * i + 2
    next_1 = next_on (3 * i + 1) (λ e. omega arith) ∙ omega arith

    next_2 : next_side (3 * i + 2) ≡ 3 * i
    next_2 = next_wrap (3 * i + 2) (omega arith) ∙ omega arith

    triangle_test : (held_test (3 * i) || (held_test (3 * i + 1) || held_test (3 * i + 2))) ≡ (eqb T0.face f && some (same_pair Q) (edges T0.corners))
    triangle_test =
        let x =
        side_test (3 * i) (omega arith) T0.corners.a T0.corners.b T0.face
        (λ t. (corner_a t, (ap (λ (z : ℕ). get_or w (low + z) 0) next_0 ∙ corner_b) t))
        (ap (λ (z : ℕ). get_or cap_list z 0) (omega arith) ∙ face_is) in
        let y =
        side_test (3 * i + 1) (omega arith) T0.corners.b T0.corners.c T0.face
        (λ t. (corner_b t, (ap (λ (z : ℕ). get_or w (low + z) 0) next_1 ∙ corner_c) t))
        (ap (λ (z : ℕ). get_or cap_list z 0) (omega arith) ∙ face_is) in
        let z =
        side_test (3 * i + 2) (omega arith) T0.corners.c T0.corners.a T0.face
        (λ t. (corner_c t, (ap (λ (z : ℕ). get_or w (low + z) 0) next_2 ∙ corner_a) t))
        (ap (λ (z : ℕ). get_or cap_list z 0) (omega arith) ∙ face_is) in
        (λ t. x t || (y t || z t))
        ∙ three_ways (same_pair Q (T0.corners.a, T0.corners.b)) (same_pair Q (T0.corners.b, T0.corners.c)) (same_pair Q (T0.corners.c, T0.corners.a)) (eqb T0.face f)

  pub sides_some : some held_test (up_to (3 * nc)) ≡ some (λ t. eqb t.face f && some (same_pair Q) (edges t.corners)) (outward_caps (pool_at n w) (caps_of cap_list))
  sides_some =
      some_threes held_test nc
      ∙ some_below (λ i. held_test (3 * i) || (held_test (3 * i + 1) || held_test (3 * i + 2))) (λ i. holds (cap_at (outward_caps (pool_at n w) (caps_of cap_list)) i)) nc (λ i h.
      triangle_test i h ∙ ap holds (sym (outward_at (pool_at n w) (caps_of cap_list) i (there i h))))
      ∙ ap (λ (m : ℕ). some (λ i. holds (cap_at (outward_caps (pool_at n w) (caps_of cap_list)) i)) (up_to m))
      (sym (length-map (caps_of cap_list) (outward (pool_at n w)) ∙ caps_length cap_list))
      ∙ sym (some_places holds (cap 0 (tri 0 0 0)) (outward_caps (pool_at n w) (caps_of cap_list)))
    where
      holds : Cap → Bool
      holds t = eqb t.face f && some (same_pair Q) (edges t.corners)
