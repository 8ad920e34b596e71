-- The steps of note_faces, put together: three tables cleared, then the open edges noted, then the sides. Assumes nothing.
--   up_room, down_room, held_room                      there is room for the three tables
--   tables_cleared, numbers_cleared, zeros_cleared     what note_edges asks
--   tables_noted, numbers_noted, zeros_noted, sides_faces     what note_sides asks
--   known                                              what is known of each pair in the end
use Prim.Native.Nat.{ℕ, ◌+◌, ◌*◌, ◌/◌, ◌≤◌, ◌<◌}
use mathlib.Core.Bool.{cond, ◌&&◌}
use mathlib.Core.List.{List}
use mathlib.Core.Path.{◌≡◌, sym, ap, ◌∙◌}
use native.Mathlib.Omega.{arith}
use lib.Dec.{eqb, ltb}
use lib.ListN.{length, get_or}
use Rattle.lists.specs.Lists.{some, up_to}
use Rattle.lists.specs.Regions.{PartZeroed, Above}
use Rattle.lists.proofs.Sequences.{some_below}
use Rattle.lists.proofs.Regions.{above_more}
use Rattle.box_faces.specs.Faces.{has_bit}
use Rattle.cap_triangles.specs.Selection.{Cap, caps_of}
use Rattle.cap_triangles.specs.Room.{numbers_at, up_at, down_at, held_at, CapReady}
use Rattle.cap_triangles.proofs.Kept.{ready_kept}
use Rattle.cap_triangles.proofs.Fours.{caps_length, cap_at_lem}
use Rattle.cap_triangles.proofs.Good.{good_cap}
use Rattle.cap_pairs.specs.Pairs.{pair_count, number_in, PairNumbers, PairsKnown}
use Rattle.cap_pairs.specs.Steps.{Noted, edge_mask, edge_target, side_target, side_face, TablesFor}
use Rattle.cap_pairs.proofs.Targets.{target_low, edges_below, sides_below}
use Rattle.cap_pairs.proofs.Known.{numbers_kept, up_some, down_some, sides_some}
use Rattle.candidate_pool.specs.Offsets.{open_edges_at}

-- the word that an open edge's faces go to, and these, where nothing below the tables changed
module _ (n nf nc k : ℕ) (w u : List ℕ) (above : Above (up_at n nf nc) w u) (few : k ≤ 3 * nf) (j : ℕ) (h : j < k) where
  abbrev row : ℕ
  row = open_edges_at n nf + 3 * j

  from_same : get_or u row 0 ≡ get_or w row 0
  from_same = above.below row (omega arith)

  to_same : get_or u (row + 1) 0 ≡ get_or w (row + 1) 0
  to_same = above.below (row + 1) (omega arith)

  mask_same : edge_mask n nf nc u j ≡ edge_mask n nf nc w j
  mask_same = let m = above.below (row + 2) (omega arith) in λ t. cond (eqb (from_same t) (to_same t)) 0 (m t)

  target_same : edge_target n nf nc u j ≡ edge_target n nf nc w j
  target_same = let m = above.below (numbers_at n nf nc + j) (omega arith) in λ t. cond (ltb (from_same t) (to_same t)) (up_at n nf nc) (down_at n nf nc) + m t

module _ (n nf k : ℕ) (cap_list w : List ℕ) (ready : CapReady n nf k cap_list w) (z : List ℕ) (long : length z ≡ length w) (at : ℕ) where
  abbrev pairs : ℕ
  pairs = k + 3 * (length cap_list / 4)

  pub up_room : at ≡ up_at n nf (length cap_list / 4) → at + pairs ≤ length z
  up_room e = omega (arith, ready.ready.supplied.size, ready.edges)

  pub down_room : at ≡ down_at n nf (length cap_list / 4) → at + pairs ≤ length z
  down_room e = omega (arith, ready.ready.supplied.size, ready.edges)

  pub held_room : at ≡ held_at n nf (length cap_list / 4) → at + pairs ≤ length z
  held_room e = omega (arith, ready.ready.supplied.size, ready.edges)

module _ (n nf k : ℕ) (cap_list w : List ℕ) (ready : CapReady n nf k cap_list w) (N : PairNumbers n nf k cap_list w)
    (z1 z2 z : List ℕ) (up down held : ℕ) (eu : up ≡ up_at n nf (length cap_list / 4)) (ed : down ≡ down_at n nf (length cap_list / 4)) (eh : held ≡ held_at n nf (length cap_list / 4))
    (Z1 : PartZeroed w z1 up (k + 3 * (length cap_list / 4))) (Z2 : PartZeroed z1 z2 down (k + 3 * (length cap_list / 4))) (Z3 : PartZeroed z2 z held (k + 3 * (length cap_list / 4))) where
  abbrev nc : ℕ
  nc = length cap_list / 4

  few : k ≤ 3 * nf
  few = ready.edges

  above_cleared : Above (up_at n nf nc) w z
  above_cleared =
      record {
        long = Z3.long ∙ Z2.long ∙ Z1.long;
        below = λ x h. Z3.rest x (λ i l e. omega arith) ∙ Z2.rest x (λ i l e. omega arith) ∙ Z1.rest x (λ i l e. omega arith);
      }

  pub tables_cleared : TablesFor n nf nc z k
  tables_cleared =
      let s = ready.ready.supplied in
      record { small = omega (arith, s.small); few = s.few; caps = omega (arith, s.caps); edges = few; size = omega (arith, s.size, above_cleared.long) }

  number_cleared : (q : ℕ) → q < k + 3 * nc → get_or z (numbers_at n nf nc + q) 0 < k + 3 * nc
  number_cleared q h = let a = above_cleared.below (numbers_at n nf nc + q) (let f = few in omega arith) in let b = N.low q h in omega arith

  pub numbers_cleared : (i : ℕ) → i < k → get_or z (numbers_at n nf nc + i) 0 < k + 3 * nc
  numbers_cleared i h = number_cleared i (omega arith)

  up_zero : (r : ℕ) → r < k + 3 * nc → get_or z (up_at n nf nc + r) 0 ≡ 0
  up_zero r h =
      let f = few in
      Z3.rest (up_at n nf nc + r) (λ i l e. omega arith) ∙ Z2.rest (up_at n nf nc + r) (λ i l e. omega arith)
      ∙ ap (λ (x : ℕ). get_or z1 (x + r) 0) (sym eu) ∙ Z1.zero r h

  down_zero : (r : ℕ) → r < k + 3 * nc → get_or z (down_at n nf nc + r) 0 ≡ 0
  down_zero r h = let f = few in Z3.rest (down_at n nf nc + r) (λ i l e. omega arith) ∙ ap (λ (x : ℕ). get_or z2 (x + r) 0) (sym ed) ∙ Z2.zero r h

  held_zero : (r : ℕ) → r < k + 3 * nc → get_or z (held_at n nf nc + r) 0 ≡ 0
  held_zero r h = ap (λ (x : ℕ). get_or z (x + r) 0) (sym eh) ∙ Z3.zero r h

  pub zeros_cleared : (r : ℕ) → r < k + 3 * nc → (get_or z (up_at n nf nc + r) 0 ≡ 0) × (get_or z (down_at n nf nc + r) 0 ≡ 0)
  zeros_cleared r h = (up_zero r h, down_zero r h)

  -- ---- open edges noted
  module _ (v : List ℕ) (E : Noted (edge_target n nf nc z) (λ j. has_bit (edge_mask n nf nc z j)) z v k) where
    above_noted : Above (up_at n nf nc) z v
    above_noted = record { long = E.long; below = edges_below n nf nc k z tables_cleared numbers_cleared zeros_cleared v k E }

    pub tables_noted : TablesFor n nf nc v k
    tables_noted =
        let t = tables_cleared in
        record { small = t.small; few = t.few; caps = t.caps; edges = t.edges; size = omega (arith, t.size, E.long) }

    pub numbers_noted : (s : ℕ) → s < 3 * nc → get_or v (numbers_at n nf nc + k + s) 0 < k + 3 * nc
    numbers_noted s h =
        let f = few in
        let a = above_noted.below (numbers_at n nf nc + k + s) (omega arith) in
        let b = number_cleared (k + s) (omega arith) in
        let c = ap (λ (x : ℕ). get_or z x 0) (assoc (numbers_at n nf nc) k s) in
        omega arith
      where
        assoc : (a k s : ℕ) → a + k + s ≡ a + (k + s)
        assoc a k s = omega arith

    pub zeros_noted : (r : ℕ) → r < k + 3 * nc → get_or v (held_at n nf nc + r) 0 ≡ 0
    zeros_noted r h =
        E.rest (held_at n nf nc + r) (λ j l e. let t = target_low n nf nc k z tables_cleared numbers_cleared zeros_cleared j l in omega arith) ∙ held_zero r h

    pub sides_faces : (s : ℕ) → s < 3 * nc → side_face cap_list s < 6
    sides_faces s h =
        let i : s / 3 < nc = omega arith in
        let c = caps_length cap_list in
        let g = good_cap n w ready.ready.supplied.pooled (caps_of cap_list) ready.ready.good (s / 3) (omega arith) in
        let e = ap (λ (t : Cap). t.face) (cap_at_lem cap_list (s / 3) i) in
        let d = ap (λ (x : ℕ). get_or cap_list x 0) (four (s / 3)) in
        omega (arith, g.face, e, d)
      where
        four : (i : ℕ) → i * 4 ≡ 4 * i
        four i = omega arith

    -- ---- sides noted
    module _ (u : List ℕ) (S : Noted (side_target n nf nc v k) (λ s. eqb (side_face cap_list s)) v u (3 * nc)) where
      below_held : (x : ℕ) → x < held_at n nf nc → get_or u x 0 ≡ get_or v x 0
      below_held = sides_below n nf k cap_list v tables_noted numbers_noted zeros_noted u (3 * nc) S

      above_sides : Above (up_at n nf nc) v u
      above_sides = record { long = S.long; below = λ x h. below_held x (omega arith) }

      above_z_u : Above (up_at n nf nc) z u
      above_z_u = above_more (up_at n nf nc) z v u above_noted above_sides

      pub above_all : Above (up_at n nf nc) w u
      above_all = above_more (up_at n nf nc) w z u above_cleared above_z_u

      R : CapReady n nf k cap_list u
      R = ready_kept (up_at n nf nc) w u above_all n nf cap_list k (omega arith) ready

      M : PairNumbers n nf k cap_list u
      M = numbers_kept n nf k cap_list w u (up_at n nf nc) above_all (omega arith) few N

      -- a word of an edges' table
      edges_at : (x f : ℕ) → f < 6 → x < held_at n nf nc → get_or z x 0 ≡ 0 → has_bit (get_or u x 0) f ≡ some (λ j. eqb (edge_target n nf nc u j) x && has_bit (edge_mask n nf nc u j) f)
          (up_to k)
      edges_at x f h l e =
          ap (λ (m : ℕ). has_bit m f) (below_held x l) ∙ E.at x f h e
          ∙ some_below (λ j. eqb (edge_target n nf nc z j) x && has_bit (edge_mask n nf nc z j) f) (λ j. eqb (edge_target n nf nc u j) x && has_bit (edge_mask n nf nc u j) f) k (λ j i.
          let a = target_same n nf nc k z u above_z_u few j i in
          let b = mask_same n nf nc k z u above_z_u few j i in
          λ t. eqb (sym a t) x && has_bit (sym b t) f)

      edges_small : (x : ℕ) → x < held_at n nf nc → get_or z x 0 ≡ 0 → get_or u x 0 < 64
      edges_small x l e = let a = below_held x l in let b = E.small x e in omega arith

      module _ (q : ℕ) (hq : q < pair_count n nf k cap_list) where
        low : number_in n nf k cap_list u q < k + 3 * nc
        low = M.low q hq

        up_in : up_at n nf nc + number_in n nf k cap_list u q < held_at n nf nc
        up_in = let a = low in let f = few in omega arith

        down_in : down_at n nf nc + number_in n nf k cap_list u q < held_at n nf nc
        down_in = let a = low in let f = few in omega arith

        sides_at : (f : ℕ) → f < 6
            → has_bit (get_or u (held_at n nf nc + number_in n nf k cap_list u q) 0) f
            ≡ some (λ s. eqb (side_target n nf nc u k s) (held_at n nf nc + number_in n nf k cap_list u q) && eqb (side_face cap_list s) f) (up_to (3 * nc))
        sides_at f h =
            S.at (held_at n nf nc + number_in n nf k cap_list u q) f h (zeros_noted (number_in n nf k cap_list u q) low)
            ∙ some_below (λ s. eqb (side_target n nf nc v k s) (held_at n nf nc + number_in n nf k cap_list u q) && eqb (side_face cap_list s) f)
            (λ s. eqb (side_target n nf nc u k s) (held_at n nf nc + number_in n nf k cap_list u q) && eqb (side_face cap_list s) f) (3 * nc) (λ s i.
            let a = above_sides.below (numbers_at n nf nc + k + s) (let f = few in omega arith) in
            λ t. eqb (held_at n nf nc + sym a t) (held_at n nf nc + number_in n nf k cap_list u q) && eqb (side_face cap_list s) f)

      pub known : PairsKnown n nf k cap_list u
      known =
          record {
            numbers = M;
            up =
                λ q f hq hf. edges_at (up_at n nf nc + number_in n nf k cap_list u q) f hf (up_in q hq) (up_zero (number_in n nf k cap_list u q) (low q hq)) ∙ up_some n nf k cap_list u R
                M q f hq hf;
            down =
                λ q f hq hf. edges_at (down_at n nf nc + number_in n nf k cap_list u q) f hf (down_in q hq) (down_zero (number_in n nf k cap_list u q) (low q hq)) ∙ down_some n nf k
                cap_list u R M q f hq hf;
            held = λ q f hq hf. sides_at q hq f hf ∙ sides_some n nf k cap_list u R M q f hq hf;
            up_small = λ q hq. edges_small (up_at n nf nc + number_in n nf k cap_list u q) (up_in q hq) (up_zero (number_in n nf k cap_list u q) (low q hq));
            down_small = λ q hq. edges_small (down_at n nf nc + number_in n nf k cap_list u q) (down_in q hq) (down_zero (number_in n nf k cap_list u q) (low q hq));
          }
