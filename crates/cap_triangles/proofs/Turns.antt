-- Turning triangles outward, as the code does it over the room. Assumes nothing.
--   turned_as, reversed_as   one triangle, by the test that decides
--   turned_words     the turned triangle i, by where the table begins
--   outward_words    turned by the points in the room is turned by the pool
--   Turning          the first i triangles stand turned in the room
--   turning_start, turning_more, turning_end   the loop;   turning_face   each number of a face is one
use Prim.Native.Nat.{ℕ, ◌+◌, ◌*◌, ◌/◌, ◌≤◌, ◌<◌}
use mathlib.Core.Path.{◌≡◌, sym, ap, ◌∙◌, subst}
use mathlib.Core.Bool.{Bool, true, false, cond, beq}
use mathlib.Core.List.{List, map}
use native.Mathlib.Omega.{arith}
use native.Mathlib.Decide.{ℕ_discrete}
use lib.Ieee.{Float, lt}
use lib.ListN.{length, get_or, set, length-set, length-map}
use lib.Seq.{ext_get_or, get_or-set_same, get_or-set_other}
use Rattle.lists.specs.Regions.{view, Above}
use Rattle.lists.proofs.Regions.{view_length, view_at, above_none}
use Rattle.lists.proofs.Sequences.{at_map}
use Rattle.root.specs.Doubles.{zero_f}
use Rattle.geometry.specs.declared.point.Point.{Point}
use Rattle.geometry.specs.Triangles.{Triangle, tri, reversed}
use Rattle.geometry.proofs.Threes.{length_threes, threes_at_lem}
use Rattle.box_faces.specs.declared.uv.Uv.{Uv}
use Rattle.box_faces.specs.Faces.{project, ccw_is_outward}
use Rattle.candidate_pool.specs.Offsets.{entry_at}
use Rattle.candidate_pool.specs.Standing.{count_at, point_at, pool_at}
use Rattle.candidate_pool.proofs.Reading.{pool_point}
use Rattle.cap_triangles.specs.Selection.{Cap, cap, cap_at, caps_of, signed_area, outward, outward_caps}
use Rattle.cap_triangles.specs.Listed.{bad_cap_place}
use Rattle.cap_triangles.specs.Room.{turned_at, Supplied, turned_in, TurnedReady}
use Rattle.cap_triangles.specs.Steps.{Standing, area_of, corners_in, turned_by}
use Rattle.cap_triangles.proofs.Kept.{pool_kept, supplied_kept}
use Rattle.cap_triangles.proofs.Fours.{caps_length, cap_at_lem, outward_at}
use Rattle.cap_triangles.proofs.Good.{GoodCap, good_cap, good_face}

-- ---- one triangle, by what the calls gave

module _ (w : List ℕ) (f : ℕ) (t : Triangle ℕ) (x y z : Point) (p q r : Uv) (area : Float) (out : Bool) (xe : x ≡ point_at w (entry_at t.a)) (ye : y ≡ point_at w (entry_at t.b))
    (ze : z ≡ point_at w (entry_at t.c)) (pe : p ≡ project f x) (qe : q ≡ project f y) (re : r ≡ project f z) (ae : area ≡ area_of (tri p q r)) (oe : out ≡ ccw_is_outward f) where
  area_is : area ≡ area_of (corners_in w f t)
  area_is =
      let a = pe ∙ ap (project f) xe in
      let b = qe ∙ ap (project f) ye in
      let c = re ∙ ap (project f) ze in
      ae ∙ (λ i. area_of (tri (a i) (b i) (c i)))

  test_is : beq (lt zero_f area) out ≡ beq (lt zero_f (area_of (corners_in w f t))) (ccw_is_outward f)
  test_is = λ i. beq (lt zero_f (area_is i)) (oe i)

  pub turned_as : beq (lt zero_f area) out ≡ true → t ≡ turned_by w f t
  unfolding turned_by
  turned_as e = sym (ap (λ (b : Bool). cond b t (reversed t)) (sym test_is ∙ e))

  pub reversed_as : beq (lt zero_f area) out ≡ false → (s : Triangle ℕ) → s ≡ reversed t → s ≡ turned_by w f t
  unfolding turned_by
  reversed_as e s h = h ∙ sym (ap (λ (b : Bool). cond b t (reversed t)) (sym test_is ∙ e))

-- the turned triangle i, by where the table begins
pub turned_words : (w : List ℕ) (at n nf i : ℕ) → at ≡ turned_at n nf
    → tri (get_or w (at + 3 * i) 0) (get_or w (at + 3 * i + 1) 0) (get_or w (at + 3 * i + 2) 0) ≡ tri (get_or w (turned_at n nf + 3 * i) 0) (get_or w (turned_at n nf + 3 * i + 1) 0)
    (get_or w (turned_at n nf + 3 * i + 2) 0)
turned_words w at n nf i e = ap (λ (o : ℕ). tri (get_or w (o + 3 * i) 0) (get_or w (o + 3 * i + 1) 0) (get_or w (o + 3 * i + 2) 0)) e

-- ---- by the words in the room, or by the pool

module _ (n : ℕ) (w : List ℕ) where
  pub outward_words : (t : Cap) → t.corners.a < count_at w → t.corners.b < count_at w → t.corners.c < count_at w → (outward (pool_at n w) t).corners ≡ turned_by w t.face
      t.corners
  unfolding outward turned_by signed_area area_of
  outward_words t a b c =
      let x = pool_point n w t.corners.a a in
      let y = pool_point n w t.corners.b b in
      let z = pool_point n w t.corners.c c in
      λ i. cond (beq (lt zero_f (area_of (tri (project t.face (x i)) (project t.face (y i)) (project t.face (z i))))) (ccw_is_outward t.face)) t.corners
      (reversed t.corners)

-- ---- three stores

abbrev stored_at : List ℕ → ℕ → Triangle ℕ → List ℕ
stored_at v o t = set (set (set v o t.a) (o + 1) t.b) (o + 2) t.c

module _ (v : List ℕ) (o : ℕ) (t : Triangle ℕ) (low : o + 2 < length v) where
  abbrev stored : List ℕ
  stored = stored_at v o t

  stored_long : length stored ≡ length v
  stored_long = length-set (set (set v o t.a) (o + 1) t.b) (o + 2) t.c ∙ length-set (set v o t.a) (o + 1) t.b ∙ length-set v o t.a

  stored_other : (x : ℕ) → (x ≡ o → ⊥) → (x ≡ o + 1 → ⊥) → (x ≡ o + 2 → ⊥) → get_or stored x 0 ≡ get_or v x 0
  stored_other x a b c =
      get_or-set_other (set (set v o t.a) (o + 1) t.b) (o + 2) x t.c 0 c
      ∙ get_or-set_other (set v o t.a) (o + 1) x t.b 0 b
      ∙ get_or-set_other v o x t.a 0 a

  stored_here : tri (get_or stored o 0) (get_or stored (o + 1) 0) (get_or stored (o + 2) 0) ≡ t
  stored_here =
      let l = length-set v o t.a in
      let m = length-set (set v o t.a) (o + 1) t.b in
      let a : get_or stored o 0 ≡ t.a
      = get_or-set_other (set (set v o t.a) (o + 1) t.b) (o + 2) o t.c 0 (λ e. omega arith)
      ∙ get_or-set_other (set v o t.a) (o + 1) o t.b 0 (λ e. omega arith)
      ∙ get_or-set_same v o t.a 0 (omega arith) in
      let b : get_or stored (o + 1) 0 ≡ t.b
      = get_or-set_other (set (set v o t.a) (o + 1) t.b) (o + 2) (o + 1) t.c 0 (λ e. omega arith)
      ∙ get_or-set_same (set v o t.a) (o + 1) t.b 0 (omega arith) in
      let c : get_or stored (o + 2) 0 ≡ t.c = get_or-set_same (set (set v o t.a) (o + 1) t.b) (o + 2) t.c 0 (omega arith) in
      λ i. tri (a i) (b i) (c i)

-- ---- the loop

pub record Turning (n nf : ℕ) (cap_list w v : List ℕ) (i : ℕ) : Type 0 where
  pub low : i ≤ length cap_list / 4
  pub above : Above (turned_at n nf) w v
  pub done : (j : ℕ) → j < i → tri (get_or v (turned_at n nf + 3 * j) 0) (get_or v (turned_at n nf + 3 * j + 1) 0) (get_or v (turned_at n nf + 3 * j + 2) 0) ≡ (outward (pool_at n w)
      (cap_at (caps_of cap_list) j)).corners

module _ (n nf : ℕ) (cap_list w : List ℕ) (supplied : Supplied n nf cap_list w) (good : bad_cap_place (pool_at n w) (caps_of cap_list) ≡ length (caps_of cap_list)) where
  abbrev o : ℕ
  o = turned_at n nf

  abbrev word : ℕ → ℕ
  word j = get_or cap_list j 0

  pub turning_start : Turning n nf cap_list w w 0
  turning_start = record { low = omega arith; above = above_none o w; done = λ j h. absurd (omega arith) }

  pub turning_face : (j : ℕ) → j < length cap_list / 4 → word (4 * j) < 6
  turning_face j h =
      subst (λ (t : Cap). t.face < 6) (cap_at_lem cap_list j h) (good_face (pool_at n w) (caps_of cap_list) good j (let e = caps_length cap_list in omega arith))

  module _ (v : List ℕ) (i : ℕ) (s : Turning n nf cap_list w v i) where
    kept : Supplied n nf cap_list v
    kept = supplied_kept o w v s.above n nf cap_list (omega arith) supplied

    pool_is : pool_at n v ≡ pool_at n w
    pool_is = pool_kept o w v s.above n supplied.pooled (omega arith)

    module _ (h : i < length cap_list / 4) (t : Triangle ℕ) (is : t ≡ tri (word (4 * i + 1)) (word (4 * i + 2)) (word (4 * i + 3))) where
      given : cap_at (caps_of cap_list) i ≡ cap (word (4 * i)) t
      given = cap_at_lem cap_list i h ∙ ap (cap (word (4 * i))) (sym is)

      fair : GoodCap (count_at v) (pool_at n v) (cap (word (4 * i)) t)
      fair =
          subst (GoodCap (count_at v) (pool_at n v)) given
          (good_cap n v kept.pooled (caps_of cap_list) (subst (λ p. bad_cap_place p (caps_of cap_list) ≡ length (caps_of cap_list)) (sym pool_is) good) i
          (let e = caps_length cap_list in omega arith))

      pub turning_asks : Standing v t
      turning_asks =
          let g = fair in
          let f = kept.pooled.few in
          let z = kept.pooled.size in
          let a = g.a in
          let b = g.b in
          let c = g.c in
          record {
            a = kept.pooled.stored t.a a;
            b = kept.pooled.stored t.b b;
            c = kept.pooled.stored t.c c;
            a_low = omega arith;
            b_low = omega arith;
            c_low = omega arith;
          }

      outward_is : (r : Triangle ℕ) → r ≡ turned_by v (word (4 * i)) t → r ≡ (outward (pool_at n w) (cap_at (caps_of cap_list) i)).corners
      outward_is r e =
          let g = fair in
          e ∙ sym (outward_words n v (cap (word (4 * i)) t) g.a g.b g.c)
          ∙ (λ k. (outward (pool_is k) (sym given k)).corners)

      pub turning_more : (at : ℕ) → at ≡ o → (r : Triangle ℕ) → r ≡ turned_by v (word (4 * i)) t
          → Turning n nf cap_list w (set (set (set v (at + 3 * i) r.a) (at + 3 * i + 1) r.b) (at + 3 * i + 2) r.c) (i + 1)
      turning_more at e r re = subst (λ (k : ℕ). Turning n nf cap_list w (stored_at v (k + 3 * i) r) (i + 1)) (sym e) next
        where
          fits : o + 3 * i + 2 < length v
          fits = let z = kept.size in omega arith

          other : (x : ℕ) → x < o + 3 * i → get_or (stored_at v (o + 3 * i) r) x 0 ≡ get_or v x 0
          other x l = stored_other v (o + 3 * i) r fits x (λ e. omega arith) (λ e. omega arith) (λ e. omega arith)

          at_j : (j : ℕ) → j < i + 1 → Dec (j ≡ i)
              → tri (get_or (stored_at v (o + 3 * i) r) (o + 3 * j) 0) (get_or (stored_at v (o + 3 * i) r) (o + 3 * j + 1) 0) (get_or (stored_at v (o + 3 * i) r) (o + 3 * j + 2) 0)
              ≡ (outward (pool_at n w) (cap_at (caps_of cap_list) j)).corners
          at_j j l (yes q) =
              subst (λ (k : ℕ). tri (get_or (stored_at v (o + 3 * i) r) (o + 3 * k) 0) (get_or (stored_at v (o + 3 * i) r) (o + 3 * k + 1) 0)
              (get_or (stored_at v (o + 3 * i) r) (o + 3 * k + 2) 0)
              ≡ (outward (pool_at n w) (cap_at (caps_of cap_list) k)).corners) (sym q)
              (stored_here v (o + 3 * i) r fits ∙ outward_is r re)
          at_j j l (no d) =
              let a = other (o + 3 * j) (omega arith) in
              let b = other (o + 3 * j + 1) (omega arith) in
              let c = other (o + 3 * j + 2) (omega arith) in
              (λ k. tri (a k) (b k) (c k)) ∙ s.done j (omega arith)

          next : Turning n nf cap_list w (stored_at v (o + 3 * i) r) (i + 1)
          next =
              record {
                low = omega arith;
                above = record {
                  long = stored_long v (o + 3 * i) r fits ∙ s.above.long;
                  below = λ x l. other x (omega arith) ∙ s.above.below x l;
                };
                done = λ j l. at_j j l (ℕ_discrete j i);
              }

    abbrev nc : ℕ
    nc = length cap_list / 4

    abbrev part : List ℕ
    part = view v o (3 * nc)

    abbrev wanted : List (Triangle ℕ)
    wanted = map (λ t. t.corners) (outward_caps (pool_at n w) (caps_of cap_list))

    pub turning_end : length cap_list / 4 ≤ i → TurnedReady n nf cap_list v
    turning_end h =
        record {
          supplied = kept;
          good = subst (λ p. bad_cap_place p (caps_of cap_list) ≡ length (caps_of cap_list)) (sym pool_is) good;
          turned = all ∙ ap (λ p. map (λ t. t.corners) (outward_caps p (caps_of cap_list))) (sym pool_is);
        }
      where
        part_long : length part ≡ 3 * nc
        part_long = view_length v o (3 * nc) (let z = kept.size in omega arith)

        long : length (turned_in n nf nc v) ≡ nc
        long = length_threes part ∙ (let e = part_long in omega arith)

        word_is : (j : ℕ) → j < 3 * nc → get_or part j 0 ≡ get_or v (o + j) 0
        word_is j l = view_at v o (3 * nc) j l

        at_j : (j : ℕ) → j < nc → get_or (turned_in n nf nc v) j (tri 0 0 0) ≡ get_or wanted j (tri 0 0 0)
        at_j j l =
            let e = part_long in
            let k : j < length (caps_of cap_list) = (let e = caps_length cap_list in omega arith) in
            let x : get_or part (3 * j) 0 ≡ get_or v (o + 3 * j) 0 = word_is (3 * j) (omega arith) in
            let y : get_or part (3 * j + 1) 0 ≡ get_or v (o + 3 * j + 1) 0 = word_is (3 * j + 1) (omega arith) ∙ ap (λ (k : ℕ). get_or v k 0) (omega arith) in
            let z : get_or part (3 * j + 2) 0 ≡ get_or v (o + 3 * j + 2) 0 = word_is (3 * j + 2) (omega arith) ∙ ap (λ (k : ℕ). get_or v k 0) (omega arith) in
            threes_at_lem part j (tri 0 0 0) 0 (omega arith)
            ∙ (λ t. tri (x t) (y t) (z t))
            ∙ s.done j (omega arith)
            ∙ sym (ap (λ (t : Cap). t.corners) (outward_at (pool_at n w) (caps_of cap_list) j k))
            ∙ sym (at_map (λ (t : Cap). t.corners) (outward_caps (pool_at n w) (caps_of cap_list)) j (cap 0 (tri 0 0 0)) (tri 0 0 0)
            (let m = length-map (caps_of cap_list) (outward (pool_at n w)) in omega arith))

        all : turned_in n nf nc v ≡ wanted
        all =
            let m : length wanted ≡ nc = length-map (outward_caps (pool_at n w) (caps_of cap_list)) (λ t. t.corners) ∙ length-map (caps_of cap_list) (outward (pool_at n w)) ∙ caps_length
            cap_list in
            ext_get_or (tri 0 0 0) (turned_in n nf nc v) wanted (long ∙ sym m) (λ j l. at_j j (let e = long in omega arith))
