-- What a list of triangles that passed 10 is known to be. Assumes nothing.
--   GoodCap        a face of the box; three different candidates, each in the face's list
--   not_bad        no triangle of such a list is one that 10 names
--   good_cap       each is a GoodCap
--   good_face, good_ascending   its face, which is not below the one before it
--   good_outward   and so is one turned outward
--   turned_corners, good_turned, turned_low   the same of the triangles that stand turned in the room
use Prim.Native.Nat.{ℕ, ◌+◌, ◌-◌, ◌*◌, ◌/◌, ◌≤◌, ◌<◌}
use mathlib.Core.Path.{◌≡◌, sym, ap, ◌∙◌, subst}
use mathlib.Core.Bool.{Bool, true, false, cond, not, ◌||◌, beq}
use mathlib.Core.List.{List}
use native.Mathlib.Omega.{arith}
use borrow.Author.Tests.{ltb-false, eqb-false, not-false}
use lib.Dec.{T, ltb, eqb}
use lib.Ieee.{lt}
use lib.ListN.{length, get_or, length-map}
use Rattle.lists.specs.Lists.{some, has, up_to}
use Rattle.lists.specs.Regions.{view}
use Rattle.lists.proofs.Bools.{or_none_left, or_none_right, is_false}
use Rattle.lists.proofs.Members.{place_before}
use Rattle.lists.proofs.Places.{at_up}
use Rattle.lists.proofs.Regions.{view_length, view_at}
use Rattle.lists.proofs.Sequences.{at_map}
use Rattle.root.specs.Doubles.{zero_f}
use Rattle.geometry.specs.Triangles.{Triangle, tri, vertices, edges, reversed}
use Rattle.geometry.proofs.Threes.{threes_at_lem}
use Rattle.box_faces.specs.Faces.{ccw_is_outward}
use Rattle.candidate_pool.specs.Pool.{Pool, face_list}
use Rattle.candidate_pool.specs.Standing.{count_at, pool_at, Tidy}
use Rattle.candidate_pool.proofs.Tidying.{has_low}
use Rattle.candidate_pool.proofs.Reading.{pool_count}
use Rattle.cap_triangles.specs.Selection.{Cap, cap, cap_at, caps_of, signed_area, outward, outward_caps}
use Rattle.cap_triangles.specs.Listed.{bad_cap, bad_cap_place}
use Rattle.cap_triangles.specs.Room.{turned_at, Pooled, TurnedReady}
use Rattle.cap_triangles.proofs.Fours.{caps_length, outward_at}

pub record GoodCap (count : ℕ) (pool : Pool) (t : Cap) : Type 0 where
  pub face : t.face < 6
  pub a : t.corners.a < count
  pub b : t.corners.b < count
  pub c : t.corners.c < count
  pub ab : t.corners.a ≡ t.corners.b → ⊥
  pub bc : t.corners.b ≡ t.corners.c → ⊥
  pub ca : t.corners.c ≡ t.corners.a → ⊥
  pub on_a : has (face_list pool t.face) t.corners.a ≡ true
  pub on_b : has (face_list pool t.face) t.corners.b ≡ true
  pub on_c : has (face_list pool t.face) t.corners.c ≡ true

module _ (pool : Pool) (caps : List Cap) where
  abbrev descends : ℕ → Bool
  descends i = ltb (cap_at caps i).face (cap_at caps (i - 1)).face

  abbrev repeats : ℕ → Bool
  repeats i = some (λ s. eqb s.0 s.1) (edges (cap_at caps i).corners)

  abbrev strays : ℕ → Bool
  strays i = some (λ c. not (has (face_list pool (cap_at caps i).face) c)) (vertices (cap_at caps i).corners)

  module _ (good : bad_cap_place pool caps ≡ length caps) (i : ℕ) (h : i < length caps) where
    pub not_bad : bad_cap pool caps i ≡ false
    unfolding bad_cap_place
    not_bad =
        let e : get_or (up_to (length caps)) i 0 ≡ i = at_up 0 (length caps) i h ∙ omega arith in
        is_false (bad_cap pool caps i)
        (λ t. place_before (bad_cap pool caps) 0 (up_to (length caps)) i (let g = good in omega arith) (subst (λ (k : ℕ). T (bad_cap pool caps k)) (sym e) t))

    pub good_face : (cap_at caps i).face < 6
    unfolding bad_cap
    good_face = let b = ltb-false 5 (cap_at caps i).face (or_none_left (ltb 5 (cap_at caps i).face) (descends i || (repeats i || strays i)) not_bad) in omega arith

    not_later : (descends i || (repeats i || strays i)) ≡ false
    unfolding bad_cap
    not_later = or_none_right (ltb 5 (cap_at caps i).face) (descends i || (repeats i || strays i)) not_bad

    pub good_ascending : (cap_at caps (i - 1)).face ≤ (cap_at caps i).face
    good_ascending = ltb-false (cap_at caps i).face (cap_at caps (i - 1)).face (or_none_left (descends i) (repeats i || strays i) not_later)

    not_last : (repeats i || strays i) ≡ false
    not_last = or_none_right (descends i) (repeats i || strays i) not_later

    differ : (x y z : Bool) → (x || (y || (z || false))) ≡ false → (x ≡ false) × (y ≡ false) × (z ≡ false)
    differ x y z e =
        let f = or_none_right x (y || (z || false)) e in
        (or_none_left x (y || (z || false)) e, or_none_left y (z || false) f, or_none_left z false (or_none_right y (z || false) f))

    abbrev x : ℕ
    x = (cap_at caps i).corners.a

    abbrev y : ℕ
    y = (cap_at caps i).corners.b

    abbrev z : ℕ
    z = (cap_at caps i).corners.c

    different : (eqb x y ≡ false) × (eqb y z ≡ false) × (eqb z x ≡ false)
    different = differ (eqb x y) (eqb y z) (eqb z x) (or_none_left (repeats i) (strays i) not_last)

    abbrev here : ℕ → Bool
    here c = has (face_list pool (cap_at caps i).face) c

    missing : (not (here x) ≡ false) × (not (here y) ≡ false) × (not (here z) ≡ false)
    missing = differ (not (here x)) (not (here y)) (not (here z)) (or_none_right (repeats i) (strays i) not_last)

    good_tidy : Tidy pool → GoodCap (length pool.all) pool (cap_at caps i)
    good_tidy tidy =
        let f = good_face in
        let d = different in
        let m = missing in
        let p : here x ≡ true = not-false (here x) m.0 in
        let q : here y ≡ true = not-false (here y) m.1 in
        let r : here z ≡ true = not-false (here z) m.2 in
        record {
          face = f;
          a = has_low pool tidy (cap_at caps i).face x f p;
          b = has_low pool tidy (cap_at caps i).face y f q;
          c = has_low pool tidy (cap_at caps i).face z f r;
          ab = eqb-false x y d.0;
          bc = eqb-false y z d.1;
          ca = eqb-false z x d.2;
          on_a = p;
          on_b = q;
          on_c = r;
        }

pub good_cap : (n : ℕ) (w : List ℕ) → Pooled n w → (caps : List Cap) → bad_cap_place (pool_at n w) caps ≡ length caps
    → (i : ℕ) → i < length caps → GoodCap (count_at w) (pool_at n w) (cap_at caps i)
good_cap n w pooled caps good i h = subst (λ (k : ℕ). GoodCap k (pool_at n w) (cap_at caps i)) (pool_count n w) (good_tidy (pool_at n w) caps good i h pooled.tidy)

pub good_outward : (count : ℕ) (pool : Pool) (t : Cap) → GoodCap count pool t → GoodCap count pool (outward pool t)
unfolding outward
good_outward count pool t g = go (beq (lt zero_f (signed_area pool t)) (ccw_is_outward t.face))
  where
    go : (s : Bool) → GoodCap count pool (cap t.face (cond s t.corners (reversed t.corners)))
    go true = g
    go false =
        record {
          face = g.face;
          a = g.a;
          b = g.c;
          c = g.b;
          ab = λ e. g.ca (sym e);
          bc = λ e. g.bc (sym e);
          ca = λ e. g.ab (sym e);
          on_a = g.on_a;
          on_b = g.on_c;
          on_c = g.on_b;
        }

module _ (n nf : ℕ) (cap_list w : List ℕ) (r : TurnedReady n nf cap_list w) (i : ℕ) (h : i < length cap_list / 4) where
  abbrev nc : ℕ
  nc = length cap_list / 4

  abbrev low : ℕ
  low = turned_at n nf

  abbrev part : List ℕ
  part = view w low (3 * nc)

  supplied_one : i < length (caps_of cap_list)
  supplied_one = let e = caps_length cap_list in omega arith

  pub good_turned : GoodCap (count_at w) (pool_at n w) (outward (pool_at n w) (cap_at (caps_of cap_list) i))
  good_turned =
      good_outward (count_at w) (pool_at n w) (cap_at (caps_of cap_list) i)
      (good_cap n w r.supplied.pooled (caps_of cap_list) r.good i supplied_one)

  word_at : (j : ℕ) → j < 3 * nc → get_or part j 0 ≡ get_or w (low + j) 0
  word_at j l = view_at w low (3 * nc) j l

  pub turned_corners : tri (get_or w (low + 3 * i) 0) (get_or w (low + 3 * i + 1) 0) (get_or w (low + 3 * i + 2) 0) ≡ (outward (pool_at n w) (cap_at (caps_of cap_list) i)).corners
  turned_corners =
      let s = r.supplied.size in
      let long : length part ≡ 3 * nc = view_length w low (3 * nc) (omega arith) in
      let x : get_or part (3 * i) 0 ≡ get_or w (low + 3 * i) 0 = word_at (3 * i) (omega arith) in
      let y : get_or part (3 * i + 1) 0 ≡ get_or w (low + 3 * i + 1) 0 = word_at (3 * i + 1) (omega arith) ∙ ap (λ (k : ℕ). get_or w k 0) (omega arith) in
      let z : get_or part (3 * i + 2) 0 ≡ get_or w (low + 3 * i + 2) 0 = word_at (3 * i + 2) (omega arith) ∙ ap (λ (k : ℕ). get_or w k 0) (omega arith) in
      (λ t. tri (sym x t) (sym y t) (sym z t))
      ∙ sym (threes_at_lem part i (tri 0 0 0) 0 (omega arith))
      ∙ ap (λ (l : List (Triangle ℕ)). get_or l i (tri 0 0 0)) r.turned
      ∙ at_map (λ (t : Cap). t.corners) (outward_caps (pool_at n w) (caps_of cap_list)) i (cap 0 (tri 0 0 0)) (tri 0 0 0)
      (let e = length-map (caps_of cap_list) (outward (pool_at n w)) in let s = supplied_one in omega arith)
      ∙ ap (λ (t : Cap). t.corners) (outward_at (pool_at n w) (caps_of cap_list) i supplied_one)

  pub turned_low : (get_or w (low + 3 * i) 0 < count_at w) × (get_or w (low + 3 * i + 1) 0 < count_at w) × (get_or w (low + 3 * i + 2) 0 < count_at w)
  turned_low =
      let g = good_turned in
      let x = ap (λ (t : Triangle ℕ). t.a) turned_corners in
      let y = ap (λ (t : Triangle ℕ). t.b) turned_corners in
      let z = ap (λ (t : Triangle ℕ). t.c) turned_corners in
      let a = g.a in
      let b = g.b in
      let c = g.c in
      (omega arith, omega arith, omega arith)
