-- Laws of the walk round the corners, and of the planes in turn. Assumes nothing.
--   first, side_room, side_more, side_in, side_out, differ, agree   one side, in its two parts
--   Walked, walked-..     the loop over the corners: start, turn, end, and that there is room
--   most                  how many corners a facet can have after the plane k
--   next                  what the next plane asks of a polygon that a plane has left
--   all_stop, all_go, all_last   one plane before others, "stopping under three corners"
--   Cut, cut-..           the loop over the planes: start, turn, the two ends, and that there is room
--   few                   no more than 28 corners
use Prim.Native.Nat.{ℕ, zero, suc, ◌+◌, ◌*◌, ◌-◌, ◌/◌, ◌≤◌, ◌<◌}
use mathlib.Core.Bool.{Bool, true, false, cond, beq, not}
use mathlib.Core.List.{List, [], ◌∷◌, ◌++◌, map, append_assoc, append-nil}
use mathlib.Core.Path.{◌≡◌, refl, sym, ap, ◌∙◌}
use native.Mathlib.Omega.{arith}
use native.Mathlib.Numerals.{add-one}
use lib.ListN.{get_or, drop, length, length-append}
use lib.Seq.{drop-cons}
use Rattle.std.proofs.lemmas.List.{get_or_default}
use lib.Ieee.{Float}
use lib.Dec.{ltb}
use borrow.Author.Tests.{lt-ltb, le-ltb, not-true, not-false}
use Rattle.geometry.specs.declared.point.Point.{Point}
use Rattle.geometry.specs.declared.aabb.AABB.{AABB}
use Rattle.geometry.specs.Points.{origin}
use Rattle.geometry.specs.Boxes.{face_of, faces}
use Rattle.aabb_planes.specs.Planes.{inside, snapped}
use Rattle.geometry.specs.declared.face.BoxFace.{BoxFace}
use Rattle.geometry.specs.declared.face.BoxFace.TheVariants.{XMax, YMin, YMax, ZMin, ZMax}
use Rattle.aabb_polygons.specs.Polygons.{clip_to_plane, clip_polygon}
use Rattle.aabb_polygons.specs.Steps.{side_crossed, side_unsnapped, walk_unsnapped, clip_unsnapped}
use Rattle.aabb_polygons.proofs.Planes.{unsnapped_short, clip_short, clip_snapped}

-- ---- a side in its two parts: `i` and `j` are whether curr and prev are inside, w' what the first part makes of w
module _ (box : AABB) (eps : Float) (k : ℕ) (prev curr : Point) (i j : Bool) where
  abbrev pub first : List Point
  first = cond (beq i j) [] (side_crossed box eps k prev curr)

  module _ (w w' : List Point) (hi : i ≡ inside box eps k curr) (hj : j ≡ inside box eps k prev) where
    side_is : side_unsnapped box eps k prev curr ≡ first ++ cond i (curr ∷ []) []
    unfolding side_unsnapped
    side_is = simp (sym hi, sym hj)

    pub side_room : length w + length (side_unsnapped box eps k prev curr) ≤ 28 → length w + (length first + length (cond i (curr ∷ []) [])) ≤ 28
    side_room h = omega (arith, ap length side_is, length-append first (cond i (curr ∷ []) []))

    pub side_in : i ≡ true → w' ≡ w ++ first → w' ++ (curr ∷ []) ≡ w ++ side_unsnapped box eps k prev curr
    side_in t e =
        ap (λ (x : List Point). x ++ (curr ∷ [])) e ∙ append_assoc w first (curr ∷ [])
        ∙ ap (λ (b : Bool). w ++ (first ++ cond b (curr ∷ []) [])) (sym t) ∙ ap (λ (x : List Point). w ++ x) (sym side_is)

    pub side_more : length w + length (side_unsnapped box eps k prev curr) ≤ 28 → i ≡ true → w' ≡ w ++ first → length w' < 28
    side_more h t e =
        omega (arith, h, ap length (side_in t e), length-append w' (curr ∷ []), length-append w (side_unsnapped box eps k prev curr))

    pub side_out : i ≡ false → w' ≡ w ++ first → w' ≡ w ++ side_unsnapped box eps k prev curr
    side_out t e =
        e ∙ ap (λ (x : List Point). w ++ x) (sym (append-nil first)) ∙ ap (λ (b : Bool). w ++ (first ++ cond b (curr ∷ []) [])) (sym t)
        ∙ ap (λ (x : List Point). w ++ x) (sym side_is)

  -- the ends differ
  pub differ : not (beq i j) ≡ true → side_crossed box eps k prev curr ≡ first
  differ t = ap (λ (b : Bool). cond b [] (side_crossed box eps k prev curr)) (sym (not-true (beq i j) t))

  -- they agree
  pub agree : (w : List Point) → not (beq i j) ≡ false → w ≡ w ++ first
  agree w t = sym (append-nil w) ∙ ap (λ (b : Bool). w ++ cond b [] (side_crossed box eps k prev curr)) (sym (not-false (beq i j) t))

-- ---- the loop over the corners
-- before the corner i: what is written, with what the walk from prev still gives, is the whole
pub record Walked (box : AABB) (eps : Float) (k : ℕ) (l out : List Point) (prev : Point) (i : ℕ) : Type 0 where
  pub rest : out ++ walk_unsnapped box eps k prev (drop i l) ≡ clip_unsnapped box eps k l

module _ (box : AABB) (eps : Float) (k : ℕ) (l : List Point) where
  pub walked_start : (prev d : Point) → 0 < length l → prev ≡ get_or l (length l - 1) d → Walked box eps k l [] prev 0
  unfolding clip_unsnapped
  walked_start prev d z h =
      let e = get_or_default l (length l - 1) d origin (omega arith) in
      record { rest = ap (λ (p : Point). walk_unsnapped box eps k p l) (h ∙ e) }

  module _ (out : List Point) (prev : Point) (i : ℕ) (w : Walked box eps k l out prev i) where
    module _ (curr d : Point) (hc : curr ≡ get_or l i d) (h : i < length l) where
      one_side : walk_unsnapped box eps k prev (drop i l) ≡ side_unsnapped box eps k prev curr ++ walk_unsnapped box eps k curr (drop (i + 1) l)
      unfolding walk_unsnapped
      one_side =
          ap (walk_unsnapped box eps k prev) (drop-cons l i d h)
          ∙ ap (λ (p : Point). side_unsnapped box eps k prev p ++ walk_unsnapped box eps k p (drop (suc i) l)) (sym hc)
          ∙ ap (λ (n : ℕ). side_unsnapped box eps k prev curr ++ walk_unsnapped box eps k curr (drop n l)) (sym (add-one i))

      pub walked_room : length l ≤ 19 → length out + length (side_unsnapped box eps k prev curr) ≤ 28
      walked_room few =
          omega (
            arith,
            unsnapped_short k box eps l,
            ap length w.rest,
            ap length one_side,
            length-append out (walk_unsnapped box eps k prev (drop i l)),
            length-append (side_unsnapped box eps k prev curr) (walk_unsnapped box eps k curr (drop (i + 1) l)),
          )

      pub walked_more : (out' : List Point) → out' ≡ out ++ side_unsnapped box eps k prev curr → Walked box eps k l out' curr (i + 1)
      walked_more out' g =
          record {
            rest = ap (λ (o : List Point). o ++ walk_unsnapped box eps k curr (drop (i + 1) l)) g
                ∙ append_assoc out (side_unsnapped box eps k prev curr) (walk_unsnapped box eps k curr (drop (i + 1) l))
                ∙ ap (λ (o : List Point). out ++ o) (sym one_side) ∙ w.rest;
          }

    pub walked_end : drop i l ≡ [] → out ≡ clip_unsnapped box eps k l
    unfolding walk_unsnapped
    walked_end e = sym (append-nil out) ∙ ap (λ (m : List Point). out ++ walk_unsnapped box eps k prev m) (sym e) ∙ w.rest

-- ---- the loop over the planes
pub most : ℕ → ℕ
most zero = 4
most (suc k) = 3 * most k / 2

pub most_first : most 0 ≡ 4
unfolding most
most_first = refl

most_next : (k n r : ℕ) → n ≤ most k → 2 * r ≤ 3 * n → r ≤ most (k + 1)
unfolding most
most_next k n r h g = rw add-one (omega arith)

most_few : (k n : ℕ) → k < 5 → n ≤ most k → n ≤ 19
unfolding most
most_few zero n h g = omega arith
most_few (suc zero) n h g = omega arith
most_few (suc (suc zero)) n h g = omega arith
most_few (suc (suc (suc zero))) n h g = omega arith
most_few (suc (suc (suc (suc zero)))) n h g = omega arith
most_few (suc (suc (suc (suc (suc k))))) n h g = absurd (omega arith)

-- what the next plane asks of a polygon that the plane k has left: it is snapped, and as few as `few` corners have become `more` at most
pub next : (l m : List Point) (k : ℕ) (box : AABB) (eps : Float) (few more : ℕ) → m ≡ clip_to_plane box eps l k → length l ≤ few → 3 * few ≤ 2 * more + 1
    → 3 ≤ length m → ((0 < length m) × (length m ≤ more)) × (map (snapped box eps) m ≡ m)
next l m k box eps few more h g e t = (
  (omega arith, omega (arith, ap length h, clip_short box eps k l)),
  ap (map (snapped box eps)) h ∙ clip_snapped box eps k l ∙ sym h,
)

same_both : (b : Bool) (x : List Point) → x ≡ cond b x x
same_both true x = refl
same_both false x = refl

-- one plane before others, of any polygon
module _ (box : AABB) (eps : Float) (k : ℕ) (ks : List ℕ) (l m : List Point) (h : m ≡ clip_to_plane box eps l k) where
  pub all_stop : length m < 3 → m ≡ clip_polygon box eps (k ∷ ks) l
  unfolding clip_polygon
  all_stop s =
      h ∙ sym (ap (λ (b : Bool). cond b (clip_to_plane box eps l k) (clip_polygon box eps ks (clip_to_plane box eps l k)))
      (ap (λ (n : ℕ). ltb n 3) (sym (ap length h)) ∙ lt-ltb (length m) 3 s))

  pub all_go : (c : List Point) → 3 ≤ length m → c ≡ clip_polygon box eps ks m → c ≡ clip_polygon box eps (k ∷ ks) l
  unfolding clip_polygon
  all_go c s g =
      g ∙ ap (λ (x : List Point). clip_polygon box eps ks x) h
      ∙ sym (ap (λ (b : Bool). cond b (clip_to_plane box eps l k) (clip_polygon box eps ks (clip_to_plane box eps l k)))
      (ap (λ (n : ℕ). ltb n 3) (sym (ap length h)) ∙ le-ltb (length m) 3 s))

pub all_last : (box : AABB) (eps : Float) (k : ℕ) (l c : List Point) → c ≡ clip_to_plane box eps l k → c ≡ clip_polygon box eps (k ∷ []) l
unfolding clip_polygon
all_last box eps k l c h = h ∙ same_both (ltb (length (clip_to_plane box eps l k)) 3) (clip_to_plane box eps l k)

module _ (box : AABB) (eps : Float) where
  -- the planes that are left, "stopping under three corners"
  pub from : List ℕ → List Point → List Point
  from fs m = cond (ltb (length m) 3) m (clip_polygon box eps fs m)

  -- before the plane i + 1: what the planes before it left of t
  pub record Cut (t m : List Point) (i : ℕ) : Type 0 where
    pub whole : from (drop (i + 1) faces) m ≡ clip_polygon box eps faces t
    pub snapped : map (snapped box eps) m ≡ m
    pub few : length m ≤ most i

  module _ (t m : List Point) where
    pub cut_start : length t ≤ 3 → m ≡ clip_to_plane box eps t 0 → Cut t m 0
    unfolding clip_polygon from
    cut_start h g =
        record {
          whole = ap (from (drop 1 faces)) g;
          snapped = ap (map (snapped box eps)) g ∙ clip_snapped box eps 0 t ∙ sym g;
          few = omega (arith, clip_short box eps 0 t, ap length g, most_first);
        }

    module _ (i : ℕ) (c : Cut t m i) where
      pub cut_stop : length m < 3 → m ≡ clip_polygon box eps faces t
      unfolding from
      cut_stop h = sym (ap (λ (b : Bool). cond b m (clip_polygon box eps (drop (i + 1) faces) m)) (lt-ltb (length m) 3 h)) ∙ c.whole

      pub cut_room : i < 5 → length m ≤ 19
      cut_room h = most_few i (length m) h c.few

      go_on : 3 ≤ length m → clip_polygon box eps (drop (i + 1) faces) m ≡ clip_polygon box eps faces t
      unfolding from
      go_on h = sym (ap (λ (b : Bool). cond b m (clip_polygon box eps (drop (i + 1) faces) m)) (le-ltb (length m) 3 h)) ∙ c.whole

      pub cut_more : (f : ℕ) (m' : List Point) → drop (i + 1) faces ≡ f ∷ drop (i + 2) faces → 3 ≤ length m → m' ≡ clip_to_plane box eps m f → Cut t m' (i + 1)
      unfolding clip_polygon from
      cut_more f m' d h g =
          let e : (i + 1) + 1 ≡ i + 2 = omega arith in
          record {
            whole = ap (λ (n : ℕ). from (drop n faces) m') e ∙ ap (from (drop (i + 2) faces)) g
                ∙ ap (λ (fs : List ℕ). clip_polygon box eps fs m) (sym d) ∙ go_on h;
            snapped = ap (map (snapped box eps)) g ∙ clip_snapped box eps f m ∙ sym g;
            few = most_next i (length m) (length m') c.few (omega (arith, clip_short box eps f m, ap length g));
          }

      pub cut_end : drop (i + 1) faces ≡ [] → m ≡ clip_polygon box eps faces t
      unfolding clip_polygon from
      cut_end e = same_both (ltb (length m) 3) m ∙ ap (λ (fs : List ℕ). from fs m) (sym e) ∙ c.whole

-- the planes behind the first, as the code lists them
abbrev pub others : List BoxFace
others = XMax ∷ YMin ∷ YMax ∷ ZMin ∷ ZMax ∷ []

pub other_at : (i : ℕ) (d : BoxFace) → i < 5 → drop (i + 1) faces ≡ face_of (get_or others i d) ∷ drop (i + 2) faces
other_at zero d h = refl
other_at (suc zero) d h = refl
other_at (suc (suc zero)) d h = refl
other_at (suc (suc (suc zero))) d h = refl
other_at (suc (suc (suc (suc zero)))) d h = refl
other_at (suc (suc (suc (suc (suc i))))) d h = absurd (omega arith)

-- three corners pushed onto no corner
pub pushed : (a b c : Point) (k l m n : List Point) → k ≡ [] → l ≡ k ++ (a ∷ []) → m ≡ l ++ (b ∷ []) → n ≡ m ++ (c ∷ []) → n ≡ a ∷ b ∷ c ∷ []
pushed a b c k l m n hk hl hm hn = simp (hn, hm, hl, hk)

-- ---- no more than 28
either_few : (b : Bool) (x y : List Point) (n m : ℕ) → length x ≤ n → n ≤ m → length y ≤ m → length (cond b x y) ≤ m
either_few true x y n m g e h = omega arith
either_few false x y n m g e h = h

pub few : (p q s : Point) (box : AABB) (eps : Float) → length (clip_polygon box eps faces (p ∷ q ∷ s ∷ [])) ≤ 28
unfolding clip_polygon
few p q s box eps =
    let l1 = clip_to_plane box eps (p ∷ q ∷ s ∷ []) 0 in
    let l2 = clip_to_plane box eps l1 1 in
    let l3 = clip_to_plane box eps l2 2 in
    let l4 = clip_to_plane box eps l3 3 in
    let l5 = clip_to_plane box eps l4 4 in
    let l6 = clip_to_plane box eps l5 5 in
    let a1 : length l1 ≤ 4 = omega (arith, clip_short box eps 0 (p ∷ q ∷ s ∷ [])) in
    let a2 : length l2 ≤ 6 = omega (arith, clip_short box eps 1 l1) in
    let a3 : length l3 ≤ 9 = omega (arith, clip_short box eps 2 l2) in
    let a4 : length l4 ≤ 13 = omega (arith, clip_short box eps 3 l3) in
    let a5 : length l5 ≤ 19 = omega (arith, clip_short box eps 4 l4) in
    let a6 : length l6 ≤ 28 = omega (arith, clip_short box eps 5 l5) in
    let o : 4 ≤ 28 = omega arith in
    let u2 : 6 ≤ 28 = omega arith in
    let u3 : 9 ≤ 28 = omega arith in
    let u4 : 13 ≤ 28 = omega arith in
    let u5 : 19 ≤ 28 = omega arith in
    let u6 : 28 ≤ 28 = omega arith in
    either_few (ltb (length l1) 3) l1 _ 4 28 a1 o
    (either_few (ltb (length l2) 3) l2 _ 6 28 a2 u2
    (either_few (ltb (length l3) 3) l3 _ 9 28 a3 u3
    (either_few (ltb (length l4) 3) l4 _ 13 28 a4 u4
    (either_few (ltb (length l5) 3) l5 _ 19 28 a5 u5
    (either_few (ltb (length l6) 3) l6 l6 28 28 a6 u6 a6)))))
