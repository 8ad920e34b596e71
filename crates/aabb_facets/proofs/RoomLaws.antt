-- Laws of the counts and lists that the inner functions work on (specs/Rooms.antt). Assumes nothing.
--   share_new, share_old, after   one shared corner, and that no number is beyond the vertices made
--   fan_few, fan_put, fan_grows   a fan, and how many vertices and numbers it adds
--   facet_shared, facet_fanned, facet_low   a facet
--   Sharing, sharing-..           the loop over the three corners of a facet that is inside
use Prim.Native.Nat.{ℕ, zero, suc, ◌+◌, ◌*◌, ◌-◌, ◌≤◌, ◌<◌}
use mathlib.Core.Bool.{Bool, true, false, cond}
use mathlib.Core.List.{List, [], ◌∷◌, flat_map}
use mathlib.Core.Path.{◌≡◌, refl, sym, ap, ◌∙◌, subst}
use native.Mathlib.Omega.{arith}
use native.Mathlib.Numerals.{add-one}
use lib.Dec.{ltb}
use lib.ListN.{get_or, set, length}
use lib.Seq.{sets}
use lib.Ieee.{Float}
use Rattle.geometry.specs.declared.point.Point.{Point}
use Rattle.geometry.specs.declared.aabb.AABB.{AABB}
use borrow.Author.Tests.{lt-ltb, le-ltb}
use Rattle.geometry.specs.Boxes.{faces}
use Rattle.geometry.specs.Triangles.{vertices, mapped, flat, corners_at}
use Rattle.geometry.specs.Meshes.{coordinates, vertex_of}
use Rattle.aabb_planes.specs.Planes.{snapped}
use Rattle.aabb_polygons.specs.Polygons.{clip_polygon}
use Rattle.aabb_facets.specs.declared.facets.Counts.{Counts}
use Rattle.aabb_facets.specs.Clipped.{fan}
use Rattle.aabb_facets.specs.Rooms.{Room, room, grow, share_room_as, share_room, fan_room, facet_room, share_to, all_marked, Low}
use Rattle.aabb_facets.proofs.OutputLists.{length_fan}

-- ---- a shared vertex
pub room_eq : {a b : ℕ} {c d : ℕ} {e f : List ℕ} {g h : List Float} {i j : List ℕ} → a ≡ b → c ≡ d → e ≡ f → g ≡ h → i ≡ j
    → ◌≡◌ {A = Room} (record { nv = a; nf = c; ids = e; vs = g; fs = i }) (record { nv = b; nf = d; ids = f; vs = h; fs = j })
room_eq p q r s t = λ x. record { nv = p x; nf = q x; ids = r x; vs = s x; fs = t x }

module _ (at : Counts) (i : List ℕ) (v : List Float) (f : List ℕ) (w : ℕ) (p : Point) where
  share_zero : (k : ℕ) → k ≡ 0 → (i' : List ℕ) (v' : List Float) (f' : List ℕ) → i' ≡ set i w (at.vertices + 2) → v' ≡ sets v (3 * at.vertices) (coordinates (p ∷ []))
      → f' ≡ set f at.numbers at.vertices
      → record { nv = at.vertices + 1; nf = at.numbers + 1; ids = i'; vs = v'; fs = f' } ≡ share_room_as k (room at i v f) w p
  unfolding share_room_as
  share_zero zero z i' v' f' a b c = room_eq refl refl a b c
  share_zero (suc k) z i' v' f' a b c = absurd (omega arith)

  pub share_new : (i' : List ℕ) (v' : List Float) (f' : List ℕ) → get_or i w 0 ≤ 1 → i' ≡ set i w (at.vertices + 2) → v' ≡ sets v (3 * at.vertices) (coordinates (p ∷ []))
      → f' ≡ set f at.numbers at.vertices
      → room (record { vertices = at.vertices + 1; numbers = at.numbers + 1 }) i' v' f' ≡ share_room (room at i v f) w p
  share_new i' v' f' z a b c = share_zero (get_or i w 0 - 1) (omega arith) i' v' f' a b c

  share_suc : (k : ℕ) → 0 < k → (f' : List ℕ) → f' ≡ set f at.numbers (k - 1)
      → record { nv = at.vertices; nf = at.numbers + 1; ids = i; vs = v; fs = f' } ≡ share_room_as k (room at i v f) w p
  unfolding share_room_as flat_map
  share_suc zero z f' c = absurd (omega arith)
  share_suc (suc k) z f' c = room_eq (omega arith) refl refl refl (c ∙ ap (set f at.numbers) (omega arith))

  pub share_old : (f' : List ℕ) → 1 < get_or i w 0 → f' ≡ set f at.numbers (get_or i w 0 - 2)
      → room (record { vertices = at.vertices; numbers = at.numbers + 1 }) i v f' ≡ share_room (room at i v f) w p
  share_old f' z c =
      let e : get_or i w 0 - 2 ≡ get_or i w 0 - 1 - 1 = omega arith in
      share_suc (get_or i w 0 - 1) (omega arith) f' (c ∙ ap (set f at.numbers) e)

-- ---- no shared number beyond the vertices
get_d_set_le : (l : List ℕ) (v x w b : ℕ) → x ≤ b → get_or l w 0 ≤ b → get_or (set l v x) w 0 ≤ b
get_d_set_le [] v x w b h k = k
get_d_set_le (y ∷ ys) zero x zero b h k = h
get_d_set_le (y ∷ ys) zero x (suc w) b h k = k
get_d_set_le (y ∷ ys) (suc v) x zero b h k = k
get_d_set_le (y ∷ ys) (suc v) x (suc w) b h k = get_d_set_le ys v x w b h k

pub record Next (r s : Room) : Type 0 where
  pub low : Low s
  pub nv : s.nv ≤ r.nv + 1
  pub nf : s.nf ≡ r.nf + 1

share_next : (k : ℕ) (r : Room) (v : ℕ) (p : Point) → Low r → Next r (share_room_as k r v p)
unfolding share_room_as
share_next zero r v p l =
    record {
      low = λ w. get_d_set_le r.ids v (r.nv + 2) w (r.nv + 1 + 1) (omega arith) (omega (arith, l w));
      nv = omega arith;
      nf = refl;
    }
share_next (suc k) r v p l = record { low = λ w. omega (arith, l w); nv = omega arith; nf = refl }

pub after : (r s : Room) (v : ℕ) (p : Point) → s ≡ share_room r v p → Low r → Next r s
after r s v p e l = subst (λ (x : Room). Next r x) (sym e) (share_next (get_or r.ids v 0 - 1) r v p l)

-- ---- a fan
module _ (at : Counts) (i : List ℕ) (v : List Float) (f : List ℕ) (l : List Point) where
  pub fan_few : length l < 3 → room at i v f ≡ fan_room (room at i v f) l
  unfolding fan_room
  fan_few h = sym (ap (λ (b : Bool). cond b (room at i v f) (grow (room at i v f) l (flat (fan at.vertices (length l - 2))))) (lt-ltb _ _ h))

  pub fan_put : (n : ℕ) (v' : List Float) (f' : List ℕ) → n ≡ length l → 3 ≤ n → v' ≡ sets v (3 * at.vertices) (coordinates l)
      → f' ≡ sets f at.numbers (flat (fan at.vertices (n - 2)))
      → room (record { vertices = at.vertices + n; numbers = at.numbers + 3 * (n - 2) }) i v' f' ≡ fan_room (room at i v f) l
  unfolding fan_room
  fan_put n v' f' e h a b =
      room_eq (ap (λ (x : ℕ). at.vertices + x) e) (ap (λ (x : ℕ). at.numbers + x) (sym (length_fan at.vertices (length l - 2) ∙ ap (λ (x : ℕ). 3 * (x - 2)) (sym e)))) refl a
      (b ∙ ap (λ (x : ℕ). sets f at.numbers (flat (fan at.vertices (x - 2)))) e)
      ∙ sym (ap (λ (b : Bool). cond b (room at i v f) (grow (room at i v f) l (flat (fan at.vertices (length l - 2))))) (le-ltb (length l) 3 (omega (arith, e))))

-- ---- a facet
fan_grows_by : (b : Bool) (r : Room) (l : List Point) → length l ≤ 28
    → ((cond b r (grow r l (flat (fan r.nv (length l - 2))))).nv ≤ r.nv + 28) × ((cond b r (grow r l (flat (fan r.nv (length l - 2))))).nf ≤ r.nf + 78)
fan_grows_by true r l h = (omega arith, omega arith)
fan_grows_by false r l h = (omega arith, omega (arith, length_fan r.nv (length l - 2)))

pub fan_grows : (r : Room) (l : List Point) → length l ≤ 28 → ((fan_room r l).nv ≤ r.nv + 28) × ((fan_room r l).nf ≤ r.nf + 78)
unfolding fan_room
fan_grows r l h = fan_grows_by (ltb (length l) 3) r l h

module _ (vs : List Float) (fs : List ℕ) (box : AABB) (eps : Float) (r : Room) (i : ℕ) where
  abbrev all_of : Bool
  all_of = all_marked r.ids (corners_at fs (3 * i))

  abbrev cut : List Point
  cut = clip_polygon box eps faces (vertices (mapped (vertex_of vs) (corners_at fs (3 * i))))

  pub facet_shared : (t : Room) (x : Bool) → x ≡ all_of → x ≡ true → t ≡ share_to vs fs box eps r i 3 → t ≡ facet_room vs fs box eps r i
  unfolding facet_room
  facet_shared t x e f g = g ∙ sym (ap (λ (y : Bool). cond y (share_to vs fs box eps r i 3) (fan_room r cut)) (sym e ∙ f))

  pub facet_fanned : (t : Room) (x : Bool) → x ≡ all_of → x ≡ false → t ≡ fan_room r cut → t ≡ facet_room vs fs box eps r i
  unfolding facet_room
  facet_fanned t x e f g = g ∙ sym (ap (λ (y : Bool). cond y (share_to vs fs box eps r i 3) (fan_room r cut)) (sym e ∙ f))

-- ---- the loop over the three corners
pub record Sharing (vs : List Float) (fs : List ℕ) (box : AABB) (eps : Float) (at : Counts) (i : ℕ) (ids₀ : List ℕ) (ov : List Float) (of ids : List ℕ) (outv : List Float)
    (outf : List ℕ) (to : Counts) (j : ℕ) : Type 0 where
  pub few : j ≤ 3
  pub shown : room to ids outv outf ≡ share_to vs fs box eps (room at ids₀ ov of) i j
  pub low : Low (room to ids outv outf)
  pub nv : to.vertices ≤ at.vertices + j
  pub nf : to.numbers ≡ at.numbers + j
  pub ids_length : length ids ≡ length ids₀
  pub v_length : length outv ≡ length ov
  pub f_length : length outf ≡ length of

module _ (vs : List Float) (fs : List ℕ) (box : AABB) (eps : Float) (at : Counts) (i : ℕ) (ids₀ : List ℕ) (ov : List Float) (of : List ℕ) where
  pub sharing_start : Low (room at ids₀ ov of) → Sharing vs fs box eps at i ids₀ ov of ids₀ ov of at 0
  unfolding share_to
  sharing_start l = record { few = omega arith; shown = refl; low = l; nv = omega arith; nf = omega arith; ids_length = refl; v_length = refl; f_length = refl }

  pub sharing_more : (ids : List ℕ) (v : List Float) (f : List ℕ) (to : Counts) (j : ℕ) → Sharing vs fs box eps at i ids₀ ov of ids v f to j → j < 3
      → (ids' : List ℕ) (v' : List Float) (f' : List ℕ) (r : Counts)
      → room r ids' v' f' ≡ share_room (room to ids v f) (get_or fs (3 * i + j) 0) (snapped box eps (vertex_of vs (get_or fs (3 * i + j) 0)))
      → length ids' ≡ length ids → length v' ≡ length v → length f' ≡ length f
      → Sharing vs fs box eps at i ids₀ ov of ids' v' f' r (j + 1)
  unfolding share_to
  sharing_more ids v f to j s h ids' v' f' r e a b c =
      let n = after (room to ids v f) (room r ids' v' f') (get_or fs (3 * i + j) 0) (snapped box eps (vertex_of vs (get_or fs (3 * i + j) 0))) e s.low in
      record {
        few = omega arith;
        shown = e ∙ ap (λ (x : Room). share_room x (get_or fs (3 * i + j) 0) (snapped box eps (vertex_of vs (get_or fs (3 * i + j) 0)))) s.shown
            ∙ ap (λ (k : ℕ). share_to vs fs box eps (room at ids₀ ov of) i k) (sym (add-one j));
        low = n.low;
        nv = omega (arith, n.nv, s.nv);
        nf = omega (arith, n.nf, s.nf);
        ids_length = a ∙ s.ids_length;
        v_length = b ∙ s.v_length;
        f_length = c ∙ s.f_length;
      }

-- ---- no number beyond the vertices made, after a fan and after a facet
fan_low_by : (b : Bool) (r : Room) (l : List Point) (ks : List ℕ) → Low r → Low (cond b r (grow r l ks))
fan_low_by true r l ks h = h
fan_low_by false r l ks h = λ w. omega (arith, h w)

fan_low : (r : Room) (l : List Point) → Low r → Low (fan_room r l)
unfolding fan_room
fan_low r l h = fan_low_by (ltb (length l) 3) r l (flat (fan r.nv (length l - 2))) h

either_low : (b : Bool) (r s : Room) → Low r → Low s → Low (cond b r s)
either_low true r s h k = h
either_low false r s h k = k

share_low : (r : Room) (v : ℕ) (p : Point) → Low r → Low (share_room r v p)
share_low r v p l = (share_next (get_or r.ids v 0 - 1) r v p l).low

to_low : (vs : List Float) (fs : List ℕ) (box : AABB) (eps : Float) (r : Room) (i : ℕ) → Low r → (j : ℕ) → Low (share_to vs fs box eps r i j)
unfolding share_to
to_low vs fs box eps r i l zero = l
to_low vs fs box eps r i l (suc j) =
    share_low (share_to vs fs box eps r i j) (get_or fs (3 * i + j) 0) (snapped box eps (vertex_of vs (get_or fs (3 * i + j) 0))) (to_low vs fs box eps r i l j)

pub facet_low : (vs : List Float) (fs : List ℕ) (box : AABB) (eps : Float) (r : Room) (i : ℕ) → Low r → Low (facet_room vs fs box eps r i)
unfolding facet_room
facet_low vs fs box eps r i l =
    either_low (all_of vs fs box eps r i) (share_to vs fs box eps r i 3) (fan_room r (cut vs fs box eps r i)) (to_low vs fs box eps r i l 3) (fan_low r (cut vs fs box eps r i) l)
