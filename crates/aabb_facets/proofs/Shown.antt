-- The lists that the inner functions work on show what the definition makes: facet by facet, the steps of specs/Rooms.antt are those of
-- specs/Clipped.antt. Assumes nothing.
--   one_shows, three_shown   a shared corner, and a facet that is inside
--   fan_shows                a clipped facet
--   facet_shows              a facet
--   made_to, Passed, pass-..  the loop over the facets: start, turn, end
use Prim.Native.Nat.{ℕ, ◌+◌, ◌*◌, ◌-◌, ◌/◌, ◌≤◌, ◌<◌}
use mathlib.Core.Bool.{Bool, true, false, cond, ◌&&◌, and-true}
use mathlib.Core.List.{List, [], ◌∷◌, ◌++◌, flat_map, foldl, append_assoc, append-nil}
use mathlib.Core.Logic.{⊎_elim}
use mathlib.Core.Path.{◌≡◌, refl, sym, ap, ◌∙◌, subst}
use native.Mathlib.Omega.{arith}
use native.Mathlib.Numerals.{add-one}
use lib.Dec.{ltb}
use lib.ListN.{get_or, take, length, length-append}
use lib.Seq.{sets}
use lib.Ieee.{Float}
use Rattle.lists.specs.Lists.{every}
use Rattle.lists.proofs.Bools.{and_left, and_right}
use Rattle.lists.proofs.Orders.{cases}
use Rattle.lists.proofs.Sequences.{fold_more, fold_all}
use Rattle.lists.proofs.Stores.{sets_append}
use Rattle.geometry.specs.declared.point.Point.{Point}
use Rattle.geometry.specs.declared.aabb.AABB.{AABB}
use Rattle.geometry.specs.Boxes.{faces}
use Rattle.geometry.specs.Triangles.{tri, vertices, mapped, threes, flat}
use Rattle.geometry.specs.Meshes.{points_of, coordinates, vertex, vertex_of, mesh_of}
use Rattle.geometry.proofs.Threes.{length_threes, threes_at_lem, flat_append}
use Rattle.geometry.proofs.Meshes.{length_coordinates, coordinates_append}
use Rattle.aabb_planes.specs.Planes.{snapped}
use Rattle.aabb_polygons.specs.Polygons.{clip_polygon}
use Rattle.aabb_facets.specs.declared.facets.Counts.{Counts}
use Rattle.aabb_facets.specs.Clipped.{Clipping, shared_number, inside_box, fan, fanned, share_once, sharing, clip_facet, clip_facets}
use Rattle.aabb_facets.specs.Rooms.{Room, room, grow, marked, link, mark_words, share_room_as, share_room, share_to, fan_room, facet_room, shows_as, shows, Low}
use Rattle.aabb_facets.proofs.Clipped.{is_shared, linked, unlinked, share_first, share_again, number_new, shared_now, shared_still, number_still}
use Rattle.aabb_facets.proofs.MarkLists.{words_low, marked_is, word_less, new_word}
use Rattle.aabb_facets.proofs.RoomLaws.{room_eq, facet_low}

module _ (vs : List Float) (fs : List ℕ) (box : AABB) (eps : Float) (n : ℕ) (ov : List Float) (of : List ℕ) where
  abbrev seen : List Point → List (ℕ × ℕ) → List ℕ → Room
  seen ps shared ks = shows_as vs box eps n ps ks shared ov of

  grow_shows : (ps : List Point) (shared : List (ℕ × ℕ)) (ks : List ℕ) (qs : List Point) (new : List ℕ)
      → grow (seen ps shared ks) qs new ≡ seen (ps ++ qs) shared (ks ++ new)
  grow_shows ps shared ks qs new =
      room_eq (sym (length-append ps qs)) (sym (length-append ks new)) refl
      (ap (λ (k : ℕ). sets (sets ov 0 (coordinates ps)) k (coordinates qs)) (omega (arith, length_coordinates ps))
      ∙ sym (sets_append ov 0 (coordinates ps) (coordinates qs)) ∙ ap (sets ov 0) (sym (coordinates_append ps qs)))
      (ap (λ (k : ℕ). sets (sets of 0 ks) k new) (omega arith) ∙ sym (sets_append of 0 ks new))

  abbrev share : Clipping → ℕ → Clipping
  share c v = share_once box eps (points_of vs) c v

  abbrev In : ℕ → Bool
  In v = inside_box box eps (vertex_of vs v)

  -- ---- a shared corner
  module _ (c : Clipping) (ks : List ℕ) (v : ℕ) (h : v < n) (t : In v ≡ true) where
    abbrev p : Point
    p = snapped box eps (vertex_of vs v)

    abbrev shown : Clipping → Room
    shown m = seen m.points m.shared (ks ++ (shared_number m.shared v ∷ []))

    shares_first : is_shared c.shared v ≡ false → share_room_as (link c.shared v) (seen c.points c.shared ks) v p ≡ shown (share c v)
    unfolding share_room_as
    shares_first e =
        let k = length c.points in
        ap (λ (j : ℕ). share_room_as j (seen c.points c.shared ks) v p) (unlinked c.shared v e)
        ∙ ap (λ (l : List ℕ). grow (record { nv = k; nf = length ks; ids = l; vs = sets ov 0 (coordinates c.points); fs = sets of 0 ks }) (p ∷ []) (k ∷ []))
        (new_word vs box eps n c.shared v k t)
        ∙ grow_shows c.points ((v, k) ∷ c.shared) ks (p ∷ []) (k ∷ [])
        ∙ ap (λ (j : ℕ). seen (c.points ++ (p ∷ [])) ((v, k) ∷ c.shared) (ks ++ (j ∷ []))) (sym (number_new box eps (points_of vs) c v))
        ∙ ap shown (sym (share_first box eps (points_of vs) c v e))

    shares_again : is_shared c.shared v ≡ true → share_room_as (link c.shared v) (seen c.points c.shared ks) v p ≡ shown (share c v)
    unfolding share_room_as
    shares_again e =
        let k = shared_number c.shared v in
        ap (λ (j : ℕ). share_room_as j (seen c.points c.shared ks) v p) (linked c.shared v e ∙ add-one k)
        ∙ grow_shows c.points c.shared ks [] (k ∷ [])
        ∙ ap (λ (l : List Point). seen l c.shared (ks ++ (k ∷ []))) (append-nil c.points)
        ∙ ap shown (sym (share_again box eps (points_of vs) c v e))

    pub one_shows : (r : Room) → r ≡ seen c.points c.shared ks → share_room r v p ≡ shown (share c v)
    one_shows r e =
        ap (λ (x : Room). share_room x v p) e
        ∙ ap (λ (k : ℕ). share_room_as k (seen c.points c.shared ks) v p) (word_less vs box eps n c.shared v h t)
        ∙ ⊎_elim shares_again shares_first (cases (is_shared c.shared v))

  -- ---- the three corners of a facet that is inside
  module _ (m : Clipping) (a b c : ℕ) where
    abbrev m1 : Clipping
    m1 = share m a

    abbrev m2 : Clipping
    m2 = share m1 b

    abbrev m3 : Clipping
    m3 = share m2 c

    -- a corner's number is the same when all three are shared
    number_a : shared_number m1.shared a ≡ shared_number m3.shared a
    number_a =
        let p = shared_now box eps (points_of vs) m a in
        let q = shared_still box eps (points_of vs) m1 b a p in
        sym (number_still box eps (points_of vs) m2 c a q ∙ number_still box eps (points_of vs) m1 b a p)

    number_b : shared_number m2.shared b ≡ shared_number m3.shared b
    number_b = sym (number_still box eps (points_of vs) m2 c b (shared_now box eps (points_of vs) m1 b))

    pub numbers_same : (ks : List ℕ) → ks ++ (shared_number m1.shared a ∷ []) ++ (shared_number m2.shared b ∷ []) ++ (shared_number m3.shared c ∷ [])
        ≡ ks ++ (shared_number m3.shared a ∷ shared_number m3.shared b ∷ shared_number m3.shared c ∷ [])
    numbers_same ks =
        append_assoc (ks ++ (shared_number m1.shared a ∷ [])) (shared_number m2.shared b ∷ []) (shared_number m3.shared c ∷ [])
        ∙ append_assoc ks (shared_number m1.shared a ∷ []) (shared_number m2.shared b ∷ shared_number m3.shared c ∷ [])
        ∙ (λ i. ks ++ (number_a i ∷ number_b i ∷ shared_number m3.shared c ∷ []))

  cond_shows : (b : Bool) (r s : Room) (m k : Clipping) → (b ≡ true → r ≡ shows vs box eps n m ov of) → s ≡ shows vs box eps n k ov of → cond b r s ≡ shows vs box eps n
      (cond b m k) ov of
  cond_shows true r s m k e f = e refl
  cond_shows false r s m k e f = f

  fan_shows : (m : Clipping) (l : List Point) → fan_room (shows vs box eps n m ov of) l ≡ shows vs box eps n (fanned m l) ov of
  unfolding fan_room fanned
  fan_shows m l =
      let f = fan (length m.points) (length l - 2) in
      cond_shows (ltb (length l) 3) _ _ _ _ (λ h. refl)
      (grow_shows m.points m.shared (flat m.facets) l (flat f)
      ∙ ap (λ (k : List ℕ). seen (m.points ++ l) m.shared k) (sym (flat_append m.facets f)))

  -- ---- a facet
  module _ (m : Clipping) (i a b c : ℕ) (ea : get_or fs (3 * i) 0 ≡ a) (eb : get_or fs (3 * i + 1) 0 ≡ b) (ec : get_or fs (3 * i + 2) 0 ≡ c)
      (ha : a < n) (hb : b < n) (hc : c < n) where
    three_shown : In a ≡ true → In b ≡ true → In c ≡ true → share_to vs fs box eps (shows vs box eps n m ov of) i 3 ≡ shows vs box eps n
        (sharing box eps (points_of vs) m (tri a b c)) ov of
    unfolding share_to sharing flat_map
    three_shown ta tb tc =
        let ks = flat m.facets in
        let z : 3 * i + 0 ≡ 3 * i = omega arith in
        let f0 : get_or fs (3 * i + 0) 0 ≡ a = ap (λ (k : ℕ). get_or fs k 0) z ∙ ea in
        let c1 = share m a in
        let c2 = share c1 b in
        let c3 = share c2 c in
        let snap : ℕ → Point = λ v. snapped box eps (vertex_of vs v) in
        (λ t. share_room (share_room (share_room (shows vs box eps n m ov of) (f0 t) (snap (f0 t))) (eb t) (snap (eb t))) (ec t) (snap (ec t)))
        ∙ one_shows c2 (ks ++ (shared_number c1.shared a ∷ []) ++ (shared_number c2.shared b ∷ [])) c hc tc
        (share_room (share_room (shows vs box eps n m ov of) a (snap a)) b (snap b))
        (one_shows c1 (ks ++ (shared_number c1.shared a ∷ [])) b hb tb (share_room (shows vs box eps n m ov of) a (snap a))
        (one_shows m ks a ha ta (shows vs box eps n m ov of) refl))
        ∙ ap (seen c3.points c3.shared) (numbers_same m a b c ks ∙ sym (flat_append m.facets (mapped (shared_number c3.shared) (tri a b c) ∷ [])))

    inside_is : (In a && (In b && In c)) ≡ every (λ v. inside_box box eps (vertex (points_of vs) v)) (vertices (tri a b c))
    inside_is = ap (λ (x : Bool). In a && (In b && x)) (sym (and-true (In c)))

    pub facet_shows : facet_room vs fs box eps (shows vs box eps n m ov of) i ≡ shows vs box eps n (clip_facet box eps (points_of vs) m (tri a b c)) ov of
    unfolding facet_room clip_facet
    facet_shows =
        let w = mark_words vs box eps n m.shared in
        let polygon : List Point = vertex_of vs a ∷ vertex_of vs b ∷ vertex_of vs c ∷ [] in
        let room = shows vs box eps n m ov of in
        (λ t. cond (marked w (ea t) && (marked w (eb t) && marked w (ec t)))
        (share_to vs fs box eps room i 3)
        (fan_room room (clip_polygon box eps faces (vertex_of vs (ea t) ∷ vertex_of vs (eb t) ∷ vertex_of vs (ec t) ∷ []))))
        ∙ (λ t. cond (marked_is vs box eps n m.shared a ha t && (marked_is vs box eps n m.shared b hb t && marked_is vs box eps n m.shared c hc t))
        (share_to vs fs box eps room i 3)
        (fan_room room (clip_polygon box eps faces polygon)))
        ∙ cond_shows (In a && (In b && In c)) _ _ _ _
        (λ h. three_shown (and_left (In a) (In b && In c) h) (and_left (In b) (In c) (and_right (In a) (In b && In c) h))
        (and_right (In b) (In c) (and_right (In a) (In b && In c) h)))
        (fan_shows m (clip_polygon box eps faces polygon))
        ∙ ap (λ (x : Bool). shows vs box eps n (cond x (sharing box eps (points_of vs) m (tri a b c)) (fanned m (clip_polygon box eps faces polygon))) ov of) inside_is

-- ---- the loop over the facets
module _ (vs : List Float) (fs : List ℕ) (box : AABB) (eps : Float) where
  abbrev none : Clipping
  none = record { points = []; facets = []; shared = [] }

  -- what the first i facets make
  unfoldable pub made_to : ℕ → Clipping
  made_to i = foldl (clip_facet box eps (points_of vs)) none (take i (threes fs))

  made_more : (i : ℕ) → 3 * i + 2 < length fs → made_to (i + 1) ≡ clip_facet box eps (points_of vs) (made_to i)
      (tri (get_or fs (3 * i) 0) (get_or fs (3 * i + 1) 0) (get_or fs (3 * i + 2) 0))
  unfolding made_to
  made_more i h =
      let zeros = tri {A = ℕ} 0 0 0 in
      fold_more (clip_facet box eps (points_of vs)) none (threes fs) i zeros (omega (arith, length_threes fs))
      ∙ ap (clip_facet box eps (points_of vs) (foldl (clip_facet box eps (points_of vs)) none (take i (threes fs)))) (threes_at_lem fs i zeros 0 h)

  pub made_all : (i : ℕ) → i ≡ length fs / 3 → made_to i ≡ clip_facets box eps (mesh_of vs fs)
  unfolding made_to clip_facets
  made_all i e = fold_all (clip_facet box eps (points_of vs)) none (threes fs) i (omega (arith, length_threes fs))

pub record Passed (vs : List Float) (fs : List ℕ) (box : AABB) (eps : Float) (ids₀ : List ℕ) (ov : List Float) (of ids : List ℕ) (outv : List Float) (outf : List ℕ)
    (at : Counts) (i : ℕ) : Type 0 where
  pub shown : room at ids outv outf ≡ shows vs box eps (length vs / 3) (made_to vs fs box eps i) ov of
  pub low : Low (room at ids outv outf)
  pub nv : at.vertices ≤ 28 * i
  pub nf : at.numbers ≤ 78 * i
  pub ids_length : length ids ≡ length ids₀
  pub v_length : length outv ≡ length ov
  pub f_length : length outf ≡ length of

module _ (vs : List Float) (fs : List ℕ) (box : AABB) (eps : Float) (ids₀ : List ℕ) (ov : List Float) (of : List ℕ) where
  pub pass_start : ids₀ ≡ mark_words vs box eps (length vs / 3) [] → Passed vs fs box eps ids₀ ov of ids₀ ov of (record { vertices = 0; numbers = 0 }) 0
  unfolding made_to flat_map
  pass_start e =
      record {
        shown = room_eq refl refl e refl refl;
        low = λ w. omega (arith, ap (λ (l : List ℕ). get_or l w 0) e, words_low vs box eps 0 (length vs / 3) w);
        nv = omega arith;
        nf = omega arith;
        ids_length = refl;
        v_length = refl;
        f_length = refl;
      }

  pub pass_more : (ids : List ℕ) (v : List Float) (f : List ℕ) (at : Counts) (i : ℕ) → Passed vs fs box eps ids₀ ov of ids v f at i
      → ((j : ℕ) → j < length fs → (get_or fs j 0 < length ids₀) × (3 * get_or fs j 0 + 2 < length vs)) → 3 * i + 2 < length fs
      → (ids' : List ℕ) (v' : List Float) (f' : List ℕ) (r : Counts)
      → room r ids' v' f' ≡ facet_room vs fs box eps (room at ids v f) i
      → (r.vertices ≤ at.vertices + 28) × (r.numbers ≤ at.numbers + 78) → length ids' ≡ length ids → length v' ≡ length v → length f' ≡ length f
      → Passed vs fs box eps ids₀ ov of ids' v' f' r (i + 1)
  pass_more ids v f at i p below h ids' v' f' r e g a b c =
      let m = made_to vs fs box eps i in
      let b0 = below (3 * i) (omega arith) in
      let b1 = below (3 * i + 1) (omega arith) in
      let b2 = below (3 * i + 2) (omega arith) in
      record {
        shown =
            e ∙ ap (λ (x : Room). facet_room vs fs box eps x i) p.shown
            ∙ facet_shows vs fs box eps (length vs / 3) ov of m i (get_or fs (3 * i) 0) (get_or fs (3 * i + 1) 0) (get_or fs (3 * i + 2) 0) refl refl refl
            (omega (arith, b0.1)) (omega (arith, b1.1)) (omega (arith, b2.1))
            ∙ ap (λ (x : Clipping). shows vs box eps (length vs / 3) x ov of) (sym (made_more vs fs box eps i h));
        low = subst (λ (x : Room). Low x) (sym e) (facet_low vs fs box eps (room at ids v f) i p.low);
        nv = omega (arith, g, p.nv);
        nf = omega (arith, g, p.nf);
        ids_length = a ∙ p.ids_length;
        v_length = b ∙ p.v_length;
        f_length = c ∙ p.f_length;
      }

  pub pass_end : (ids : List ℕ) (v : List Float) (f : List ℕ) (at : Counts) (i : ℕ) → Passed vs fs box eps ids₀ ov of ids v f at i → i ≡ length fs / 3
      → room at ids v f ≡ shows vs box eps (length vs / 3) (clip_facets box eps (mesh_of vs fs)) ov of
  pass_end ids v f at i p e = p.shown ∙ ap (λ (x : Clipping). shows vs box eps (length vs / 3) x ov of) (made_all vs fs box eps i e)
