-- How much clipping gives at most. Assumes nothing.
--   most          of each facet 28 vertices and 26 facets
--   inside_most   of a mesh with no vertex outside: no more vertices than it has, and as many facets
use Prim.Native.Nat.{ℕ, ◌+◌, ◌*◌, ◌-◌, ◌/◌, ◌≤◌, ◌<◌}
use mathlib.Core.Bool.{Bool, true, false, cond, not}
use mathlib.Core.List.{List, [], ◌∷◌, ◌++◌, map, foldl}
use mathlib.Core.Path.{◌≡◌, refl, sym, ap, ◌∙◌, subst}
use native.Mathlib.Omega.{arith}
use borrow.Author.Tests.{eq-eqb, ltb-true, not-false}
use lib.Dec.{eqb, ltb}
use lib.ListN.{get_or, length, length-append, length-map}
use lib.Ieee.{Float}
use Rattle.lists.specs.Lists.{every, up_to}
use Rattle.lists.proofs.Bools.{and_next, or_none_left, or_none_right}
use Rattle.lists.proofs.Every.{every_at, none_at}
use Rattle.lists.proofs.Mapped.{Each, Pairwise, each_places, each_at, pairwise_at}
use Rattle.lists.proofs.Orders.{never}
use Rattle.lists.proofs.Pigeonhole.{pigeonhole}
use Rattle.lists.proofs.Places.{length_up}
use Rattle.geometry.specs.declared.point.Point.{Point}
use Rattle.geometry.specs.declared.aabb.AABB.{AABB}
use Rattle.geometry.specs.Boxes.{faces}
use Rattle.geometry.specs.Points.{origin}
use Rattle.geometry.specs.Triangles.{Triangle, tri, vertices, mapped, threes, flat}
use Rattle.geometry.specs.Meshes.{Mesh, mesh_of, vertex}
use Rattle.geometry.proofs.Threes.{length_threes, threes_at_lem, length_flat}
use Rattle.geometry.proofs.Meshes.{length_points_of}
use Rattle.input_tests.specs.Front.{bad_index}
use Rattle.aabb_polygons.specs.Polygons.{clip_polygon}
use Rattle.aabb_polygons.proofs.Walks.{few}
use Rattle.aabb_facets.specs.Clipped.{Clipping, shared_number, inside_box, fan, fanned, share_once, sharing, clip_facet, clip_facets, clipped}
use Rattle.aabb_facets.proofs.Clipped.{is_shared, share_cases}

-- ---- of any mesh
pub record Few (c : Clipping) (i : ℕ) : Type 0 where
  pub points : length c.points ≤ 28 * i
  pub facets : length c.facets ≤ 26 * i

module _ (box : AABB) (eps : Float) (vs : List Point) where
  one_more : (c : Clipping) (v : ℕ) → length (share_once box eps vs c v).points ≤ length c.points + 1
  one_more c v = share_cases box eps vs c v (λ m. length m.points ≤ length c.points + 1) (λ e. simp length-append (omega arith)) (λ e. omega arith)

  few_shared : (c : Clipping) (t : Triangle ℕ) (i : ℕ) → Few c i → Few (sharing box eps vs c t) (i + 1)
  unfolding sharing
  few_shared c t i f =
      let c1 = share_once box eps vs c t.a in
      let c2 = share_once box eps vs c1 t.b in
      let c3 = share_once box eps vs c2 t.c in
      record {
        points = omega (arith, f.points, one_more c t.a, one_more c1 t.b, one_more c2 t.c);
        facets = omega (arith, f.facets, length-append c.facets (mapped (shared_number c3.shared) t ∷ []));
      }

  few_fanned : (c : Clipping) (l : List Point) (i : ℕ) → length l ≤ 28 → Few c i → Few (fanned c l) (i + 1)
  unfolding fanned fan
  few_fanned c l i h f = go (ltb (length l) 3)
    where
      spokes : ℕ → Triangle ℕ
      spokes k = tri (length c.points) (length c.points + k + 1) (length c.points + k + 2)

      long : length (map spokes (up_to (length l - 2))) ≡ length l - 2
      long = length-map (up_to (length l - 2)) spokes ∙ length_up 0 (length l - 2)

      go : (b : Bool) → Few (cond b c (record { points = c.points ++ l; facets = c.facets ++ map spokes (up_to (length l - 2)); shared = c.shared })) (i + 1)
      go true = record { points = omega (arith, f.points); facets = omega (arith, f.facets) }
      go false =
          record {
            points = omega (arith, f.points, length-append c.points l);
            facets = omega (arith, f.facets, length-append c.facets (map spokes (up_to (length l - 2))), long);
          }

  few_facet : (c : Clipping) (t : Triangle ℕ) (i : ℕ) → Few c i → Few (clip_facet box eps vs c t) (i + 1)
  unfolding clip_facet
  few_facet c t i f = go (every (λ v. inside_box box eps (vertex vs v)) (vertices t))
    where
      cut : List Point
      cut = clip_polygon box eps faces (map (vertex vs) (vertices t))

      go : (b : Bool) → Few (cond b (sharing box eps vs c t) (fanned c cut)) (i + 1)
      go true = few_shared c t i f
      go false = few_fanned c cut i (few (vertex vs t.a) (vertex vs t.b) (vertex vs t.c) box eps) f

  few_all : (l : List (Triangle ℕ)) (c : Clipping) (i : ℕ) → Few c i → Few (foldl (clip_facet box eps vs) c l) (i + length l)
  few_all [] c i f = subst (Few c) (omega arith) f
  few_all (t ∷ l) c i f = subst (Few (foldl (clip_facet box eps vs) (clip_facet box eps vs c t) l)) (omega arith) (few_all l (clip_facet box eps vs c t) (i + 1) (few_facet c t i f))

pub most : (box : AABB) (eps : Float) (m : Mesh)
    → (length (clipped box eps m).points ≤ 28 * length m.facets) × (length (flat (clipped box eps m).facets) ≤ 78 * length m.facets)
unfolding clipped clip_facets
most box eps m =
    let none : Clipping = record { points = []; facets = []; shared = [] } in
    let f = few_all box eps m.points m.facets none 0 (record { points = omega arith; facets = omega arith }) in
    (omega (arith, f.points), omega (arith, f.facets, length_flat (clipped box eps m).facets))

-- ---- of a mesh wholly inside
abbrev Differ : ℕ → ℕ → Type 0
Differ x y = x ≡ y → ⊥

abbrev olds : Clipping → List ℕ
olds c = map (λ (s : ℕ × ℕ). s.0) c.shared

-- every vertex is shared: each has an old number of its own
pub record Own (n : ℕ) (c : Clipping) (i : ℕ) : Type 0 where
  pub count : length c.points ≡ length c.shared
  pub once : Pairwise Differ (olds c)
  pub low : Each (λ x. x < n) (olds c)
  pub facets : length c.facets ≡ i

apart : (l : List (ℕ × ℕ)) (v : ℕ) → is_shared l v ≡ false → Each (Differ v) (map (λ (s : ℕ × ℕ). s.0) l)
apart [] v h = tt
apart (s ∷ l) v h =
    (λ q. never (eqb v s.0) (eq-eqb v s.0 q) (or_none_left (eqb v s.0) (is_shared l v) h), apart l v (or_none_right (eqb v s.0) (is_shared l v) h))

pub record Below (n : ℕ) (t : Triangle ℕ) : Type 0 where
  pub a : t.a < n
  pub b : t.b < n
  pub c : t.c < n

module _ (box : AABB) (eps : Float) (vs : List Point) (whole : every (inside_box box eps) vs ≡ true) where
  abbrev n : ℕ
  n = length vs

  own_shared : (c : Clipping) (v i : ℕ) → v < n → Own n c i → Own n (share_once box eps vs c v) i
  own_shared c v i h o =
      share_cases box eps vs c v (λ m. Own n m i)
      (λ e. record {
        count = simp length-append (omega (arith, o.count));
        once = (apart c.shared v e, o.once);
        low = (h, o.low);
        facets = o.facets;
      })
      (λ e. o)

  own_facet : (c : Clipping) (t : Triangle ℕ) (i : ℕ) → Below n t → Own n c i → Own n (clip_facet box eps vs c t) (i + 1)
  unfolding clip_facet sharing
  own_facet c t i h o =
      subst (λ (b : Bool). Own n (cond b (sharing box eps vs c t) (fanned c (clip_polygon box eps faces (map (vertex vs) (vertices t))))) (i + 1)) (sym inside)
      (record { count = o3.count; once = o3.once; low = o3.low; facets = long })
    where
      inside : every (λ v. inside_box box eps (vertex vs v)) (vertices t) ≡ true
      inside =
          and_next _ _ true (every_at (inside_box box eps) vs t.a origin whole h.a)
          (and_next _ _ true (every_at (inside_box box eps) vs t.b origin whole h.b) (and_next _ _ true (every_at (inside_box box eps) vs t.c origin whole h.c) refl))

      o3 : Own n (foldl (share_once box eps vs) c (vertices t)) i
      o3 =
          let c1 = share_once box eps vs c t.a in
          let c2 = share_once box eps vs c1 t.b in
          own_shared c2 t.c i h.c (own_shared c1 t.b i h.b (own_shared c t.a i h.a o))

      long : length (sharing box eps vs c t).facets ≡ i + 1
      long = length-append c.facets (mapped (shared_number (foldl (share_once box eps vs) c (vertices t)).shared) t ∷ []) ∙ ap (λ (k : ℕ). k + 1) o.facets

  own_all : (l : List (Triangle ℕ)) → Each (Below n) l → (c : Clipping) (i : ℕ) → Own n c i → Own n (foldl (clip_facet box eps vs) c l) (i + length l)
  own_all [] h c i o = subst (Own n c) (omega arith) o
  own_all (t ∷ l) h c i o =
      subst (Own n (foldl (clip_facet box eps vs) (clip_facet box eps vs c t) l)) (omega arith)
      (own_all l h.1 (clip_facet box eps vs c t) (i + 1) (own_facet c t i h.0 o))

below_all : (fs : List ℕ) (n : ℕ) → bad_index n fs ≡ false → Each (Below n) (threes fs)
unfolding bad_index
below_all fs n e =
    each_places (Below n) zeros (threes fs) (λ i h. subst (Below n) (sym (threes_at_lem fs i zeros 0 (omega (arith, length_threes fs)))) (at i (omega (arith, length_threes fs))))
  where
    zeros : Triangle ℕ
    zeros = tri 0 0 0

    one : (j : ℕ) → j < length fs → get_or fs j 0 < n
    one j h = ltb-true (get_or fs j 0) n (not-false (ltb (get_or fs j 0) n) (none_at (λ k. not (ltb k n)) fs j 0 e h))

    at : (i : ℕ) → 3 * i + 2 < length fs → Below n (tri (get_or fs (3 * i) 0) (get_or fs (3 * i + 1) 0) (get_or fs (3 * i + 2) 0))
    at i h = record { a = one (3 * i) (omega arith); b = one (3 * i + 1) (omega arith); c = one (3 * i + 2) (omega arith) }

pub inside_most : (box : AABB) (eps : Float) (vs : List Float) (fs : List ℕ) → bad_index (length vs / 3) fs ≡ false → every (inside_box box eps) (mesh_of vs fs).points ≡ true
    → (length (clipped box eps (mesh_of vs fs)).points ≤ length vs / 3) × (length (flat (clipped box eps (mesh_of vs fs)).facets) ≡ 3 * (length fs / 3))
unfolding clipped clip_facets
inside_most box eps vs fs e whole =
    let m = mesh_of vs fs in
    let k = length_points_of vs in
    let none : Clipping = record { points = []; facets = []; shared = [] } in
    let o = own_all box eps m.points whole (threes fs) (below_all fs (length m.points) (ap (λ (x : ℕ). bad_index x fs) k ∙ e)) none 0
    (record { count = refl; once = tt; low = tt; facets = refl }) in
    let c = foldl (clip_facet box eps m.points) none (threes fs) in
    let p = pigeonhole (length m.points) (olds c) (λ i j h g. pairwise_at Differ 0 (olds c) i j o.once h g)
    (λ i h. each_at (λ x. x < length m.points) 0 (olds c) i o.low h) in
    (omega (arith, o.count, p, k, length-map c.shared (λ (s : ℕ × ℕ). s.0)), omega (arith, o.facets, length_threes fs, length_flat c.facets))
