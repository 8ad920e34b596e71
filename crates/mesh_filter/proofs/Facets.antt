-- The facets and points that the work room holds, read word by word; and what a search for a key says of duplicates. Assumes nothing.
use Prim.Native.Nat.{ℕ, zero, suc, ◌+◌, ◌*◌, ◌/◌, ◌≤◌, ◌<◌}
use native.Mathlib.Decide.{dec_lt}
use native.Mathlib.Omega.{arith}
use mathlib.Core.Path.{◌≡◌, refl, sym, ap, subst, ◌∙◌}
use mathlib.Core.Bool.{Bool, true, false, true≢false}
use mathlib.Core.List.{List, [], ◌∷◌, map}
use lib.Dec.{T, eqb}
use lib.ListN.{length, get_or, length-map, get_or-eq_default}
use lib.Ieee.{Float, le}
use Rattle.lists.specs.Lists.{some}
use Rattle.lists.proofs.Bools.{is_true}
use Rattle.lists.proofs.Regions.{view_length, view_at}
use Rattle.lists.proofs.Members.{of_some, some_of, mem_get_d, get_d_mem}
use Rattle.lists.proofs.Sequences.{at_map}
use Rattle.root.specs.Doubles.{◌⊗◌}
use Rattle.geometry.specs.Points.{origin, norm2, normal}
use Rattle.geometry.specs.Triangles.{Triangle, tri, mapped, threes, corners_at}
use Rattle.geometry.specs.Meshes.{vertex, vertex_of}
use Rattle.geometry.proofs.Threes.{length_threes, threes_at_lem}
use Rattle.std.specs.Prelude.{Option, is_some}
use Rattle.chains.specs.Links.{link_to, id_in}
use Rattle.chains.proofs.Firsts.{link_found, link_absent, link_map}
use Rattle.mesh_filter.specs.declared.corners.WeldedAt.{WeldedAt}
use Rattle.mesh_filter.specs.Filters.{facet_at, is_flat, same_corners, is_duplicate}
use Rattle.mesh_filter.specs.Room.{kept_in_room, numbers_in_room, points_in_room, facets_in_room, corners_key, Below, CornersNumbered}
use Rattle.mesh_filter.proofs.Keys.{same_key_lem}

none_link : (v : ℕ) → is_some (id_in v) ≡ false → v ≡ 0
none_link zero e = refl
none_link (suc k) e = absurd (true≢false e)

some_link : (v : ℕ) → is_some (id_in v) ≡ true → v ≡ 0 → ⊥
some_link zero e z = true≢false (sym e)
some_link (suc k) e z = omega arith

-- the welded points, where the kept vertices stand in the room
module _ (w : WeldedAt) (vs : List Float) (m : List ℕ) (room : w.kept + w.count ≤ length m) where
  pub point_is : (v : ℕ) → v < w.count → vertex (points_in_room w vs m) v ≡ vertex_of vs (get_or m (w.kept + v) 0)
  point_is v h =
      at_map (vertex_of vs) (kept_in_room w m) v 0 origin (let e = view_length m w.kept w.count room in omega arith)
      ∙ ap (vertex_of vs) (view_at m w.kept w.count v h)

  pub flat_at : (eps : Float) (t : Triangle ℕ) → Below w.count t
      → le (norm2 (normal (mapped (λ v. vertex_of vs (get_or m (w.kept + v) 0)) t))) (eps ⊗ eps ⊗ (eps ⊗ eps)) ≡ is_flat eps (points_in_room w vs m) t
  unfolding is_flat
  flat_at eps t h = λ i.
      le (norm2 (normal (tri (sym (point_is t.a h.a) i) (sym (point_is t.b h.b) i) (sym (point_is t.c h.c) i)))) (eps ⊗ eps ⊗ (eps ⊗ eps))

module _ (w : WeldedAt) (vs : List Float) (fs : List ℕ) (at n : ℕ) (m : List ℕ) (N : CornersNumbered w vs fs at n m) where
  abbrev F : List (Triangle ℕ)
  F = facets_in_room w vs fs m

  -- there are n facets
  pub facets_long : length F ≡ n
  facets_long = length-map (threes fs) (mapped (λ v. get_or (numbers_in_room w vs m) v 0)) ∙ length_threes fs ∙ (let e = N.facets in omega arith)

  pub facet_is : (f : ℕ) → f < n → facet_at F f ≡ mapped (λ v. get_or m (w.numbers + v) 0) (corners_at fs (3 * f))
  facet_is f h =
      at_map (mapped (λ v. get_or (numbers_in_room w vs m) v 0)) (threes fs) f (tri 0 0 0) (tri 0 0 0) (let e = N.facets in omega (arith, length_threes fs))
      ∙ ap (mapped (λ v. get_or (numbers_in_room w vs m) v 0)) (threes_at_lem fs f (tri 0 0 0) 0 (let e = N.facets in omega arith))
      ∙ (λ i. tri (read (3 * f) (let e = N.facets in omega arith) i) (read (3 * f + 1) (let e = N.facets in omega arith) i)
      (read (3 * f + 2) (let e = N.facets in omega arith) i))
    where
      read : (j : ℕ) → j < length fs → get_or (numbers_in_room w vs m) (get_or fs j 0) 0 ≡ get_or m (w.numbers + get_or fs j 0) 0
      read j lt = view_at m w.numbers (length vs / 3) (get_or fs j 0) (N.corner j lt)

  pub facet_below : (f : ℕ) → f < n → Below w.count (facet_at F f)
  facet_below f h = subst (Below w.count) (sym (facet_is f h)) (record {
    a = N.new (get_or fs (3 * f) 0) (N.corner (3 * f) (let e = N.facets in omega arith));
    b = N.new (get_or fs (3 * f + 1) 0) (N.corner (3 * f + 1) (let e = N.facets in omega arith));
    c = N.new (get_or fs (3 * f + 2) 0) (N.corner (3 * f + 2) (let e = N.facets in omega arith));
  })

  wider : (t : Triangle ℕ) → Below w.count t → Below 2097152 t
  wider t h = let p = h.a in let q = h.b in let r = h.c in let k = N.few in record { a = omega arith; b = omega arith; c = omega arith }

  pub facet_small : (f : ℕ) → Below 2097152 (facet_at F f)
  facet_small f = go (dec_lt f n)
    where
      go : Dec (f < n) → Below 2097152 (facet_at F f)
      go (yes h) = wider (facet_at F f) (facet_below f h)
      go (no h) =
          subst (Below 2097152) (sym (get_or-eq_default F (tri 0 0 0) {n = f} (let e = facets_long in omega arith)))
          (record { a = omega arith; b = omega arith; c = omega arith })

  pub flat_is : (eps : Float) (t : Triangle ℕ) → Below w.count t
      → le (norm2 (normal (mapped (λ v. vertex_of vs (get_or m (w.kept + v) 0)) t))) (eps ⊗ eps ⊗ (eps ⊗ eps)) ≡ is_flat eps (points_in_room w vs m) t
  flat_is eps t h = flat_at w vs m (let k = N.kept_in in let r = N.room in omega arith) eps t h

  -- ---- duplicates by their keys

  keys_some : (t : Triangle ℕ) → Below 2097152 t → (l : List ℕ) → some (λ j. same_corners (facet_at F j) t) l ≡ some (λ j. eqb (corners_key t) (corners_key (facet_at F j))) l
  keys_some t h [] = refl
  keys_some t h (j ∷ l) = rw (same_key_lem (facet_at F j) t (facet_small j) h, keys_some t h l)

  module _ (t : Triangle ℕ) (h : Below 2097152 t) (l keys : List ℕ) (e : keys ≡ map (λ j. corners_key (facet_at F j)) l) where
    found_in_lem : link_to (eqb (corners_key t)) keys ≡ link_to (λ j. eqb (corners_key t) (corners_key (facet_at F j))) l
    found_in_lem = ap (link_to (eqb (corners_key t))) e ∙ link_map (λ j. corners_key (facet_at F j)) (eqb (corners_key t)) l

    pub no_duplicate : (r : Option ℕ) → r ≡ id_in (link_to (eqb (corners_key t)) keys) → is_some r ≡ false → is_duplicate F l t ≡ false
    unfolding is_duplicate
    no_duplicate r found z = keys_some t h l ∙ none (some (λ j. eqb (corners_key t) (corners_key (facet_at F j))) l) (λ q.
        let m = of_some (λ j. eqb (corners_key t) (corners_key (facet_at F j))) l (subst T (sym q) tt) in
        let p = mem_get_d 0 m.1 in
        link_absent (λ j. eqb (corners_key t) (corners_key (facet_at F j))) 0 l (sym found_in_lem ∙ none_link _ (ap is_some (sym found) ∙ z)) p.0 p.1
        (ap (λ (j : ℕ). eqb (corners_key t) (corners_key (facet_at F j))) p.2 ∙ is_true _ m.2))
      where
        none : (b : Bool) → (b ≡ true → ⊥) → b ≡ false
        none true f = absurd (f refl)
        none false f = refl

    pub is_duplicate_lem : (r : Option ℕ) → r ≡ id_in (link_to (eqb (corners_key t)) keys) → is_some r ≡ true → is_duplicate F l t ≡ true
    unfolding is_duplicate
    is_duplicate_lem r found z = keys_some t h l ∙ go (link_to (eqb (corners_key t)) keys) found_in_lem (some_link _ (ap is_some (sym found) ∙ z))
      where
        go : (r : ℕ) → r ≡ link_to (λ j. eqb (corners_key t) (corners_key (facet_at F j))) l → (r ≡ 0 → ⊥) → some (λ j. eqb (corners_key t) (corners_key (facet_at F j))) l ≡ true
        go zero q nz = absurd (nz refl)
        go (suc k) q nz =
            let p = link_found (λ j. eqb (corners_key t) (corners_key (facet_at F j))) 0 l k (sym q) in
            is_true _ (some_of (λ j. eqb (corners_key t) (corners_key (facet_at F j))) (get_d_mem l k 0 p.0) (subst T (sym p.1) tt))
