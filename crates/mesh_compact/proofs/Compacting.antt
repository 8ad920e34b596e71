-- What the last step leaves is the mesh defined: where nothing is dropped, and where components were found and their facets numbered. Assumes nothing.
use Prim.Native.Nat.{ℕ, ◌+◌, ◌*◌, ◌≤◌, ◌<◌}
use native.Mathlib.Decide.{dec_lt}
use native.Mathlib.Omega.{arith}
use mathlib.Core.Path.{◌≡◌, refl, sym, ap, subst, ◌∙◌}
use mathlib.Core.Bool.{Bool, true, false, cond, not, ◌||◌}
use mathlib.Core.List.{List, map, Memᴰ}
use lib.Dec.{eqb, leb}
use native.Mathlib.Nat.{min-le_left}
use lib.ListN.{length, get_or, drop, length-map, length-take, get_or-eq_default}
use lib.Seq.{ext_get_or}
use lib.Ieee.{Float}
use borrow.Author.Tests.{eq-eqb, ne_eqb, le-leb, lt-leb}
use Rattle.lists.specs.Lists.{keep, place, up_to, count, has}
use Rattle.lists.specs.Regions.{view, Apart}
use Rattle.lists.proofs.Regions.{view_length, view_at}
use Rattle.lists.proofs.Mapped.{each_of}
use Rattle.lists.proofs.Sequences.{at_map, map_same}
use Rattle.geometry.specs.declared.point.Point.{Point}
use Rattle.geometry.specs.Points.{origin}
use Rattle.geometry.specs.Triangles.{Triangle, tri, vertices, flat, corners_at}
use Rattle.geometry.specs.Meshes.{Mesh}
use Rattle.geometry.specs.FirstUse.{new_number}
use Rattle.components.specs.Components.{components, component_of}
use Rattle.components.specs.Table.{LabelsBelow, ComponentNumbers, ComponentTable, size}
use Rattle.components.proofs.Numbers.{number_in, size_component}
use Rattle.mesh_filter.specs.Filters.{facet_at}
use Rattle.mesh_compact.specs.declared.numbered.Numbered.{Numbered}
use Rattle.mesh_compact.specs.declared.compact.Staged.{Staged}
use Rattle.mesh_compact.specs.Status.{share_vertex, all_passed, is_alone, kept_facets}
use Rattle.mesh_compact.specs.Compact.{used_vertices, renumbered, compacted}
use Rattle.mesh_compact.specs.Room.{is_large_at, numbering, kept_corners, Naming, RenumberRoom, NumberedSoFar, StagedMesh, Source, Lent, MeshCompacted}
use Rattle.mesh_compact.proofs.Numbering.{numbered_points, numbered_place}
use Rattle.mesh_compact.proofs.Loop.{pointed_same}
use Rattle.mesh_compact.proofs.Statuses.{shares_back, once_passed, kept_passed, large_enough}
use Rattle.mesh_compact.proofs.Shared.{flat_mapped, keep_places, label_at, labels_link}

-- ---- where nothing is dropped

module _ (kept n facets k at least : ℕ) (m : List ℕ) (L : Lent kept n facets k at m) where
  abbrev whole : Staged
  whole = record { order = kept; vertices = n; corners = facets; numbers = 3 * k }

  module _ (point : ℕ → Point) (eps : Float) (points : List Point) (fs : List (Triangle ℕ)) (top : ℕ) (S : Source point eps points fs top kept n facets k m) where
    all_points : map point (view m kept n) ≡ points
    all_points =
        ext_get_or origin (map point (view m kept n)) points (long ∙ sym S.long)
        (λ u h. let h' : u < n = omega (arith, long) in at_map point (view m kept n) u 0 origin (omega (arith, viewed)) ∙ ap point (view_at m kept n u h') ∙ sym
        (S.pointed u h').is)
      where
        viewed : length (view m kept n) ≡ n
        viewed = view_length m kept n (let a = L.kept_in in let b = L.all_in in omega arith)

        long : length (map point (view m kept n)) ≡ n
        long = length-map (view m kept n) point ∙ viewed

    pub as_welded : (eqb (length (all_passed eps points fs)) 0 || leb least 1) ≡ true → StagedMesh point top (compacted eps least points fs) whole m
    unfolding compacted
    as_welded e =
        subst (λ (b : Bool). StagedMesh point top (cond b (record { points = points; facets = map (facet_at fs) (all_passed eps points fs) })
        (renumbered points (map (facet_at fs) (kept_facets eps points fs least)))) whole m) (sym e)
        (record {
          vertices = all_points;
          numbers = S.corners;
          low = λ j h. (S.pointed j h).low;
          small = λ j h. let a = L.corner j h in let b = L.few in omega arith;
        })

    pub renumbered_case : (eqb (length (all_passed eps points fs)) 0 || leb least 1) ≡ false → compacted eps least points fs ≡ renumbered points
        (map (facet_at fs) (kept_facets eps points fs least))
    unfolding compacted
    renumbered_case e =
        ap (λ (b : Bool). cond b (record { points = points; facets = map (facet_at fs) (all_passed eps points fs) })
        (renumbered points (map (facet_at fs) (kept_facets eps points fs least)))) e

  whole_of : ((c : ℕ) → c ≡ k → (eqb c 0 || leb least 1) ≡ true) → MeshCompacted kept n facets k least whole m m
  whole_of h =
      let a = L.kept_in in
      let b = L.facets_in in
      let c = L.all_in in
      let f = L.few in
      let s = L.small in
      record {
        vertices_in = omega arith;
        numbers_in = omega arith;
        few = omega arith;
        small = omega arith;
        mesh = λ point eps points fs top S. as_welded point eps points fs top S (h (length (all_passed eps points fs)) S.count);
      }

  pub none_passed : k ≡ 0 → MeshCompacted kept n facets k least whole m m
  none_passed z = whole_of (λ c e. rw (eq-eqb c 0 (e ∙ z)))

  pub none_small : least ≤ 1 → MeshCompacted kept n facets k least whole m m
  none_small h = whole_of (λ c e. go (eqb c 0))
    where
      go : (b : Bool) → (b || leb least 1) ≡ true
      go true = refl
      go false = le-leb least 1 h

  -- ---- what the finder of components asks

  pub apart : Apart at (k + k + n) facets (k * 3)
  apart i h j g e = let a = L.facets_in in omega arith

  pub labels_low : LabelsBelow (view m facets (k * 3)) n
  labels_low t h =
      let e = view_length m facets (k * 3) (let a = L.facets_in in let b = L.all_in in omega arith) in
      let g : t < k * 3 = omega arith in
      rw (view_at m facets (k * 3) t g) (L.corner t (omega arith))

  -- ---- the components found

  module _ (v : List ℕ) (C : ComponentTable (view m facets (k * 3)) k 3 n at m v) where
    below : (x : ℕ) → x < at → get_or v x 0 ≡ get_or m x 0
    below x h = C.rest x (λ i g e. omega arith)

    part_low : (i : ℕ) → i < k → get_or v (at + i) 0 < k
    part_low i h = rw (sym (view_at v at k i h)) (number_in (view m facets (k * 3)) k 3 (view v at k) C.numbers i h)

    -- what renumbering asks
    pub room : RenumberRoom kept facets at k (at + 2 * k + n) n v
    room = let a = L.kept_in in let b = L.facets_in in let c = L.all_in in let d = C.long in record {
      few = L.few;
      small = L.small;
      kept_in = omega arith;
      facets_in = omega arith;
      parts_in = omega arith;
      all_in = omega arith;
      corner = λ j h. rw (below (facets + j) (omega arith)) (L.corner j h);
      part = part_low;
    }

    module _ (point : ℕ → Point) (eps : Float) (points : List Point) (fs : List (Triangle ℕ)) (top : ℕ) (S : Source point eps points fs top kept n facets k m) where
      abbrev l : List ℕ
      l = all_passed eps points fs

      labels_are : view m facets (k * 3) ≡ flat (map (facet_at fs) l)
      labels_are = ap (view m facets) (let e : k * 3 ≡ 3 * k = omega arith in e) ∙ S.corners

      numbers_are : ComponentNumbers (view m facets (k * 3)) (length l) 3 (view v at k)
      numbers_are = subst (λ (x : ℕ). ComponentNumbers (view m facets (k * 3)) x 3 (view v at k)) (sym S.count) C.numbers

      large_is : (i : ℕ) → i < length l → is_large_at v at k least i ≡ not (is_alone eps points fs least (get_or l i 0))
      large_is i h =
          let h' : i < k = omega (arith, S.count) in
          ap (leb least) (C.sizes (get_or v (at + i) 0) (part_low i h') ∙ ap (size (view v at k)) (sym (view_at v at k i h'))
          ∙ size_component (view m facets (k * 3)) 3 (share_vertex fs) l (once_passed eps points fs) (labels_link fs l (view m facets (k * 3)) labels_are) (shares_back fs)
          (view v at k) numbers_are i h)
          ∙ large_enough eps points fs least (get_or l i 0) (count (has (component_of (components (share_vertex fs) l) (get_or l i 0))) l) refl

      word_is : (i x : ℕ) → i < length l → x < 3 → get_or v (facets + 3 * i + x) 0 ≡ get_or (vertices (facet_at fs (get_or l i 0))) x 0
      word_is i x h g =
          let h' : i < k = omega (arith, S.count) in
          let e : facets + 3 * i + x ≡ facets + (i * 3 + x) = omega arith in
          let b : i * 3 + x < k * 3 = omega arith in
          let f = L.facets_in in
          ap (λ (o : ℕ). get_or v o 0) e ∙ below (facets + (i * 3 + x)) (omega arith)
          ∙ sym (view_at m facets (k * 3) (i * 3 + x) b)
          ∙ label_at fs l (view m facets (k * 3)) labels_are i x h g

      facet_is : (i : ℕ) → i < length l → corners_at v (facets + 3 * i) ≡ facet_at fs (get_or l i 0)
      facet_is i h =
          let z : facets + 3 * i ≡ facets + 3 * i + 0 = omega arith in
          λ t. tri ((ap (λ (o : ℕ). get_or v o 0) z ∙ word_is i 0 h (omega arith)) t) (word_is i 1 h (omega arith) t) (word_is i 2 h (omega arith) t)

      corners_are : kept_corners v facets at k least k ≡ flat (map (facet_at fs) (kept_facets eps points fs least))
      corners_are =
          ap (λ (x : ℕ). flat (map (λ j. corners_at v (facets + 3 * j)) (keep (is_large_at v at k least) (up_to x)))) (sym S.count)
          ∙ ap flat (keep_places (is_large_at v at k least) (λ i. not (is_alone eps points fs least i)) (λ j. corners_at v (facets + 3 * j)) (facet_at fs) l 0
          (λ i h. let z : i ≡ 0 + i = omega arith in subst (λ (j : ℕ). (is_large_at v at k least j ≡ not (is_alone eps points fs least (get_or l i 0))) ×
          (corners_at v (facets + 3 * j) ≡ facet_at fs (get_or l i 0))) z (large_is i h, facet_is i h)))
          ∙ ap (λ (r : List ℕ). flat (map (facet_at fs) r)) (sym (kept_passed eps points fs least))

      delivered : (k ≡ 0 → ⊥) → 1 < least → (w : Numbered) (u : List ℕ) → NumberedSoFar kept facets at k (at + 2 * k + n) n least k w v u
          → StagedMesh point top (compacted eps least points fs) (record
          { order = at + 2 * k + n + n; vertices = w.vertices; corners = at + 2 * k + n + n + 3 * k; numbers = w.corners }) u
      unfolding renumbered
      delivered nz big w u G =
          subst (λ (mesh : Mesh). StagedMesh point top mesh (record {
            order = at + 2 * k + n + n;
            vertices = w.vertices;
            corners = at + 2 * k + n + n + 3 * k;
            numbers = w.corners;
          }) u) (sym (renumbered_case point eps points fs top S some)) (done N)
        where
          some : (eqb (length (all_passed eps points fs)) 0 || leb least 1) ≡ false
          some = rw (ne_eqb (length (all_passed eps points fs)) 0 (λ z. nz (sym S.count ∙ z)), lt-leb least 1 big)

          N : Naming point points top (at + 2 * k + n) n k w.vertices w.corners (flat (map (facet_at fs) (kept_facets eps points fs least))) u
          N =
              subst (λ (cs : List ℕ). Naming point points top (at + 2 * k + n) n k w.vertices w.corners cs u) corners_are
              (G.naming point points top S.long (λ x h. pointed_same point points top kept x m v (below (kept + x) (let a = L.kept_in in omega arith)) (S.pointed x h)))

          -- a corner with a number is a vertex
          low_corner : Naming point points top (at + 2 * k + n) n k w.vertices w.corners (flat (map (facet_at fs) (kept_facets eps points fs least))) u
              → (v : ℕ) → Memᴰ v (flat (map (facet_at fs) (kept_facets eps points fs least))) → v < length points
          low_corner N v x = go (dec_lt v (length points))
            where
              long : length (numbering points (flat (map (facet_at fs) (kept_facets eps points fs least)))).given ≤ n
              long = omega (arith, ap length N.given, length-take n (drop (at + 2 * k + n) u), min-le_left n (length (drop (at + 2 * k + n) u)))

              go : Dec (v < length points) → v < length points
              go (yes h) = h
              go (no h) =
                  absurd (let g = N.named v x in
                  let z = get_or-eq_default (numbering points (flat (map (facet_at fs) (kept_facets eps points fs least)))).given 0 {n = v} (omega (arith, long, S.long)) in
                  omega arith)

          done : Naming point points top (at + 2 * k + n) n k w.vertices w.corners (flat (map (facet_at fs) (kept_facets eps points fs least))) u
              → StagedMesh point top (renumbered points (map (facet_at fs) (kept_facets eps points fs least)))
              (record { order = at + 2 * k + n + n; vertices = w.vertices; corners = at + 2 * k + n + n + 3 * k; numbers = w.corners }) u
          done N =
              let held : List (Triangle ℕ) = map (facet_at fs) (kept_facets eps points fs least) in
              record {
                vertices = N.used ∙ numbered_points points (flat held) (each_of (λ v. v < length points) (flat held) (low_corner N));
                numbers = N.numbers
                    ∙ map_same (new_number (numbering points (flat held))) (λ v. place (eqb v) (used_vertices held)) (flat held)
                    (λ v x. numbered_place points (flat held) (each_of (λ v. v < length points) (flat held) (low_corner N)) v x)
                    ∙ sym (flat_mapped (λ v. place (eqb v) (used_vertices held)) held);
                low = N.low;
                small = λ j h. let a = N.small j h in let b = w.few in let c = G.within in let d = L.small in omega arith;
              }

    pub compacted_is : (k ≡ 0 → ⊥) → 1 < least → (w : Numbered) (u : List ℕ) → length u ≡ length v → NumberedSoFar kept facets at k (at + 2 * k + n) n least k w v u
        → MeshCompacted kept n facets k least (record { order = at + 2 * k + n + n; vertices = w.vertices; corners = at + 2 * k + n + n + 3 * k; numbers = w.corners }) m u
    compacted_is nz big w u e G =
        let a = L.all_in in
        let b = w.few in
        let c = G.within in
        let d = L.small in
        let f = C.long in
        record {
          vertices_in = omega arith;
          numbers_in = omega arith;
          few = omega arith;
          small = omega arith;
          mesh = λ point eps points fs top S. delivered point eps points fs top S nz big w u G;
        }
