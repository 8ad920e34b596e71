-- From what the tests have passed, through welding, the filter and the last step, to the mesh defined. Assumes nothing.
use Prim.Native.Nat.{ℕ, zero, suc, ◌+◌, ◌*◌, ◌/◌, ◌%◌, ◌≤◌, ◌<◌}
use native.Mathlib.Omega.{arith}
use mathlib.Core.Path.{◌≡◌, sym, ap, subst, ◌∙◌}
use mathlib.Core.Bool.{not}
use mathlib.Core.List.{List, map}
use lib.Dec.{ltb}
use lib.ListN.{length, get_or, length-map}
use lib.Ieee.{Float, nan}
use borrow.Author.Tests.{ltb-true, not-false}
use Rattle.lists.specs.Regions.{view}
use Rattle.lists.proofs.Regions.{view_length, view_at}
use Rattle.lists.proofs.Every.{none_at}
use Rattle.lists.proofs.Sequences.{at_map}
use Rattle.geometry.specs.declared.point.Point.{Point}
use Rattle.geometry.specs.Points.{origin}
use Rattle.geometry.specs.Triangles.{Triangle, mapped, vertices, threes, flat}
use Rattle.geometry.specs.Meshes.{Mesh, points_of, vertex, vertex_of}
use Rattle.geometry.proofs.Meshes.{length_points_of, vertex_at}
use Rattle.rounding.specs.Rounding.{far_key}
use Rattle.input_tests.specs.Front.{bad_index, far_keys}
use Rattle.mesh_weld.specs.Weld.{Welded, weld}
use Rattle.mesh_weld.specs.Cells.{cells}
use Rattle.mesh_weld.specs.Room.{KeyIn, KeysIn, Welds}
use Rattle.mesh_weld.proofs.Rule.{lawful}
use Rattle.mesh_weld.proofs.Numbers.{Numbers, weld_numbers}
use Rattle.mesh_filter.specs.declared.corners.WeldedAt.{WeldedAt}
use Rattle.mesh_filter.specs.Filters.{facet_at, passed}
use Rattle.mesh_filter.specs.Room.{points_in_room, facets_in_room, CornersNumbered, Filtered, Below}
use Rattle.mesh_filter.proofs.Facets.{facets_long, facet_below}
use Rattle.mesh_compact.specs.declared.compact.Staged.{Staged}
use Rattle.mesh_compact.specs.Compact.{compacted}
use Rattle.mesh_compact.specs.Room.{StagedMesh, Source, Lent, MeshCompacted}
use Rattle.mesh_compact.proofs.Statuses.{passed_low}
use Rattle.mesh_compact.proofs.Shared.{label_at}
use Rattle.mesh_cleanup.specs.Clean.{CleanAsked, welded_mesh, cleaned_mesh, clean_result}
use Rattle.mesh_cleanup.specs.Steps.{CleanReady, Staging}

module _ (vs : List Float) (fs : List ℕ) (q : CleanAsked) (lent : ℕ) (R : CleanReady vs fs q lent) where
  abbrev eps : Float
  eps = q.eps

  abbrev nv : ℕ
  nv = length vs / 3

  abbrev nf : ℕ
  nf = length fs / 3

  -- ---- what welding asks

  coordinates_in : (i : ℕ) → i < nv → 3 * i + 2 < length vs
  coordinates_in i h = let w = R.lists.whole_vertices in omega arith

  pub keys_in : KeysIn vs eps nv
  unfolding far_keys
  keys_in i h =
      let b = coordinates_in i h in
      subst (KeyIn eps) (sym (vertex_at vs i nan b))
      (record {
        x = none_at (far_key eps) vs (3 * i) nan R.near (omega arith);
        y = none_at (far_key eps) vs (3 * i + 1) nan R.near (omega arith);
        z = none_at (far_key eps) vs (3 * i + 2) nan R.near (omega arith);
      })

  pub weld_room : (nv < 268435456) × (3 * nv ≤ length vs) × (14 * nv ≤ lent)
  weld_room = let a = R.lists.few_vertices in let b = R.room in (omega arith, omega arith, omega arith)

  -- ---- what the filter asks

  module _ (m₁ : List ℕ) (long₁ : length m₁ ≡ lent) (r : ℕ) (W : Welds vs eps nv m₁ r) where
    abbrev pub welds : Welded
    welds = weld (cells eps) (vertex_of vs) nv

    numbers : Numbers nv welds
    numbers = weld_numbers (cells eps) (lawful eps) (vertex_of vs) nv

    kept_long : length welds.kept ≡ r
    kept_long = ap length (sym W.kept) ∙ view_length m₁ (9 * nv) r (let a = R.room in let b = W.few in omega arith)

    abbrev pub at : WeldedAt
    at = record { kept = 9 * nv; count = r; numbers = 10 * nv }

    kept_low : (k : ℕ) → k < r → get_or m₁ (9 * nv + k) 0 < nv
    kept_low k h = rw (sym (view_at m₁ (9 * nv) r k h), W.kept) (numbers.low k (let e = kept_long in omega arith))

    pub numbered : CornersNumbered at vs fs (14 * nv) nf m₁
    unfolding bad_index
    numbered =
        let a = R.room in
        let b = W.few in
        let c = R.lists.few_vertices in
        record {
          kept_in = omega arith;
          numbers_in = omega arith;
          room = omega arith;
          facets = let w = R.lists.whole_facets in omega arith;
          small = R.lists.few_facets;
          few = omega arith;
          corner = λ j h. ltb-true (get_or fs j 0) nv (not-false (ltb (get_or fs j 0) nv) (none_at (λ k. not (ltb k nv)) fs j 0 R.lists.below h));
          new = λ i h. rw (sym (view_at m₁ (10 * nv) nv i h), W.old_to_new) (let l = numbers.number i h in let e = kept_long in omega arith);
          old = λ k h. coordinates_in (get_or m₁ (9 * nv + k) 0) (kept_low k h);
        }

    abbrev P : List Point
    P = points_in_room at vs m₁

    abbrev F : List (Triangle ℕ)
    F = facets_in_room at vs fs m₁

    -- ---- what the last step asks

    module _ (m₂ : List ℕ) (p : ℕ) (Q : Filtered eps P F (14 * nv) nf p m₁ m₂) where
      passed_long : length (passed eps P F nf) ≡ p
      passed_long = ap length (sym Q.numbers) ∙ view_length m₂ (14 * nv + 10 * nf) p (let a = R.room in let b = Q.few in let c = Q.long in omega arith)

      corner_low : (l labels : List ℕ) → labels ≡ flat (map (facet_at F) l) → ((i : ℕ) → i < length l → get_or l i 0 < nf) → (j : ℕ) → j < 3 * length l → get_or labels j 0 < r
      corner_low l labels e low j h =
          let i_in : j / 3 < length l = omega arith in
          let x_in : j % 3 < 3 = omega arith in
          let z : j ≡ j / 3 * 3 + j % 3 = omega arith in
          subst (λ (x : ℕ). get_or labels x 0 < r) (sym z)
          (rw (label_at F l labels e (j / 3) (j % 3) i_in x_in) (corner (facet_at F (get_or l (j / 3) 0))
          (facet_below at vs fs (14 * nv) nf m₁ numbered (get_or l (j / 3) 0) (low (j / 3) i_in)) (j % 3) x_in))
        where
          corner : (t : Triangle ℕ) → Below r t → (x : ℕ) → x < 3 → get_or (vertices t) x 0 < r
          corner t b zero h = b.a
          corner t b (suc zero) h = b.b
          corner t b (suc (suc zero)) h = b.c
          corner t b (suc (suc (suc x))) h = absurd (omega arith)

      pub last_room : Lent (9 * nv) r (14 * nv + 11 * nf) p (14 * nv + 14 * nf) m₂
      last_room =
          let a = R.room in
          let b = W.few in
          let c = R.lists.few_vertices in
          let d = Q.few in
          let e = R.lists.few_facets in
          let f = Q.long in
          record {
            few = omega arith;
            small = omega arith;
            kept_in = omega arith;
            facets_in = omega arith;
            all_in = omega arith;
            corner = λ j h.
                rw (sym (view_at m₂ (14 * nv + 11 * nf) (3 * p) j h))
                (corner_low (passed eps P F nf) (view m₂ (14 * nv + 11 * nf) (3 * p)) Q.corners (passed_low eps P F nf) j (let l = passed_long in omega arith));
          }

      -- ---- and the mesh that it leaves

      source : Source (vertex_of vs) eps P F nv (9 * nv) r (14 * nv + 11 * nf) p m₂
      source =
          record {
            long = length-map (view m₁ (9 * nv) r) (vertex_of vs) ∙ view_long;
            pointed = λ u h. let b = W.few in record {
              is =
                  at_map (vertex_of vs) (view m₁ (9 * nv) r) u 0 origin (let e = view_long in omega arith) ∙ ap (vertex_of vs)
                  (view_at m₁ (9 * nv) r u h ∙ sym (Q.rest (9 * nv + u) (omega arith)));
              low = rw (Q.rest (9 * nv + u) (omega arith)) (kept_low u h);
            };
            count = ap (λ (x : ℕ). length (passed eps P F x)) (facets_long at vs fs (14 * nv) nf m₁ numbered) ∙ passed_long;
            corners = Q.corners ∙ ap (λ (x : ℕ). flat (map (facet_at F) (passed eps P F x))) (sym (facets_long at vs fs (14 * nv) nf m₁ numbered));
          }
        where
          view_long : length (view m₁ (9 * nv) r) ≡ r
          view_long = view_length m₁ (9 * nv) r (let a = R.room in let b = W.few in omega arith)

      -- the welded mesh in the room is the one defined
      result_is : compacted eps 2 P F ≡ clean_result vs fs q
      unfolding clean_result cleaned_mesh welded_mesh
      result_is = λ i.
          compacted eps 2 (map (vertex_of vs) ((W.kept ∙ again.0) i)) (map (mapped (λ v. get_or ((W.old_to_new ∙ again.1) i) v 0)) (threes fs))
        where
          again : (welds.kept ≡ (weld (cells eps) (vertex (points_of vs)) (length (points_of vs))).kept) ×
              (welds.old_to_new ≡ (weld (cells eps) (vertex (points_of vs)) (length (points_of vs))).old_to_new)
          again =
              let e = sym (length_points_of vs) in
              (ap (λ (n : ℕ). (weld (cells eps) (vertex_of vs) n).kept) e, ap (λ (n : ℕ). (weld (cells eps) (vertex_of vs) n).old_to_new) e)

      pub staged : (s : Staged) (m₃ : List ℕ) → MeshCompacted (9 * nv) r (14 * nv + 11 * nf) p 2 s m₂ m₃ → Staging vs (clean_result vs fs q) s m₃
      staged s m₃ C =
          record {
            vertices_in = C.vertices_in;
            numbers_in = C.numbers_in;
            few = C.few;
            small = C.small;
            delivered = subst (λ (mesh : Mesh). StagedMesh (vertex_of vs) nv mesh s m₃) result_is (C.mesh (vertex_of vs) eps P F nv source);
          }
