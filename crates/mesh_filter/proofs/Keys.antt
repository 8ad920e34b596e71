-- The key of three corners: two facets have the same three corners, in any order, exactly if their keys are equal. Assumes nothing.
use Prim.Native.Nat.{ℕ}
use native.Mathlib.Omega.{arith}
use mathlib.Core.Path.{◌≡◌, sym, ap, ◌∙◌}
use mathlib.Core.Bool.{Bool, true, ◌&&◌}
use mathlib.Core.List.{List, map}
use lib.Dec.{eqb}
use lib.ListN.{get_or, get_or-map}
use borrow.Author.Tests.{eqb-true, eq-eqb}
use Rattle.lists.proofs.Bools.{and_left, and_right, both_ways}
use Rattle.words.specs.Packed.{triple}
use Rattle.words.proofs.Packed.{triple_injective}
use Rattle.geometry.specs.declared.numbers.MeshVertexId.{MeshVertexId}
use Rattle.geometry.specs.Triangles.{Triangle, tri, sorted_vertices}
use Rattle.geometry.proofs.Triangles.{sorted_three}
use Rattle.mesh_filter.specs.Filters.{same_corners}
use Rattle.mesh_filter.specs.Room.{in_order, corners_key, Below}

-- ---- equal triangles in order, equal keys

key_eq : (t u : Triangle ℕ) → (in_order t).a ≡ (in_order u).a → (in_order t).b ≡ (in_order u).b → (in_order t).c ≡ (in_order u).c → corners_key t ≡ corners_key u
unfolding corners_key
key_eq t u p q r = λ i. triple (p i) (q i) (r i)

pub ascending_below : (k : ℕ) (t : Triangle ℕ) → Below k t → Below k (in_order t)
ascending_below k t h = let p = h.a in let q = h.b in let r = h.c in record { a = omega arith; b = omega arith; c = omega arith }

key_parts : (t u : Triangle ℕ) → Below 2097152 t → Below 2097152 u → corners_key t ≡ corners_key u
    → ((in_order t).a ≡ (in_order u).a) × (((in_order t).b ≡ (in_order u).b) × ((in_order t).c ≡ (in_order u).c))
unfolding corners_key
key_parts t u h k e =
    let p = ascending_below 2097152 t h in
    let q = ascending_below 2097152 u k in
    triple_injective (in_order t).a (in_order t).b (in_order t).c (in_order u).a (in_order u).b (in_order u).c p.b p.c q.b q.c e

-- ---- the same three corners, sorted

sorted_parts : (t : Triangle ℕ) →
    (get_or (sorted_vertices t) 0 0 ≡ (in_order t).a) × ((get_or (sorted_vertices t) 1 0 ≡ (in_order t).b) × (get_or (sorted_vertices t) 2 0 ≡ (in_order t).c))
sorted_parts t =
    let e = sym (sorted_three t.a t.b t.c) in
    (ap (λ (l : List ℕ). get_or l 0 0) e, (ap (λ (l : List ℕ). get_or l 1 0) e, ap (λ (l : List ℕ). get_or l 2 0) e))

abbrev alike : Triangle ℕ → Triangle ℕ → Bool
alike t u = eqb t.a u.a && (eqb t.b u.b && eqb t.c u.c)

sorted_alike : (t u : Triangle ℕ) → same_corners t u ≡ alike (in_order t) (in_order u)
unfolding same_corners
sorted_alike t u =
    let p = sorted_parts t in
    let q = sorted_parts u in
    λ i. eqb (p.0 i) (q.0 i) && (eqb (p.1.0 i) (q.1.0 i) && eqb (p.1.1 i) (q.1.1 i))

alike_parts : (t u : Triangle ℕ) → alike t u ≡ true → (t.a ≡ u.a) × ((t.b ≡ u.b) × (t.c ≡ u.c))
alike_parts t u e =
    let f = and_right (eqb t.a u.a) (eqb t.b u.b && eqb t.c u.c) e in (
      eqb-true t.a u.a (and_left (eqb t.a u.a) (eqb t.b u.b && eqb t.c u.c) e),
      (eqb-true t.b u.b (and_left (eqb t.b u.b) (eqb t.c u.c) f), eqb-true t.c u.c (and_right (eqb t.b u.b) (eqb t.c u.c) f)),
    )

parts_alike : (t u : Triangle ℕ) → t.a ≡ u.a → t.b ≡ u.b → t.c ≡ u.c → alike t u ≡ true
parts_alike t u x y z = rw (eq-eqb t.a u.a x, eq-eqb t.b u.b y, eq-eqb t.c u.c z)

pub same_key_lem : (t u : Triangle ℕ) → Below 2097152 t → Below 2097152 u → same_corners t u ≡ eqb (corners_key u) (corners_key t)
same_key_lem t u h k =
    sorted_alike t u
    ∙ both_ways (alike (in_order t) (in_order u)) (eqb (corners_key u) (corners_key t))
    (λ e. let p = alike_parts (in_order t) (in_order u) e in eq-eqb (corners_key u) (corners_key t) (sym (key_eq t u p.0 p.1.0 p.1.1)))
    (λ e. let p = key_parts t u h k (sym (eqb-true (corners_key u) (corners_key t) e)) in parts_alike (in_order t) (in_order u) p.0 p.1.0 p.1.1)

-- ---- what `corners_key` packs

module _ (r : List MeshVertexId) (t : Triangle ℕ) (e : map (λ v. v.0) r ≡ sorted_vertices t) where
  abbrev none : MeshVertexId
  none = record { 0 = 0 }

  abbrev at : ℕ → ℕ
  at k = (get_or r k none).0

  pub sorted_is : tri (at 0) (at 1) (at 2) ≡ in_order t
  sorted_is =
      let q = e ∙ sym (sorted_three t.a t.b t.c) in
      let w : (k : ℕ) → at k ≡ get_or (map (λ (v : MeshVertexId). v.0) r) k 0 = λ k. sym (get_or-map (λ (v : MeshVertexId). v.0) r k none) in
      (λ i. tri (w 0 i) (w 1 i) (w 2 i)) ∙ (λ i. tri (get_or (q i) 0 0) (get_or (q i) 1 0) (get_or (q i) 2 0))
