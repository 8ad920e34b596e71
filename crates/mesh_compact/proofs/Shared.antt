-- The corners of the facets that passed, as labels of the component finder: two facets share a label exactly if they share a vertex, so the sizes that it finds are those of the
-- components defined. Assumes nothing.
use Prim.Native.Nat.{ℕ, zero, suc, ◌+◌, ◌*◌, ◌<◌}
use native.Mathlib.Omega.{arith}
use mathlib.Core.Path.{◌≡◌, refl, sym, ap, subst, ◌∙◌}
use mathlib.Core.Bool.{Bool, true, false, cond}
use mathlib.Core.List.{List, [], ◌∷◌, map, flat_map, Memᴰ}
use lib.ListN.{length, get_or, length-map}
use Rattle.lists.specs.Lists.{has, keep, up_from}
use Rattle.lists.proofs.Members.{some_of, of_some, has_of, of_has, get_d_mem, mem_get_d}
use Rattle.lists.proofs.Sequences.{at_map}
use Rattle.geometry.specs.Triangles.{Triangle, tri, vertices, mapped, flat}
use Rattle.components.specs.Joined.{one}
use Rattle.components.proofs.Numbers.{LabelsLink}
use Rattle.mesh_filter.specs.Filters.{facet_at}
use Rattle.mesh_compact.specs.Status.{share_vertex}

-- ---- flat lists of triangles

pub flat_mapped : {A B : Type 0} (f : A → B) (l : List (Triangle A)) → flat (map (mapped f) l) ≡ map f (flat l)
unfolding flat_map
flat_mapped f [] = refl
flat_mapped {A} {B} f (t ∷ l) = ap (λ (r : List B). f t.a ∷ f t.b ∷ f t.c ∷ r) (flat_mapped f l)

-- corner e of triangle i
pub flat_at : (l : List (Triangle ℕ)) (i e : ℕ) (d : Triangle ℕ) → i < length l → e < 3 → get_or (flat l) (i * 3 + e) 0 ≡ get_or (vertices (get_or l i d)) e 0
unfolding flat_map
flat_at [] i e d h g = absurd (omega arith)
flat_at (t ∷ l) zero zero d h g = refl
flat_at (t ∷ l) zero (suc zero) d h g = refl
flat_at (t ∷ l) zero (suc (suc zero)) d h g = refl
flat_at (t ∷ l) zero (suc (suc (suc e))) d h g = absurd (omega arith)
flat_at (t ∷ l) (suc i) e d h g =
    let z : suc i * 3 + e ≡ suc (suc (suc (i * 3 + e))) = omega arith in
    ap (λ (x : ℕ). get_or (flat (t ∷ l)) x 0) z ∙ flat_at l i e d (omega arith) g

-- those kept place by place are those kept
pub keep_places : {A : Type 0} (p : ℕ → Bool) (q : ℕ → Bool) (f : ℕ → A) (g : ℕ → A) (l : List ℕ) (o : ℕ)
    → ((i : ℕ) → i < length l → (p (o + i) ≡ q (get_or l i 0)) × (f (o + i) ≡ g (get_or l i 0))) → map f (keep p (up_from o (length l))) ≡ map g (keep q l)
unfolding up_from
keep_places p q f g [] o h = refl
keep_places {A} p q f g (x ∷ l) o h =
    go (p o) (q x) at_zero.0 at_zero.1
    (keep_places p q f g l (suc o) (λ i lt. let z : o + suc i ≡ suc o + i = omega arith in subst (λ (j : ℕ). (p j ≡ q (get_or l i 0)) × (f j ≡ g (get_or l i 0))) z
    (h (suc i) (omega arith))))
  where
    zero_up : o + 0 ≡ o
    zero_up = omega arith

    at_zero : (p o ≡ q x) × (f o ≡ g x)
    at_zero = subst (λ (j : ℕ). (p j ≡ q x) × (f j ≡ g x)) zero_up (h 0 (omega arith))

    go : (b c : Bool) → b ≡ c → f o ≡ g x → map f (keep p (up_from (suc o) (length l))) ≡ map g (keep q l)
        → map f (cond b (o ∷ keep p (up_from (suc o) (length l))) (keep p (up_from (suc o) (length l)))) ≡ map g (cond c (x ∷ keep q l) (keep q l))
    go true true e s r = λ i. s i ∷ r i
    go false false e s r = r
    go true false e s r = absurd (let z : ◌≡◌ {A = ℕ} 0 1 = cc in omega arith)
    go false true e s r = absurd (let z : ◌≡◌ {A = ℕ} 0 1 = cc in omega arith)

-- ---- the labels

module _ (facets : List (Triangle ℕ)) (l labels : List ℕ) (e : labels ≡ flat (map (facet_at facets) l)) where
  pub label_at : (a x : ℕ) → a < length l → x < 3 → get_or labels (a * 3 + x) 0 ≡ get_or (vertices (facet_at facets (get_or l a 0))) x 0
  label_at a x h g =
      ap (λ (r : List ℕ). get_or r (a * 3 + x) 0) e
      ∙ flat_at (map (facet_at facets) l) a x (tri 0 0 0) (omega (arith, length-map l (facet_at facets))) g
      ∙ ap (λ (t : Triangle ℕ). get_or (vertices t) x 0) (at_map (facet_at facets) l a 0 (tri 0 0 0) h)

  corner_in : (a x : ℕ) → x < 3 → Memᴰ (get_or (vertices (facet_at facets (get_or l a 0))) x 0) (vertices (facet_at facets (get_or l a 0)))
  corner_in a x g = get_d_mem (vertices (facet_at facets (get_or l a 0))) x 0 g

  pub labels_link : LabelsLink labels 3 (share_vertex facets) l
  unfolding share_vertex
  labels_link =
      record {
        shared = λ a b d s.
            let q = sym (label_at a s.a s.i_in s.a_in) ∙ s.label ∙ label_at b s.b s.j_in s.b_in in
            some_of (has (vertices (facet_at facets (get_or l a 0)))) (corner_in b s.b s.b_in)
            (has_of (subst (λ (x : ℕ). Memᴰ x (vertices (facet_at facets (get_or l a 0)))) q (corner_in a s.a s.a_in)));
        linked = λ a b ha hb t.
            let r = of_some (has (vertices (facet_at facets (get_or l a 0)))) (vertices (facet_at facets (get_or l b 0))) t in
            let x = mem_get_d 0 (of_has (vertices (facet_at facets (get_or l a 0))) r.0 r.2) in
            let y = mem_get_d 0 r.1 in
            one (record {
              a = x.0;
              b = y.0;
              i_in = ha;
              j_in = hb;
              a_in = x.1;
              b_in = y.1;
              label = label_at a x.0 ha x.1 ∙ x.2 ∙ sym y.2 ∙ sym (label_at b y.0 hb y.1);
            });
      }
