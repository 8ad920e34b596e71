-- The facets kept, from the facets that passed; and the rule for them: a facet is kept exactly if it passed, and m facets or more that passed are joined to it. Assumes nothing.
use Prim.Native.Nat.{ℕ, zero, suc, ◌+◌, ◌<◌}
use native.Mathlib.Omega.{arith}
use mathlib.Core.Path.{◌≡◌, refl, sym, ap, subst, ◌∙◌}
use mathlib.Core.Bool.{Bool, true, false, cond, not, ◌&&◌}
use mathlib.Core.List.{List, [], ◌∷◌, ◌++◌, Memᴰ}
use Rattle.std.specs.Prelude.{Option, None, Some, is_none}
use Rattle.std.specs.Option.{option_or}
use lib.Dec.{T, ltb, leb}
use lib.ListN.{length, get_or}
use borrow.Author.Tests.{ltb-true, ltb-false, lt-leb, le-leb}
use lib.Ieee.{Float}
use Rattle.lists.specs.Lists.{has, keep, count, up_from, up_to, Decides}
use Rattle.lists.proofs.Counts.{keep_append, keep_same}
use Rattle.lists.proofs.Members.{some_of, of_some, has_of, of_has, keep_of, of_keep, get_d_mem}
use Rattle.lists.proofs.Places.{of_up, up_of}
use Rattle.lists.proofs.Sequences.{up_more}
use Rattle.geometry.specs.declared.point.Point.{Point}
use Rattle.geometry.specs.Triangles.{Triangle, vertices}
use Rattle.components.specs.Joined.{Among, ManyJoined, Once}
use Rattle.components.specs.Components.{components, component_of}
use Rattle.components.proofs.Once.{once_keep, once_up}
use Rattle.components.proofs.Many.{component_many}
use Rattle.mesh_filter.specs.Filters.{Reason, alone, facet_at, filtered, passes, passed_next, passed}
use Rattle.mesh_compact.specs.Status.{share_vertex, all_passed, is_alone, status, kept_facets, Rule}

-- ---- sharing a vertex goes both ways

pub shares_back : (facets : List (Triangle ℕ)) (i j : ℕ) → T (share_vertex facets i j) → T (share_vertex facets j i)
unfolding share_vertex
shares_back facets i j t =
    let r = of_some (has (vertices (facet_at facets i))) (vertices (facet_at facets j)) t in
    some_of (has (vertices (facet_at facets j))) (of_has (vertices (facet_at facets i)) r.0 r.2) (has_of r.1)

-- ---- lists

keep_both : {A : Type 0} (p q : A → Bool) (l : List A) → keep (λ x. p x && q x) l ≡ keep q (keep p l)
keep_both p q [] = refl
keep_both {A} p q (x ∷ l) = go (p x) (keep_both p q l)
  where
    go : (a : Bool) → keep (λ y. p y && q y) l ≡ keep q (keep p l) → cond (a && q x) (x ∷ keep (λ y. p y && q y) l) (keep (λ y. p y && q y) l) ≡ keep q
        (cond a (x ∷ keep p l) (keep p l))
    go true e = ap (λ (s : List A). cond (q x) (x ∷ s) s) e
    go false e = e

-- ---- what the three filters and the components say together

told : (o : Option Reason) (a : Bool) → is_none (option_or o (cond a (Some alone) None)) ≡ (is_none o && not a)
told None true = refl
told None false = refl
told (Some r) a = refl

and_left : (a b : Bool) → T (a && b) → T a
and_left true b t = tt
and_left false b t = t

and_right : (a b : Bool) → T (a && b) → T b
and_right true b t = t
and_right false b t = absurd t

and_of : (a b : Bool) → T a → T b → T (a && b)
and_of true b s t = t
and_of false b s t = s

-- not fewer than m
enough : (c m : ℕ) → not (ltb c m) ≡ leb m c
enough c m = go (ltb c m) refl
  where
    go : (b : Bool) → ltb c m ≡ b → not (ltb c m) ≡ leb m c
    go true e = rw (e, lt-leb m c (ltb-true c m e))
    go false e = rw (e, le-leb m c (ltb-false c m e))

module _ (eps : Float) (points : List Point) (facets : List (Triangle ℕ)) where
  abbrev pub goes : ℕ → Bool
  goes i = passes eps points facets (passed eps points facets i) (facet_at facets i)

  one_more : (b : Bool) (l : List ℕ) (i : ℕ) → cond b (l ++ (i ∷ [])) l ≡ l ++ cond b (i ∷ []) []
  one_more true l i = refl
  one_more false l i = sym (append_nil l)
    where
      append_nil : (l : List ℕ) → l ++ [] ≡ l
      append_nil [] = refl
      append_nil (x ∷ l) = ap (λ (r : List ℕ). x ∷ r) (append_nil l)

  pub passed_keeps : (n : ℕ) → passed eps points facets n ≡ keep goes (up_to n)
  unfolding passed passed_next up_from
  passed_keeps zero = refl
  passed_keeps (suc n) =
      let e : 0 + n ≡ n = omega arith in
      let s : n + 1 ≡ suc n = omega arith in
      one_more (goes n) (passed eps points facets n) n
      ∙ ap (λ (l : List ℕ). l ++ cond (goes n) (n ∷ []) []) (passed_keeps n)
      ∙ sym (keep_append goes (up_to n) (n ∷ []))
      ∙ ap (keep goes) (ap (λ (x : ℕ). up_to n ++ (x ∷ [])) (sym e) ∙ sym (up_more 0 n) ∙ ap up_to s)

  pub once_passed : Once (all_passed eps points facets)
  once_passed = subst Once (sym (passed_keeps (length facets))) (once_keep goes (up_to (length facets)) (once_up 0 (length facets)))

  -- those that passed are facets
  pub passed_low : (n i : ℕ) → i < length (passed eps points facets n) → get_or (passed eps points facets n) i 0 < n
  passed_low n i h =
      let q = get_d_mem (passed eps points facets n) i 0 h in
      let h = (of_up 0 n (of_keep goes (up_to n) (subst (Memᴰ (get_or (passed eps points facets n) i 0)) (passed_keeps n) q)).0).1 in omega arith

  status_kept : (m i : ℕ) → is_none (status eps points facets m i) ≡ (goes i && not (is_alone eps points facets m i))
  unfolding status
  status_kept m i = told (filtered eps points facets (passed eps points facets i) (facet_at facets i)) (is_alone eps points facets m i)

  -- the facets kept are those that passed and are not alone
  pub kept_passed : (m : ℕ) → kept_facets eps points facets m ≡ keep (λ i. not (is_alone eps points facets m i)) (all_passed eps points facets)
  unfolding kept_facets
  kept_passed m =
      keep_same (λ i. is_none (status eps points facets m i)) (λ i. goes i && not (is_alone eps points facets m i)) (up_to (length facets)) (λ i q. status_kept m i)
      ∙ keep_both goes (λ i. not (is_alone eps points facets m i)) (up_to (length facets))
      ∙ ap (keep (λ i. not (is_alone eps points facets m i))) (sym (passed_keeps (length facets)))

  not_alone : (m i : ℕ) → not (is_alone eps points facets m i) ≡ leb m
      (count (has (component_of (components (share_vertex facets) (all_passed eps points facets)) i)) (all_passed eps points facets))
  unfolding is_alone
  not_alone m i = enough (count (has (component_of (components (share_vertex facets) (all_passed eps points facets)) i)) (all_passed eps points facets)) m

  pub large_enough : (m i c : ℕ) → c ≡ count (has (component_of (components (share_vertex facets) (all_passed eps points facets)) i)) (all_passed eps points facets) → leb m c ≡ not
      (is_alone eps points facets m i)
  large_enough m i c e = ap (leb m) e ∙ sym (not_alone m i)

  -- ---- the rule

  pub rule : (m : ℕ) → Rule eps points facets m
  rule m i h =
      record {
        sound = λ t.
            let b = subst T (status_kept m i) t in
            let q = member (and_left (goes i) (not (is_alone eps points facets m i)) b) in
            record { through = q; many = (many q).sound (subst T (not_alone m i) (and_right (goes i) (not (is_alone eps points facets m i)) b)) };
        complete = λ s.
            subst T (sym (status_kept m i))
            (and_of (goes i) (not (is_alone eps points facets m i)) (goes_of s.through) (subst T (sym (not_alone m i)) ((many s.through).complete s.many)));
      }
    where
      member : T (goes i) → Memᴰ i (all_passed eps points facets)
      member t = subst (Memᴰ i) (sym (passed_keeps (length facets))) (keep_of goes (up_of 0 (length facets) (omega arith) (omega arith)) t)

      goes_of : Memᴰ i (all_passed eps points facets) → T (goes i)
      goes_of q = (of_keep goes (up_to (length facets)) (subst (Memᴰ i) (passed_keeps (length facets)) q)).1

      many : Memᴰ i (all_passed eps points facets) → Decides (ManyJoined (Among (share_vertex facets) (all_passed eps points facets)) m i)
          (leb m (count (has (component_of (components (share_vertex facets) (all_passed eps points facets)) i)) (all_passed eps points facets)))
      many q = component_many (share_vertex facets) (shares_back facets) (all_passed eps points facets) once_passed m q
