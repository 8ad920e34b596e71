-- Laws of rings. Assumes nothing.
--   ring_told          `is_ring` tells whether edges are a ring
--   every_of, every_same, keep_keep   laws of `every` and `keep`
--   ring_degrees       a component is a ring by the degrees of its vertices among all open edges, since all edges at a vertex are in one component
use Prim.Native.Nat.{ℕ, ◌<◌}
use native.Mathlib.Omega.{arith}
use mathlib.Core.Path.{◌≡◌, refl, sym, ap, ◌∙◌, subst}
use mathlib.Core.Bool.{Bool, true, false, not, cond, ◌&&◌, ◌||◌}
use mathlib.Core.List.Memᴰ
use mathlib.Core.List.{List, [], ◌∷◌, map, flat_map, Memᴰ}
use mathlib.Core.Logic.{◌⊎◌, inl, inr}
use lib.Dec.{T, T_not, eqb, eqb→eq}
use lib.ListN.{length}
use borrow.Author.Tests.{eqb-true}
use Rattle.lists.specs.Lists.{every, keep, count, Decides}
use Rattle.lists.proofs.Bools.{is_false}
use Rattle.lists.proofs.Counts.{count_nil, count_places}
use Rattle.lists.proofs.Members.{and_parts, and_of, every_at, keep_of, mem_get_d}
use Rattle.lists.proofs.Multiplicity.{more, count_cons, keep_yes, keep_no}
use Rattle.lists.proofs.Places.{length_up}
use Rattle.components.specs.Joined.{one, via}
use Rattle.edges.specs.Edges.{pair_words}
use Rattle.boundary_groups.specs.Groups.{is_end, all_places, nth_edge, together, groups, is_ring, Ring}
use Rattle.boundary_groups.proofs.Together.{eqb_T, first_end, second_end, share_of, place_in, in_place, at_place, together_told, Group, of_groups, group_told}

module _ {A : Type 0} where
  pub every_of : (p : A → Bool) (l : List A) → ((x : A) → Memᴰ x l → T (p x)) → T (every p l)
  every_of p [] f = tt
  every_of p (x ∷ l) f = and_of (p x) (every p l) (f x (Memᴰ.head refl)) (every_of p l (λ y m. f y (Memᴰ.tail m)))

  pub every_same : (p q : A → Bool) (l : List A) → ((x : A) → Memᴰ x l → p x ≡ q x) → every p l ≡ every q l
  every_same p q [] f = refl
  every_same p q (x ∷ l) f = λ t. f x (Memᴰ.head refl) t && every_same p q l (λ y m. f y (Memᴰ.tail m)) t

abbrev pub two_ends_lem : ℕ × ℕ → Bool
two_ends_lem e = not (eqb e.0 e.1)

abbrev pub ends_twice : (ℕ → ℕ) → ℕ × ℕ → Bool
ends_twice degree e = eqb (degree e.0) 2 && eqb (degree e.1) 2

not_T : (b : Bool) → (T b → ⊥) → T (not b)
not_T true f = absurd (f tt)
not_T false f = tt

pub ring_told : (c : List (ℕ × ℕ)) → Decides (Ring c) (is_ring c)
unfolding is_ring
ring_told c = record { sound = sound; complete = complete }
  where
    degree : ℕ → ℕ
    degree v = count (is_end v) c

    test : ℕ × ℕ → Bool
    test e = not (eqb e.0 e.1) && (eqb (count (is_end e.0) c) 2 && eqb (count (is_end e.1) c) 2)

    sound : T (every test c) → Ring c
    sound t =
        record {
          two_ends = λ e m q. T_not (eqb e.0 e.1) (and_parts (two_ends_lem e) (ends_twice degree e) (every_at test m t)).0 (eqb_T e.0 e.1 q);
          twice = λ v e m w. go v e (and_parts (two_ends_lem e) (ends_twice degree e) (every_at test m t)).1 w;
        }
      where
        go : (v : ℕ) (e : ℕ × ℕ) → T (ends_twice degree e) → (e.0 ≡ v) ⊎ (e.1 ≡ v) → degree v ≡ 2
        go v e h (inl q) =
            sym (ap degree q) ∙ eqb→eq (degree e.0) 2 (and_parts (eqb (degree e.0) 2) (eqb (degree e.1) 2) h).0
        go v e h (inr q) =
            sym (ap degree q) ∙ eqb→eq (degree e.1) 2 (and_parts (eqb (degree e.0) 2) (eqb (degree e.1) 2) h).1

    complete : Ring c → T (every test c)
    complete r =
        every_of test c (λ e m.
        and_of (two_ends_lem e) (ends_twice degree e) (not_T (eqb e.0 e.1) (λ t. r.two_ends e m (eqb→eq e.0 e.1 t)))
        (and_of (eqb (degree e.0) 2) (eqb (degree e.1) 2) (eqb_T (degree e.0) 2 (r.twice e.0 e m (inl refl))) (eqb_T (degree e.1) 2 (r.twice e.1 e m (inr refl)))))

-- ---- a ring by the degrees of its vertices

pub keep_keep : {A : Type 0} (p q : A → Bool) (l : List A) → ((x : A) → Memᴰ x l → T (p x) → T (q x)) → keep p (keep q l) ≡ keep p l
keep_keep p q [] f = refl
keep_keep {A = A} p q (x ∷ l) f = go (p x) (q x) refl refl (f x (Memᴰ.head refl)) (keep_keep p q l (λ y m. f y (Memᴰ.tail m)))
  where
    go : (a b : Bool) → p x ≡ a → q x ≡ b → (T (p x) → T (q x)) → keep p (keep q l) ≡ keep p l → keep p (cond b (x ∷ keep q l) (keep q l)) ≡ cond a (x ∷ keep p l) (keep p l)
    go true true e d g h = keep_yes p x (keep q l) e ∙ ap (λ (z : List A). x ∷ z) h
    go true false e d g h = absurd (subst T d (g (subst T (sym e) tt)))
    go false true e d g h = keep_no p x (keep q l) e ∙ h
    go false false e d g h = h

every_none : {A : Type 0} (p q : A → Bool) (l : List A) → every p l ≡ false → every (λ x. p x && q x) l ≡ false
every_none p q l e = is_false (every (λ x. p x && q x) l) (λ t.
    subst T e (every_of p l (λ x m. (and_parts (p x) (q x) (every_at (λ x. p x && q x) m t)).0)))

-- where an edge with the end v has another one besides, v is an end as often as it is of edges
ends_edges : (v : ℕ) (es : List (ℕ × ℕ)) → ((e : ℕ × ℕ) → Memᴰ e es → T (is_end v e) → T (two_ends_lem e)) → count (is_end v) es ≡ count (eqb v) (pair_words es)
unfolding pair_words flat_map
ends_edges v [] f = count_nil (is_end v) ∙ sym (count_nil (eqb v))
ends_edges v (e ∷ es) f =
    count_cons (is_end v) e es
    ∙ step (eqb v e.0) (eqb v e.1) refl refl
    ∙ ap (λ (n : ℕ). more (eqb v e.0) (more (eqb v e.1) n)) (ends_edges v es (λ d m. f d (Memᴰ.tail m)))
    ∙ sym (count_cons (eqb v) e.0 (e.1 ∷ pair_words es) ∙ ap (more (eqb v e.0)) (count_cons (eqb v) e.1 (pair_words es)))
  where
    step : (a b : Bool) → eqb v e.0 ≡ a → eqb v e.1 ≡ b → more (a || b) (count (is_end v) es) ≡ more a (more b (count (is_end v) es))
    step true true p q =
        let x = eqb-true v e.0 p in
        let y = eqb-true v e.1 q in
        absurd (T_not (eqb e.0 e.1) (f e (Memᴰ.head refl) (first_end v e x)) (eqb_T e.0 e.1 (sym x ∙ y)))
    step true false p q = refl
    step false true p q = refl
    step false false p q = refl

module _ (es : List (ℕ × ℕ)) (g : List ℕ) (m : Memᴰ g (groups es)) where
  abbrev group : List (ℕ × ℕ)
  group = map (nth_edge es) g

  G : Group es g
  G = of_groups es g m

  -- all edges at a vertex are in one component
  at_vertex : (v i j : ℕ) → Memᴰ i g → j < length es → T (is_end v (nth_edge es i)) → T (is_end v (nth_edge es j)) → T (together es G.least j)
  at_vertex v i j k h a b =
      let t = group_told es g G i k in
      (together_told es G.least j G.least_in).complete
      (via t.1 (one (record { left_in = place_in es t.0; right_in = place_in es h; linked = share_of v (nth_edge es i) (nth_edge es j) a b })))

  ends_group : (v i : ℕ) → Memᴰ i g → T (is_end v (nth_edge es i)) → count (is_end v) group ≡ count (is_end v) es
  ends_group v i k a =
      count_map (is_end v) (nth_edge es) g
      ∙ ap (count (λ j. is_end v (nth_edge es j))) G.is
      ∙ ap length (keep_keep (λ j. is_end v (nth_edge es j)) (together es G.least) (all_places es) (λ j n b. at_vertex v i j k (in_place es n) a b))
      ∙ count_places (λ j. is_end v (nth_edge es j)) (is_end v) 0 (0, 0) (all_places es) es (length_up 0 (length es))
      (λ j h. ap (λ (x : ℕ). is_end v (nth_edge es x)) (at_place es j (omega (arith, length_up 0 (length es)))))
    where
      count_map : {A B : Type 0} (p : B → Bool) (f : A → B) (l : List A) → count p (map f l) ≡ count (λ x. p (f x)) l
      count_map p f [] = count_nil p ∙ sym (count_nil (λ x. p (f x)))
      count_map p f (x ∷ l) = count_cons p (f x) (map f l) ∙ ap (more (p (f x))) (count_map p f l) ∙ sym (count_cons (λ x. p (f x)) x l)

  abbrev pub degree : ℕ → ℕ
  degree v = count (eqb v) (pair_words es)

  degrees : T (every two_ends_lem group) → (v : ℕ) (e : ℕ × ℕ) → Memᴰ e group → T (is_end v e) → count (is_end v) group ≡ degree v
  degrees t v e k a =
      let q = Memᴰ.of_map (nth_edge es) g k in
      let b = subst (λ (d : ℕ × ℕ). T (is_end v d)) (sym q.2) a in
      ends_group v q.0 q.1 b
      ∙ ends_edges v es (λ d n u.
      let p = mem_get_d (0, 0) n in
      let w = subst (λ (d : ℕ × ℕ). T (is_end v d)) (sym p.2) u in
      let j_in = subst (λ (l : List ℕ). Memᴰ p.0 l) (sym G.is) (keep_of (together es G.least) (place_in es p.1) (at_vertex v q.0 p.0 q.1 p.1 b w)) in
      subst (λ (d : ℕ × ℕ). T (two_ends_lem d)) p.2 (every_at two_ends_lem (Memᴰ.map (nth_edge es) j_in) t))

  pub ring_degrees : is_ring group ≡ every (λ e. two_ends_lem e && ends_twice degree e) group
  unfolding is_ring
  ring_degrees = go (every two_ends_lem group) refl
    where
      go : (b : Bool) → every two_ends_lem group ≡ b
          → every (λ e. two_ends_lem e && ends_twice (λ v. count (is_end v) group) e) group ≡ every (λ e. two_ends_lem e && ends_twice degree e) group
      go true t =
          every_same (λ e. two_ends_lem e && ends_twice (λ v. count (is_end v) group) e) (λ e. two_ends_lem e && ends_twice degree e) group (λ e k.
          let d = degrees (subst T (sym t) tt) in
          (λ x. two_ends_lem e && (eqb (d e.0 e k (first_end e.0 e refl) x) 2 && eqb (d e.1 e k (second_end e.1 e refl) x) 2)))
      go false t = every_none two_ends_lem (ends_twice (λ v. count (is_end v) group)) group t ∙ sym (every_none two_ends_lem (ends_twice degree) group t)
