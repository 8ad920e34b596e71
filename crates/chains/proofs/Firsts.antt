-- Laws of links to the first and the last number with a property (specs/Links.antt).
use Prim.Native.Nat.{ℕ, zero, suc, ◌+◌, ◌-◌, ◌≤◌, ◌<◌, zero-le}
use native.Mathlib.Omega.{arith}
use native.Mathlib.Decide.{ℕ_discrete}
use mathlib.Core.Path.{◌≡◌, refl, sym, ap, ◌∙◌, subst}
use mathlib.Core.Bool.{Bool, true, false, cond}
use mathlib.Core.List.{List, [], ◌∷◌, map}
use lib.Dec.{T, eqb}
use lib.ListN.{get_or, length, length-map}
use borrow.Author.Tests.{eq-eqb, ne_eqb}
use Rattle.std.specs.Prelude.{Option, Some, None}
use Rattle.lists.specs.Lists.{first, place, up_from, up_to}
use Rattle.lists.proofs.Bools.{is_true}
use Rattle.lists.proofs.Places.{at_up, length_up}
use Rattle.lists.proofs.Members.{place_before, place_at, place_le}
use Rattle.chains.specs.Links.{link_of, id_in, link_to, Absent, FirstFound, First, Last}

-- ---- one number more

module _ (P : ℕ → Type 0) (i n v : ℕ) where
  absent_more : (P n → ⊥) → Absent P i n → Absent P i (n + 1)
  absent_more lacks a k ik kn has = go (ℕ_discrete k n)
    where
      go : Dec (k ≡ n) → ⊥
      go (yes e) = lacks (subst P e has)
      go (no d) = a k ik (omega arith) has

  found_more : (k : ℕ) → FirstFound P i n k → FirstFound P i (n + 1) k
  found_more k f = let w = f.within in record { from = f.from; within = omega arith; has = f.has; before = f.before }

  -- one without the property changes no link
  pub first_other : (P n → ⊥) → First P i n v → First P i (n + 1) v
  first_other lacks f = record { none = λ e. absent_more lacks (f.none e); some = λ k e. found_more k (f.some k e) }

  -- nor does any change a link that there is
  pub first_kept : (v ≡ 0 → ⊥) → First P i n v → First P i (n + 1) v
  first_kept nz f = record { none = λ e. absurd (nz e); some = λ k e. found_more k (f.some k e) }

  pub last_other : (P n → ⊥) → Last P n v → Last P (n + 1) v
  last_other lacks f = record {
    none = λ e k ik kn has. absent_none e k ik kn has;
    some = λ k e. let g = f.some k e in let w = g.within in record { within = omega arith; has = g.has; after = λ j kj jn has. after k e j kj jn has (ℕ_discrete j n) };
  }
    where
      absent_none : v ≡ 0 → (k : ℕ) → 0 ≤ k → k < n + 1 → P k → ⊥
      absent_none e k ik kn has = go (ℕ_discrete k n)
        where
          go : Dec (k ≡ n) → ⊥
          go (yes d) = lacks (subst P d has)
          go (no d) = f.none e k ik (omega arith) has

      after : (k : ℕ) → v ≡ suc k → (j : ℕ) → suc k ≤ j → j < n + 1 → P j → Dec (j ≡ n) → ⊥
      after k e j kj jn has (yes d) = lacks (subst P d has)
      after k e j kj jn has (no d) = (f.some k e).after j kj (omega arith) has

-- where there is none, a new one with the property is the first, and it is the last in any case
pub first_new : (P : ℕ → Type 0) (i n : ℕ) → i ≤ n → P n → Absent P i n → First P i (n + 1) (n + 1)
first_new P i n le has a = record {
  none = λ e. absurd (omega arith);
  some = λ k e. let d : k ≡ n = omega arith in record { from = omega arith; within = omega arith; has = subst P (sym d) has; before = λ j ij jk h. a j ij (omega arith) h };
}

pub last_new : (P : ℕ → Type 0) (n : ℕ) → P n → Last P (n + 1) (n + 1)
last_new P n has = record {
  none = λ e. absurd (omega arith);
  some = λ k e. let d : k ≡ n = omega arith in record { within = omega arith; has = subst P (sym d) has; after = λ j kj jn h. omega arith };
}

pub first_empty : (P : ℕ → Type 0) (i n : ℕ) → n ≤ i → First P i n 0
first_empty P i n h = record { none = λ e k ik kn has. omega arith; some = λ k e. absurd (omega arith) }

pub last_empty : (P : ℕ → Type 0) → Last P 0 0
last_empty P = record { none = λ e k ik kn has. omega arith; some = λ k e. absurd (omega arith) }

-- ---- the same for a property that agrees

pub first_cong : (P Q : ℕ → Type 0) (i n v : ℕ) → ((k : ℕ) → k < n → P k → Q k) → ((k : ℕ) → k < n → Q k → P k) → First P i n v → First Q i n v
first_cong P Q i n v to from f = record {
  none = λ e k ik kn q. f.none e k ik kn (from k kn q);
  some = λ k e. let g = f.some k e in let w = g.within in
      record { from = g.from; within = w; has = to k w g.has; before = λ j ij jk q. g.before j ij jk (from j (omega arith) q) };
}

pub last_cong : (P Q : ℕ → Type 0) (n v : ℕ) → ((k : ℕ) → k < n → P k → Q k) → ((k : ℕ) → k < n → Q k → P k) → Last P n v → Last Q n v
last_cong P Q n v to from f = record {
  none = λ e k ik kn q. f.none e k ik kn (from k kn q);
  some = λ k e. let g = f.some k e in let w = g.within in record { within = w; has = to k w g.has; after = λ j kj jn q. g.after j kj jn (from j jn q) };
}

-- ---- only one link is to the first

pub first_unique : (P : ℕ → Type 0) (i n v w : ℕ) → First P i n v → First P i n w → v ≡ w
first_unique P i n v w f g = go (ℕ_discrete v 0) (ℕ_discrete w 0)
  where
    both : (j k : ℕ) → FirstFound P i n j → FirstFound P i n k → j < k → ⊥
    both j k s t h = t.before j s.from h s.has

    go : Dec (v ≡ 0) → Dec (w ≡ 0) → v ≡ w
    go (yes a) (yes b) = a ∙ sym b
    go (yes a) (no b) = let t = g.some (w - 1) (omega arith) in absurd (f.none a (w - 1) t.from t.within t.has)
    go (no a) (yes b) = let s = f.some (v - 1) (omega arith) in absurd (g.none b (v - 1) s.from s.within s.has)
    go (no a) (no b) =
        let s = f.some (v - 1) (omega arith) in
        let t = g.some (w - 1) (omega arith) in
        let x : v - 1 < w - 1 → ⊥ = both (v - 1) (w - 1) s t in
        let y : w - 1 < v - 1 → ⊥ = both (w - 1) (v - 1) t s in
        omega arith

-- `link_to` is such a link
pub link_to_first : {A : Type 0} (p : A → Bool) (d : A) (l : List A) → First (λ k. T (p (get_or l k d))) 0 (length l) (link_to p l)
unfolding link_to
link_to_first p d l = go (ℕ_discrete (place p l) (length l))
  where
    go : Dec (place p l ≡ length l) → First (λ k. T (p (get_or l k d))) 0 (length l) (cond (eqb (place p l) (length l)) 0 (suc (place p l)))
    go (yes e) = rw (eq-eqb (place p l) (length l) e) (record { none = λ z k ik kn has. place_before p d l k (omega arith) has; some = λ k z. absurd (omega arith) })
    go (no f) = rw (ne_eqb (place p l) (length l) f) (record {
      none = λ z. absurd (omega arith);
      some = λ k z. let e : k ≡ place p l = omega arith in rw e (record {
        from = omega arith;
        within = omega (arith, place_le p l);
        has = place_at p d l (omega (arith, place_le p l));
        before = λ j ij jk has. place_before p d l j jk has;
      });
    })

-- and so what is the first is `link_to`, of a list and of the ids below n
pub first_link_to : {A : Type 0} (p : A → Bool) (d : A) (l : List A) (v : ℕ) → First (λ k. T (p (get_or l k d))) 0 (length l) v → v ≡ link_to p l
first_link_to p d l v f = first_unique (λ k. T (p (get_or l k d))) 0 (length l) v (link_to p l) f (link_to_first p d l)

-- the first of l that passes is the first place whose element passes
pub link_to_places : {A : Type 0} (p : A → Bool) (d : A) (l : List A) (t : ℕ → Bool) → ((i : ℕ) → i < length l → t i ≡ p (get_or l i d)) →
    link_to t (up_to (length l)) ≡ link_to p l
link_to_places p d l t same = first_link_to p d l (link_to t (up_to (length l)))
    (first_cong (λ k. T (t (get_or (up_to (length l)) k 0))) (λ k. T (p (get_or l k d))) 0 (length l) _
    (λ k h x. subst T (ap t (at_up 0 (length l) k h ∙ omega arith) ∙ same k h) x)
    (λ k h x. subst T (sym (ap t (at_up 0 (length l) k h ∙ omega arith) ∙ same k h)) x)
    (subst (λ (n : ℕ). First (λ k. T (t (get_or (up_to (length l)) k 0))) 0 n (link_to t (up_to (length l)))) (length_up 0 (length l)) (link_to_first t 0 (up_to (length l)))))

-- the first of the ids below n that passes
pub first_ids : (t : ℕ → Bool) (n v : ℕ) → First (λ k. T (t k)) 0 n v → v ≡ link_to t (up_to n)
first_ids t n v f = first_link_to t 0 (up_to n) v
    (subst (λ (m : ℕ). First (λ k. T (t (get_or (up_to n) k 0))) 0 m v) (sym (length_up 0 n))
    (first_cong (λ k. T (t k)) (λ k. T (t (get_or (up_to n) k 0))) 0 n v
    (λ k h x. subst T (ap t (sym (at_up 0 n k h ∙ omega arith))) x)
    (λ k h x. subst T (ap t (at_up 0 n k h ∙ omega arith)) x) f))

-- what a search answers
module _ {A : Type 0} (t : A → Bool) (d : A) (l : List A) where
  pub link_found : (k : ℕ) → link_to t l ≡ suc k → (k < length l) × (t (get_or l k d) ≡ true)
  link_found k e = let f = (link_to_first t d l).some k e in (f.within, is_true (t (get_or l k d)) f.has)

  pub link_absent : link_to t l ≡ 0 → (k : ℕ) → k < length l → t (get_or l k d) ≡ true → ⊥
  link_absent e k h q = (link_to_first t d l).none e k zero-le h (subst T (sym q) tt)

place_map : {A B : Type 0} (f : A → B) (t : B → Bool) (l : List A) → place t (map f l) ≡ place (λ a. t (f a)) l
unfolding place
place_map f t [] = refl
place_map f t (x ∷ xs) = ap (λ (k : ℕ). cond (t (f x)) 0 (suc k)) (place_map f t xs)

pub link_map : {A B : Type 0} (f : A → B) (t : B → Bool) (l : List A) → link_to t (map f l) ≡ link_to (λ a. t (f a)) l
unfolding link_to
link_map f t l =
    ap (λ (k : ℕ). cond (eqb k (length (map f l))) 0 (suc k)) (place_map f t l)
    ∙ ap (λ (n : ℕ). cond (eqb (place (λ a. t (f a)) l) n) 0 (suc (place (λ a. t (f a)) l))) (length-map l f)

-- ---- the first that passes, or none, as a link

first_up : (t : ℕ → Bool) (k n : ℕ) → First (λ j. T (t j)) k (k + n) (link_of (first t (up_from k n)))
unfolding up_from
first_up t k zero = first_empty (λ j. T (t j)) k (k + zero) (omega arith)
first_up t k (suc n) = go (t k) refl (first t (up_from (suc k) n)) (first_up t (suc k) n)
  where
    here : T (t k) → First (λ j. T (t j)) k (k + suc n) (suc k)
    here h = record {
      none = λ e. absurd (omega arith);
      some = λ j e. let d : j ≡ k = omega arith in rw d (record { from = omega arith; within = omega arith; has = h; before = λ i a b has. omega arith });
    }

    beyond : (T (t k) → ⊥) → (v : ℕ) → First (λ j. T (t j)) (suc k) (suc k + n) v → First (λ j. T (t j)) k (k + suc n) v
    beyond h v f = record {
      none = λ e j a b has. pass (suc k + n) (f.none e) j a (omega arith) has;
      some = λ j e. let g = f.some j e in
          record { from = omega (arith, g.from); within = omega (arith, g.within); has = g.has; before = λ i a b has. pass j g.before i a b has };
    }
      where
        pass : (m : ℕ) → Absent (λ j. T (t j)) (suc k) m → Absent (λ j. T (t j)) k m
        pass m f j a b has = go (ℕ_discrete j k)
          where
            go : Dec (j ≡ k) → ⊥
            go (yes e) = h (subst (λ (i : ℕ). T (t i)) e has)
            go (no e) = f j (omega arith) b has

    go : (b : Bool) → t k ≡ b → (o : Option ℕ) → First (λ j. T (t j)) (suc k) (suc k + n) (link_of o) → First (λ j. T (t j)) k (k + suc n) (link_of (cond b (Some k) o))
    go true e o f = here (subst T (sym e) tt)
    go false e o f = beyond (λ h. subst T e h) (link_of o) f

-- the first of the ids below n that passes, or none
pub ids_link : (t : ℕ → Bool) (n : ℕ) → link_to t (up_to n) ≡ link_of (first t (up_to n))
ids_link t n = sym (first_ids t n (link_of (first t (up_to n))) (subst (λ (m : ℕ). First (λ k. T (t k)) 0 m (link_of (first t (up_to n)))) (omega arith) (first_up t 0 n)))

-- the place of the first of l that passes, or none
pub places_link : {A : Type 0} (p : A → Bool) (d : A) (l : List A) → link_to p l ≡ link_of (first (λ k. p (get_or l k d)) (up_to (length l)))
places_link p d l = sym (link_to_places p d l (λ k. p (get_or l k d)) (λ i h. refl)) ∙ ids_link (λ k. p (get_or l k d)) (length l)

-- tests that agree below n
pub ids_same : (t u : ℕ → Bool) (n : ℕ) → ((k : ℕ) → k < n → t k ≡ u k) → link_to t (up_to n) ≡ link_to u (up_to n)
ids_same t u n h =
    ap (λ (m : ℕ). link_to t (up_to m)) (sym (length_up 0 n))
    ∙ link_to_places u 0 (up_to n) t (λ i l. let g : i < n = omega (arith, length_up 0 n) in h i g ∙ ap u (sym (at_up 0 n i g ∙ omega arith)))

-- what a link says of the answer
pub link_none : (o : Option ℕ) (v : ℕ) → v ≡ link_of o → v ≡ 0 → o ≡ None
link_none None v e z = refl
link_none (Some k) v e z = absurd (omega arith)

pub link_some : (o : Option ℕ) (v : ℕ) → v ≡ link_of o → (v ≡ 0 → ⊥) → o ≡ Some (v - 1)
link_some None v e z = absurd (z e)
link_some (Some k) v e z = let d : k ≡ v - 1 = omega arith in ap Some d

-- a number or none, by its link and back
pub id_link : (o : Option ℕ) → id_in (link_of o) ≡ o
id_link None = refl
id_link (Some k) = refl

pub link_id : (v : ℕ) → link_of (id_in v) ≡ v
link_id zero = refl
link_id (suc k) = refl

-- the first of the ids below n that passes, or none, is what the link stands for
pub ids_first : (t : ℕ → Bool) (n : ℕ) → id_in (link_to t (up_to n)) ≡ first t (up_to n)
ids_first t n = ap id_in (ids_link t n) ∙ id_link (first t (up_to n))
