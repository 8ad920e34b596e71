-- `components` computes `Joined`: of items that each stand once, two are in one component exactly if a chain of links joins them.
use Prim.Native.Nat.{ℕ}
use mathlib.Core.Path.{◌≡◌, refl, sym, ◌∙◌, subst}
use mathlib.Core.Bool.{Bool, true, false, not}
use mathlib.Core.List.Memᴰ
use mathlib.Core.List.{List, [], ◌∷◌, flat_map, Memᴰ}
use mathlib.Core.Logic.{◌⊎◌, inl, inr}
use lib.Dec.{T, T_not}
use Rattle.lists.specs.Lists.{some, keep, has, Decides}
use Rattle.lists.proofs.Members.{some_of, of_some, keep_of, of_keep, flat_map_of, of_flat_map, has_of, of_has, place_some}
use Rattle.components.specs.Joined.{Joined, one, same, back, via, Among, Once}
use Rattle.components.specs.Components.{components, component_of}
use Rattle.components.proofs.Joined.{joined_into, joined_keeps}

pub wider : {link : ℕ → ℕ → Bool} {l : List ℕ} (k : ℕ) {i j : ℕ} → Joined (Among link l) i j → Joined (Among link (k ∷ l)) i j
wider k c = joined_into (λ i j a. one (record { left_in = Memᴰ.tail a.left_in; right_in = Memᴰ.tail a.right_in; linked = a.linked })) _ _ c

-- members are items
abbrev pub Items : List ℕ → List (List ℕ) → Type 0
Items l cs = (p : List ℕ) → Memᴰ p cs → (i : ℕ) → Memᴰ i p → Memᴰ i l

-- every item is in a component
abbrev pub Covered : List ℕ → List (List ℕ) → Type 0
Covered l cs = (i : ℕ) → Memᴰ i l → (p : List ℕ) × Memᴰ p cs × Memᴰ i p

-- no item is in two
abbrev pub Apart : List (List ℕ) → Type 0
Apart cs = (p q : List ℕ) → Memᴰ p cs → Memᴰ q cs → (i : ℕ) → Memᴰ i p → Memᴰ i q → p ≡ q

-- i and j are in one
abbrev pub Together : List (List ℕ) → ℕ → ℕ → Type 0
Together cs i j = (p : List ℕ) × Memᴰ p cs × Memᴰ i p × Memᴰ j p

-- members of one component are joined; linked items are in one component
abbrev pub Sound : (ℕ → ℕ → Bool) → List ℕ → List (List ℕ) → Type 0
Sound link l cs = (p : List ℕ) → Memᴰ p cs → (i j : ℕ) → Memᴰ i p → Memᴰ j p → Joined (Among link l) i j

abbrev pub Linked : (ℕ → ℕ → Bool) → List ℕ → List (List ℕ) → Type 0
Linked link l cs = (i j : ℕ) → Memᴰ i l → Memᴰ j l → T (link i j) → Together cs i j

-- ---- one item more: what holds of the components cs of l holds of those of k ∷ l

module _ (link : ℕ → ℕ → Bool) (k : ℕ) (l : List ℕ) (cs : List (List ℕ)) where
  abbrev pub touched : List ℕ → Bool
  touched p = some (link k) p

  abbrev pub grown : List ℕ
  grown = k ∷ flat_map (λ p. p) (keep touched cs)

  abbrev pub others : List (List ℕ)
  others = keep (λ p. not (touched p)) cs

  -- a member of a component of the others
  abbrev pub Within : (List ℕ → Type 0) → ℕ → Type 0
  Within P i = (p : List ℕ) × Memᴰ p cs × P p × Memᴰ i p

  -- where an old component's members are now, and what a new component is
  old_component : (p : List ℕ) → Memᴰ p cs → (q : List ℕ) × Memᴰ q (grown ∷ others) × ((i : ℕ) → Memᴰ i p → Memᴰ i q)
  old_component p a = go (touched p) refl
    where
      go : (b : Bool) → touched p ≡ b → (q : List ℕ) × Memᴰ q (grown ∷ others) × ((i : ℕ) → Memᴰ i p → Memᴰ i q)
      go true e = (grown, Memᴰ.head refl, λ i c. Memᴰ.tail (flat_map_of (λ p. p) (keep_of touched a (subst T (sym e) tt)) c))
      go false e = (p, Memᴰ.tail (keep_of (λ p. not (touched p)) a (subst (λ (b : Bool). T (not b)) (sym e) tt)), λ i c. c)

  in_grown : {i : ℕ} → Memᴰ i grown → (i ≡ k) ⊎ Within (λ p. T (touched p)) i
  in_grown {i} m = go (Memᴰ.cases_cons m)
    where
      go : (i ≡ k) ⊎ Memᴰ i (flat_map (λ p. p) (keep touched cs)) → (i ≡ k) ⊎ Within (λ p. T (touched p)) i
      go (inl e) = inl e
      go (inr u) =
          let r = of_flat_map (λ p. p) (keep touched cs) u in
          let h = of_keep touched cs r.1 in
          inr (r.0, h.0, h.1, r.2)

  new_component : {p : List ℕ} → Memᴰ p (grown ∷ others) → (p ≡ grown) ⊎ (Memᴰ p cs × T (not (touched p)))
  new_component {p} m = go (Memᴰ.cases_cons m)
    where
      go : (p ≡ grown) ⊎ Memᴰ p others → (p ≡ grown) ⊎ (Memᴰ p cs × T (not (touched p)))
      go (inl e) = inl e
      go (inr u) = inr (of_keep (λ q. not (touched q)) cs u)

  items_step : Items l cs → Items (k ∷ l) (grown ∷ others)
  items_step h p m i c = go (new_component m)
    where
      at : (i ≡ k) ⊎ Within (λ p. T (touched p)) i → Memᴰ i (k ∷ l)
      at (inl e) = Memᴰ.head e
      at (inr w) = Memᴰ.tail (h w.0 w.1 i w.3)

      go : (p ≡ grown) ⊎ (Memᴰ p cs × T (not (touched p))) → Memᴰ i (k ∷ l)
      go (inl e) = at (in_grown (subst (λ (q : List ℕ). Memᴰ i q) e c))
      go (inr u) = Memᴰ.tail (h p u.0 i c)

  to_grown : Items l cs → Sound link l cs → (i : ℕ) → Memᴰ i grown → Joined (Among link (k ∷ l)) k i
  to_grown h s i m = go (in_grown m)
    where
      go : (i ≡ k) ⊎ Within (λ p. T (touched p)) i → Joined (Among link (k ∷ l)) k i
      go (inl e) = subst (λ (x : ℕ). Joined (Among link (k ∷ l)) k x) (sym e) same
      go (inr w) =
          let z = of_some (link k) w.0 w.2 in
          via (one (record { left_in = Memᴰ.head refl; right_in = Memᴰ.tail (h w.0 w.1 z.0 z.1); linked = z.2 }))
          (wider k (s w.0 w.1 z.0 i z.1 w.3))

  sound_step : Items l cs → Sound link l cs → Sound link (k ∷ l) (grown ∷ others)
  sound_step h s p m i j a b = go (new_component m)
    where
      go : (p ≡ grown) ⊎ (Memᴰ p cs × T (not (touched p))) → Joined (Among link (k ∷ l)) i j
      go (inl e) =
          via (back (to_grown h s i (subst (λ (q : List ℕ). Memᴰ i q) e a))) (to_grown h s j (subst (λ (q : List ℕ). Memᴰ j q) e b))
      go (inr u) = wider k (s p u.0 i j a b)

  clash : Items l cs → (Memᴰ k l → ⊥) → Apart cs → (q : List ℕ) → Memᴰ q cs → T (not (touched q)) → (i : ℕ) → Memᴰ i grown → Memᴰ i q → ⊥
  clash h new d q m t i a b = go (in_grown a)
    where
      go : (i ≡ k) ⊎ Within (λ p. T (touched p)) i → ⊥
      go (inl e) = new (subst (λ (x : ℕ). Memᴰ x l) e (h q m i b))
      go (inr w) = T_not (touched q) t (subst (λ (p : List ℕ). T (touched p)) (d w.0 q w.1 m i w.3 b) w.2)

  apart_step : Items l cs → (Memᴰ k l → ⊥) → Apart cs → Apart (grown ∷ others)
  apart_step h new d p q m n i a b = go (new_component m) (new_component n)
    where
      in_p : p ≡ grown → Memᴰ i grown
      in_p e = subst (λ (r : List ℕ). Memᴰ i r) e a

      in_q : q ≡ grown → Memᴰ i grown
      in_q e = subst (λ (r : List ℕ). Memᴰ i r) e b

      go : (p ≡ grown) ⊎ (Memᴰ p cs × T (not (touched p))) → (q ≡ grown) ⊎ (Memᴰ q cs × T (not (touched q))) → p ≡ q
      go (inl e) (inl f) = e ∙ sym f
      go (inl e) (inr v) = absurd (clash h new d q v.0 v.1 i (in_p e) b)
      go (inr u) (inl f) = absurd (clash h new d p u.0 u.1 i (in_q f) a)
      go (inr u) (inr v) = d p q u.0 v.0 i a b

  covered_step : Covered l cs → Covered (k ∷ l) (grown ∷ others)
  covered_step h i m = go (Memᴰ.cases_cons m)
    where
      go : (i ≡ k) ⊎ Memᴰ i l → (p : List ℕ) × Memᴰ p (grown ∷ others) × Memᴰ i p
      go (inl e) = (grown, Memᴰ.head refl, Memᴰ.head e)
      go (inr u) = let r = h i u in let o = old_component r.0 r.1 in (o.0, o.1, o.2 i r.2)

  -- k and an item that it has a link with
  with_k : Covered l cs → (j : ℕ) → Memᴰ j l → T (link k j) → Memᴰ j grown
  with_k h j m t = let r = h j m in Memᴰ.tail (flat_map_of (λ p. p) (keep_of touched r.1 (some_of (link k) r.2 t)) r.2)

  linked_step : ((i j : ℕ) → T (link i j) → T (link j i)) → Covered l cs → Linked link l cs → Linked link (k ∷ l) (grown ∷ others)
  linked_step turn h s i j m n t = go (Memᴰ.cases_cons m) (Memᴰ.cases_cons n)
    where
      go : (i ≡ k) ⊎ Memᴰ i l → (j ≡ k) ⊎ Memᴰ j l → Together (grown ∷ others) i j
      go (inl e) (inl f) = (grown, Memᴰ.head refl, Memᴰ.head e, Memᴰ.head f)
      go (inl e) (inr v) = (grown, Memᴰ.head refl, Memᴰ.head e, with_k h j v (subst (λ (x : ℕ). T (link x j)) e t))
      go (inr u) (inl f) = (grown, Memᴰ.head refl, with_k h i u (turn i k (subst (λ (x : ℕ). T (link i x)) f t)), Memᴰ.head f)
      go (inr u) (inr v) = let r = s i j u v t in let o = old_component r.0 r.1 in (o.0, o.1, o.2 i r.2, o.2 j r.3)

-- ---- all items

module _ (link : ℕ → ℕ → Bool) where
  pub items : (l : List ℕ) → Items l (components link l)
  unfolding components
  items [] = λ p m i c. absurd (Memᴰ.not-nil m)
  items (k ∷ l) = items_step link k l (components link l) (items l)

  pub sound : (l : List ℕ) → Sound link l (components link l)
  unfolding components
  sound [] = λ p m i j a b. absurd (Memᴰ.not-nil m)
  sound (k ∷ l) = sound_step link k l (components link l) (items l) (sound l)

  pub apart : (l : List ℕ) → Once l → Apart (components link l)
  unfolding components
  apart [] o = λ p q m n i a b. absurd (Memᴰ.not-nil m)
  apart (k ∷ l) o = apart_step link k l (components link l) (items l) o.0 (apart l o.1)

  pub covered : (l : List ℕ) → Covered l (components link l)
  unfolding components
  covered [] = λ i m. absurd (Memᴰ.not-nil m)
  covered (k ∷ l) = covered_step link k l (components link l) (covered l)

  module _ (turn : (i j : ℕ) → T (link i j) → T (link j i)) where
    pub linked : (l : List ℕ) → Linked link l (components link l)
    unfolding components
    linked [] = λ i j m n t. absurd (Memᴰ.not-nil m)
    linked (k ∷ l) = linked_step link k l (components link l) turn (covered l) (linked l)

    module _ (l : List ℕ) (once : Once l) where
      in_list : {i j : ℕ} → Joined (Among link l) i j → (Memᴰ i l → Memᴰ j l) × (Memᴰ j l → Memᴰ i l)
      in_list c = joined_keeps (λ (i : ℕ). Memᴰ i l) (λ i j a. (a.left_in, a.right_in)) _ _ c

      pub together : {i j : ℕ} → Joined (Among link l) i j → Memᴰ i l → Together (components link l) i j
      together {i} {j} (one a) m = linked l i j a.left_in a.right_in a.linked
      together {i} same m = let r = covered l i m in (r.0, r.1, r.2, r.2)
      together (back c) m = let r = together c ((in_list c).1 m) in (r.0, r.1, r.3, r.2)
      together {i} (via {j = z} {k = w} c d) m =
          let r = together c m in
          let q = together d ((in_list c).0 m) in
          (q.0, q.1, subst (λ (p : List ℕ). Memᴰ i p) (apart l once r.0 q.0 r.1 q.1 z r.3 q.2) r.2, q.3)

-- ---- the component that holds an item

module _ (link : ℕ → ℕ → Bool) (turn : (i j : ℕ) → T (link i j) → T (link j i)) (l : List ℕ) (once : Once l) where
  abbrev pub own : ℕ → List ℕ
  own i = component_of (components link l) i

  pub own_component : {i : ℕ} → Memᴰ i l → Memᴰ (own i) (components link l) × Memᴰ i (own i)
  own_component {i} m =
      let r = covered link l i m in
      let f = place_some (λ p. has p i) [] (components link l) (some_of (λ p. has p i) r.1 (has_of r.2)) in
      (f.0, of_has (own i) i f.1)

  pub own_joined : {i j : ℕ} → Memᴰ i l → Memᴰ j (own i) → Joined (Among link l) i j
  own_joined {i} {j} m c = sound link l (own i) (own_component m).0 i j (own_component m).1 c

  pub joined_own : {i j : ℕ} → Memᴰ i l → Joined (Among link l) i j → Memᴰ j (own i)
  joined_own {i} {j} m c =
      let r = together link turn l once c m in
      subst (λ (p : List ℕ). Memᴰ j p) (apart link l once r.0 (own i) r.1 (own_component m).0 i r.2 (own_component m).1) r.3

  -- the component of i holds exactly what a chain joins to i
  pub component_decides : {i : ℕ} (j : ℕ) → Memᴰ i l → Decides (Joined (Among link l) i j) (has (own i) j)
  component_decides {i} j m = record { sound = λ t. own_joined m (of_has (own i) j t); complete = λ c. has_of (joined_own m c) }

  -- one that passes is in the component of i exactly if a chain joins i to an item that passes
  pub component_some : (p : ℕ → Bool) {i : ℕ} → Memᴰ i l → Decides ((j : ℕ) × Memᴰ j l × T (p j) × Joined (Among link l) i j) (some p (own i))
  component_some p {i} m = record {
    sound = λ t.
        let r = of_some p (own i) t in
        (r.0, items link l (own i) (own_component m).0 r.0 r.1, r.2, own_joined m r.1);
    complete = λ r. some_of p (joined_own m r.3) r.2;
  }
