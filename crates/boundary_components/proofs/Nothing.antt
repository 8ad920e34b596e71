-- All lists are empty exactly if every edge has two different ends and is borne by two sides, one each way. Assumes nothing.
--   no_irregular, all_regular   no irregular edge is listed, exactly if no side is irregular
--   no_open, none_open          no open edge is listed, exactly if no side alone bears its pair
--   no_components, edges_grouped   without open edges there is no component; an open edge stands in one
--   closed_nothing, nothing_closed   the theorem, either way
use Prim.Native.Nat.{ℕ, ◌<◌}
use native.Mathlib.Omega.{arith}
use mathlib.Core.Bool.{Bool, true, false}
use mathlib.Core.List.Memᴰ
use mathlib.Core.List.{List, [], ◌∷◌, map, flat_map, Memᴰ}
use mathlib.Core.Logic.{⊎_elim}
use mathlib.Core.Path.{◌≡◌, refl, sym, ap, ◌∙◌, subst}
use borrow.Author.Tests.{eq-eqb, eqb-true}
use lib.Dec.{eqb}
use lib.ListN.{length}
use Rattle.lists.specs.Lists.{keep, up_from, sort_by, distinct_from, distinct}
use Rattle.lists.proofs.Bools.{yes, is_true, is_false}
use Rattle.lists.proofs.Mapped.{each_of, keep_none}
use Rattle.lists.proofs.Members.{keep_of, flat_map_of}
use Rattle.lists.proofs.Orders.{cases, never}
use Rattle.lists.proofs.SortBy.{length_sort_by}
use Rattle.geometry.specs.Triangles.{Triangle}
use Rattle.edges.specs.Edges.{sides, sorted_pair, same_pair, bearers, is_open, pair_before, open_edges, pair_words}
use Rattle.irregular_edges.specs.Irregular.{is_irregular, irregular_edges}
use Rattle.components.specs.Joined.{Joined}
use Rattle.boundary_groups.specs.Groups.{nth_edge, groups, open_pairs, boundary_components, component_words}
use Rattle.boundary_groups.proofs.Together.{one_component}
use Rattle.boundary_components.specs.Boundary.{ClosedMesh, Nothing}
use Rattle.boundary_components.proofs.Regular.{two_ends, two_sides, one_back, not_open, not_irregular}

none_of_length : {A : Type 0} (l : List A) → length l ≡ 0 → l ≡ []
none_of_length [] h = refl
none_of_length (x ∷ l) h = absurd (omega arith)

none_of_map : {A B : Type 0} (f : A → B) (l : List A) → map f l ≡ [] → l ≡ []
none_of_map f [] e = refl
none_of_map f (x ∷ l) e = absurd (let h = ap length e in omega (arith, h))

none_of_distinct : {A : Type 0} (same : A → A → Bool) (l : List A) → distinct same l ≡ [] → l ≡ []
unfolding distinct_from
none_of_distinct same [] e = refl
none_of_distinct same (x ∷ l) e = absurd (let h = ap length e in omega (arith, h))

none_of_sort : {A : Type 0} (before : A → A → Bool) (l : List A) → sort_by before l ≡ [] → l ≡ []
none_of_sort before l e = none_of_length l (sym (length_sort_by before l) ∙ ap length e)

-- none kept, so none passes
none_passes : {A : Type 0} (p : A → Bool) (l : List A) → keep p l ≡ [] → (x : A) → Memᴰ x l → p x ≡ false
none_passes {A} p l e x m =
    ⊎_elim (λ (t : p x ≡ true). absurd (Memᴰ.not-nil (subst (λ (k : List A). Memᴰ x k) e (keep_of p m (yes t))))) (λ (f : p x ≡ false). f) (cases (p x))

none_kept : {A : Type 0} (p : A → Bool) (l : List A) → ((x : A) → Memᴰ x l → p x ≡ false) → keep p l ≡ []
none_kept p l h = keep_none p l (each_of (λ x. p x ≡ false) l h)

no_pairs : (l : List (ℕ × ℕ)) → pair_words l ≡ [] → l ≡ []
unfolding pair_words flat_map
no_pairs [] e = refl
no_pairs (x ∷ l) e = absurd (let h = ap length e in omega (arith, h))

not_once : (k : ℕ) → (k ≡ 1 → ⊥) → eqb k 1 ≡ false
not_once k h = is_false (eqb k 1) (λ t. h (eqb-true k 1 (is_true (eqb k 1) t)))

module _ (facets : List (Triangle ℕ)) where
  abbrev S : List (ℕ × ℕ)
  S = sides facets

  pub no_irregular : irregular_edges facets ≡ [] → (s : ℕ × ℕ) → Memᴰ s S → is_irregular S s ≡ false
  unfolding irregular_edges
  no_irregular e =
      let kept = keep (is_irregular S) S in
      none_passes (is_irregular S) S
      (none_of_sort pair_before kept (none_of_distinct same_pair (sort_by pair_before kept) (none_of_map sorted_pair (distinct same_pair (sort_by pair_before kept)) e)))

  pub all_regular : ((s : ℕ × ℕ) → Memᴰ s S → is_irregular S s ≡ false) → irregular_edges facets ≡ []
  unfolding irregular_edges sort_by distinct_from
  all_regular h = ap (λ (k : List (ℕ × ℕ)). map sorted_pair (distinct same_pair (sort_by pair_before k))) (none_kept (is_irregular S) S h)

  pub no_open : open_edges facets ≡ [] → (s : ℕ × ℕ) → Memᴰ s S → is_open S s ≡ false
  unfolding open_edges
  no_open e = none_passes (is_open S) S (none_of_sort pair_before (keep (is_open S) S) e)

  pub none_open : ((s : ℕ × ℕ) → Memᴰ s S → is_open S s ≡ false) → open_edges facets ≡ []
  unfolding open_edges sort_by
  none_open h = ap (λ (k : List (ℕ × ℕ)). sort_by pair_before k) (none_kept (is_open S) S h)

  pub no_components : open_edges facets ≡ [] → boundary_components facets ≡ []
  unfolding boundary_components open_pairs groups up_from
  no_components e = ap (λ (l : List (ℕ × ℕ)). let es = map sorted_pair l in map (λ g. map (nth_edge es) g) (groups es)) e

  -- a list that has a member is not empty
  has_none : {A : Type 0} {x : A} {l : List A} → l ≡ [] → Memᴰ x l → ⊥
  has_none {A} {x} e m = Memᴰ.not-nil (subst (λ (k : List A). Memᴰ x k) e m)

  pub edges_grouped : flat_map (λ g. g) (boundary_components facets) ≡ [] → open_edges facets ≡ []
  unfolding boundary_components open_pairs
  edges_grouped e = go (open_edges facets) refl
    where
      go : (l : List (ℕ × ℕ)) → open_edges facets ≡ l → open_edges facets ≡ []
      go [] h = h
      go (x ∷ l) h =
          let es = open_pairs facets in
          let long : 0 < length es = subst (λ (k : List (ℕ × ℕ)). 0 < length (map sorted_pair k)) (sym h) (omega arith) in
          let c = (one_component es 0 0 long long).1 Joined.same in
          absurd (has_none e (flat_map_of (λ g. g) (Memᴰ.map (λ g. map (nth_edge es) g) c.listed) (Memᴰ.map (nth_edge es) c.left_in)))

  pub nothing_closed : Nothing facets → ClosedMesh facets
  nothing_closed n =
      let e = edges_grouped (no_pairs (flat_map (λ g. g) (boundary_components facets)) n.edges) in
      let shut : (s : ℕ × ℕ) → Memᴰ s S → bearers S s ≡ 1 → ⊥ = λ s m h. never (is_open S s) (eq-eqb (bearers S s) 1 h) (no_open e s m) in
      let regular = no_irregular (no_pairs (irregular_edges facets) n.irregular) in
      record {
        two_ends = λ s m. two_ends S s m (shut s m) (regular s m);
        two_sides = λ s m. two_sides S s m (shut s m) (regular s m);
        one_back = λ s m. one_back S s m (shut s m) (regular s m);
      }

  pub closed_nothing : ClosedMesh facets → Nothing facets
  unfolding pair_words component_words flat_map
  closed_nothing c =
      let shut = none_open (λ s m. not_once (bearers S s) (not_open S s m (c.two_ends s m) (c.two_sides s m) (c.one_back s m))) in
      let none = no_components shut in
      record {
        edges = ap (λ (l : List (List (ℕ × ℕ))). pair_words (flat_map (λ g. g) l)) none;
        components = ap component_words none;
        irregular = ap pair_words (all_regular (λ s m. not_irregular S s m (c.two_ends s m) (c.two_sides s m) (c.one_back s m)));
      }
