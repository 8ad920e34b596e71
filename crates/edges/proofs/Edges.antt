-- Laws of open edges, for any numbers of vertices. Callers cite these, and need not look into `open_edges`. Assumes nothing.
--   same_pair_refl, same_pair_sym, same_pair_as   `same_pair` is an equivalence: who has the pair of s is as near to any pair as s
--   open_is_side, open_once, once_open            an open edge is a side that alone bears its pair, and each such side is an open edge
--   open_pair                                     a pair is that of an open edge exactly if exactly one side bears it
--   open_small                                    corners below 2^32 make open edges with ends below 2^32
--   open_distinct, open_ascending                 no two have the same pair; of two places the earlier has the lesser pair
use Prim.Native.Nat.{ℕ, ◌%◌, ◌≤◌, ◌<◌}
use mathlib.Core.Bool.{Bool, true, false}
use mathlib.Core.List.{List, [], ◌∷◌, map, Memᴰ}
use mathlib.Core.Logic.{⊎_elim}
use mathlib.Core.Path.{◌≡◌, refl, sym, ap, subst, ◌∙◌}
use native.Mathlib.Omega.{arith}
use borrow.Author.Tests.{eqb-true, eq-eqb}
use lib.Dec.{T}
use lib.ListN.{length, get_or, length-map, get_or-map}
use Rattle.lists.specs.Lists.{some, keep, count, sort_by}
use Rattle.lists.specs.Order.{AtMost}
use Rattle.lists.proofs.Counts.{keep_same}
use Rattle.lists.proofs.Mapped.{Pairwise, Agree, each_of, pairwise_of, pairwise_at, pairwise_map, pairwise_keep, pairwise_sort_by, map_sort_by, mem_sort_by, sort_by_mem}
use Rattle.lists.proofs.Members.{keep_of, of_keep, some_of, of_some, get_d_mem, mem_get_d}
use Rattle.lists.proofs.Multiplicity.{more, count_cons}
use Rattle.lists.proofs.Orders.{cases, never, ascending_before}
use Rattle.lists.proofs.SortBy.{ascending_sort_by}
use Rattle.lists.proofs.Bools.{yes, both_ways}
use Rattle.records.specs.Records.{record_before}
use Rattle.records.proofs.Comparing.{Lex, record_cases, record_order, lex_before}
use Rattle.geometry.specs.Triangles.{Triangle, threes}
use Rattle.edges.specs.Edges.{sides, sorted_pair, same_pair, bearers, is_open, pair_before, open_edges}
use Rattle.edges.proofs.Sides.{Small, sides_small}
use Rattle.edges.proofs.Keys.{pair_same, same_pair_lem, same_ends_sorted, sorted_same_ends}

-- a test as a fact, and back
yes_true : {b : Bool} → T b → b ≡ true
yes_true {b} t = go b t
  where
    go : (b : Bool) → T b → b ≡ true
    go true t = refl
    go false t = absurd t

-- ---- the same pair
pub same_sorted : (s t : ℕ × ℕ) → same_pair s t ≡ true → sorted_pair s ≡ sorted_pair t
same_sorted s t h = same_ends_sorted s t (same_pair_lem s t h)

pub sorted_same : (s t : ℕ × ℕ) → sorted_pair s ≡ sorted_pair t → same_pair s t ≡ true
sorted_same s t e = pair_same s t (sorted_same_ends s t e)

pub same_pair_refl : (s : ℕ × ℕ) → same_pair s s ≡ true
same_pair_refl s = sorted_same s s refl

pub same_pair_sym : (s t : ℕ × ℕ) → same_pair s t ≡ same_pair t s
same_pair_sym s t =
    both_ways (same_pair s t) (same_pair t s) (λ h. sorted_same t s (sym (same_sorted s t h))) (λ h. sorted_same s t (sym (same_sorted t s h)))

pub same_pair_as : (s t : ℕ × ℕ) → same_pair s t ≡ true → (u : ℕ × ℕ) → same_pair s u ≡ same_pair t u
same_pair_as s t e u =
    both_ways (same_pair s u) (same_pair t u) (λ h. sorted_same t u (sym (same_sorted s t e) ∙ same_sorted s u h))
    (λ h. sorted_same s u (same_sorted s t e ∙ same_sorted t u h))

pub bearers_as : (l : List (ℕ × ℕ)) (s t : ℕ × ℕ) → same_pair s t ≡ true → bearers l s ≡ bearers l t
bearers_as l s t e = ap (length {A = ℕ × ℕ}) (keep_same (same_pair s) (same_pair t) l (λ u m. same_pair_as s t e u))

-- a member that passes is counted
counted : {A : Type 0} (p : A → Bool) (l : List A) {x : A} → Memᴰ x l → p x ≡ true → 0 < count p l
counted {A} p l {x} m e = go (keep p l) (keep_of p m (yes e))
  where
    go : (k : List A) → Memᴰ x k → 0 < length k
    go (y ∷ k) m = omega arith
    go [] m = elim m [ ]

some_counted : {A : Type 0} (p : A → Bool) (l : List A) → 0 < count p l → T (some p l)
some_counted {A} p l h = go (keep p l) refl h
  where
    go : (k : List A) → keep p l ≡ k → 0 < length k → T (some p l)
    go [] e h = absurd (omega arith)
    go (y ∷ k) e h =
        let m = of_keep p l {x = y} (subst (Memᴰ y) (sym e) (Memᴰ.head refl)) in
        some_of p m.0 m.1

module _ (fs : List (Triangle ℕ)) where
  abbrev S : List (ℕ × ℕ)
  S = sides fs

  -- ---- members
  pub open_is_side : {e : ℕ × ℕ} → Memᴰ e (open_edges fs) → Memᴰ e S
  unfolding open_edges
  open_is_side m = (of_keep (is_open S) S (sort_by_mem pair_before (keep (is_open S) S) m)).0

  pub open_once : {e : ℕ × ℕ} → Memᴰ e (open_edges fs) → bearers S e ≡ 1
  unfolding open_edges
  open_once {e} m = eqb-true (bearers S e) 1 (yes_true (of_keep (is_open S) S (sort_by_mem pair_before (keep (is_open S) S) m)).1)

  pub once_open : {e : ℕ × ℕ} → Memᴰ e S → bearers S e ≡ 1 → Memᴰ e (open_edges fs)
  unfolding open_edges
  once_open {e} m h = mem_sort_by pair_before (keep (is_open S) S) (keep_of (is_open S) m (yes (eq-eqb (bearers S e) 1 h)))

  -- ---- pairs
  pub open_pair : (s : ℕ × ℕ) → some (same_pair s) (open_edges fs) ≡ is_open S s
  open_pair s =
      both_ways (some (same_pair s) (open_edges fs)) (is_open S s)
      (λ h. let x = of_some (same_pair s) (open_edges fs) (yes h) in
      eq-eqb (bearers S s) 1 (bearers_as S s x.0 (yes_true x.2) ∙ open_once x.1))
      (λ h. let one = eqb-true (bearers S s) 1 h in
      let x = of_some (same_pair s) S (some_counted (same_pair s) S (omega arith)) in
      yes_true (some_of (same_pair s) (once_open x.1 (sym (bearers_as S s x.0 (yes_true x.2)) ∙ one)) x.2))

  -- ---- no two of one pair
  alone_from : (l : List (ℕ × ℕ)) → ((x : ℕ × ℕ) → bearers l x ≤ bearers S x) → Pairwise (λ x y. is_open S x ≡ true → same_pair x y ≡ false) l
  alone_from [] f = tt
  alone_from (x ∷ l) f = (
    each_of (λ y. is_open S x ≡ true → same_pair x y ≡ false) l (λ y m o.
        ⊎_elim
        (λ (e : same_pair x y ≡ true).
        let a = count_cons (same_pair x) x l ∙ ap (λ (b : Bool). more b (bearers l x)) (same_pair_refl x) in
        absurd (omega (arith, a, f x, counted (same_pair x) l m e, eqb-true (bearers S x) 1 o)))
        (λ e. e) (cases (same_pair x y))),
    alone_from l (λ z. less z (f z)),
  )
    where
      more_le : (b : Bool) (n : ℕ) → n ≤ more b n
      more_le true n = omega arith
      more_le false n = omega arith

      less : (z : ℕ × ℕ) → bearers (x ∷ l) z ≤ bearers S z → bearers l z ≤ bearers S z
      less z h = omega (arith, count_cons (same_pair z) x l, more_le (same_pair z x) (bearers l z))

  distinct : Pairwise (λ x y. same_pair x y ≡ false) (open_edges fs)
  unfolding open_edges
  distinct =
      pairwise_sort_by pair_before (λ x y. same_pair x y ≡ false) (λ x y e. same_pair_sym y x ∙ e) (keep (is_open S) S)
      (pairwise_map (λ x. is_open S x ≡ true) (λ x y. is_open S x ≡ true → same_pair x y ≡ false) (λ x y. same_pair x y ≡ false) (λ x y o f. f o) (keep (is_open S) S)
      (each_of (λ x. is_open S x ≡ true) (keep (is_open S) S) (λ x m. yes_true (of_keep (is_open S) S m).1))
      (pairwise_keep (is_open S) (λ x y. is_open S x ≡ true → same_pair x y ≡ false) S (alone_from S (λ x. omega arith))))

  module _ (i j : ℕ) (h : i < j) (k : j < length (open_edges fs)) where
    abbrev x : ℕ × ℕ
    x = get_or (open_edges fs) i (0, 0)

    abbrev y : ℕ × ℕ
    y = get_or (open_edges fs) j (0, 0)

    pub open_distinct : same_pair x y ≡ false
    open_distinct = pairwise_at (λ x y. same_pair x y ≡ false) (0, 0) (open_edges fs) i j distinct h k

    not_later : AtMost record_before (sorted_pair x) (sorted_pair y)
    unfolding open_edges pair_before
    not_later =
        let e : map sorted_pair (open_edges fs) ≡ sort_by record_before (map sorted_pair (keep (is_open S) S)) =
        map_sort_by sorted_pair pair_before record_before (keep (is_open S) S) (pairwise_of (Agree sorted_pair pair_before record_before) (λ x y. refl) (keep (is_open S) S)) in
        (λ t. record_before (sym (get_or-map sorted_pair (open_edges fs) j (0, 0)) t) (sym (get_or-map sorted_pair (open_edges fs) i (0, 0)) t))
        ∙ ascending_before record_before (map sorted_pair (open_edges fs)) i j (0, 0)
        (rw e (ascending_sort_by record_before record_order (map sorted_pair (keep (is_open S) S)))) h (omega (arith, length-map (open_edges fs) sorted_pair))

    pub open_ascending : pair_before x y ≡ true
    unfolding pair_before
    open_ascending =
        ⊎_elim (λ (l : Lex (sorted_pair x) (sorted_pair y)). lex_before (sorted_pair x) (sorted_pair y) l)
        (⊎_elim (λ (e : sorted_pair x ≡ sorted_pair y). absurd (never (same_pair x y) (sorted_same x y e) open_distinct))
        (λ (l : Lex (sorted_pair y) (sorted_pair x)). absurd (never (record_before (sorted_pair y) (sorted_pair x)) (lex_before (sorted_pair y) (sorted_pair x) l) not_later)))
        (record_cases (sorted_pair x) (sorted_pair y))

pub open_small : (f : List ℕ) → length f % 3 ≡ 0 → ((i : ℕ) → get_or f i 0 < 4294967296) → (i : ℕ) → i < length (open_edges (threes f)) →
    Small (get_or (open_edges (threes f)) i (0, 0))
open_small f whole bound i h =
    let s = mem_get_d (0, 0) (open_is_side (threes f) (get_d_mem (open_edges (threes f)) i (0, 0) h)) in
    subst Small s.2 (sides_small f whole bound s.0)
