-- Keeping and sorting by the pair may be exchanged, though two sides of one pair need not be the same. Assumes nothing.
--   ascending_keep    those kept of an ascending list ascend
--   keep_by_pair      of sides: keeping and sorting by the pair
use Prim.Native.Nat.{ℕ}
use mathlib.Core.Bool.{Bool, true, false}
use mathlib.Core.List.{List, [], ◌∷◌, map}
use mathlib.Core.Logic.{⊎_elim}
use mathlib.Core.Path.{◌≡◌, refl, sym, ap, subst, ◌∙◌}
use Rattle.lists.specs.Lists.{keep, insert_by, sort_by}
use Rattle.lists.specs.Order.{AtMost, AtMostAll, Ascending}
use Rattle.lists.proofs.Mapped.{Agree, pairwise_of, map_sort_by}
use Rattle.lists.proofs.Multiplicity.{keep_yes, keep_no}
use Rattle.lists.proofs.Orders.{cases, at_most_trans}
use Rattle.lists.proofs.SortBy.{insert_here, insert_later, insert_least, ascending_sort_by}
use Rattle.records.specs.Records.{record_before}
use Rattle.records.proofs.Comparing.{record_order}
use Rattle.edges.specs.Edges.{sorted_pair, pair_before}

module _ {A : Type 0} (before : A → A → Bool) (p : A → Bool) where
  at_most_keep : (x : A) (l : List A) → AtMostAll before x l → AtMostAll before x (keep p l)
  at_most_keep x [] h = tt
  at_most_keep x (y ∷ l) h =
      ⊎_elim (λ (e : p y ≡ true). rw (keep_yes p y l e) (h.0, at_most_keep x l h.1)) (λ (e : p y ≡ false). rw (keep_no p y l e) (at_most_keep x l h.1))
      (cases (p y))

  pub ascending_keep : (l : List A) → Ascending before l → Ascending before (keep p l)
  ascending_keep [] h = tt
  ascending_keep (x ∷ l) h =
      ⊎_elim (λ (e : p x ≡ true). rw (keep_yes p x l e) (at_most_keep x l h.0, ascending_keep l h.1)) (λ (e : p x ≡ false). rw (keep_no p x l e) (ascending_keep l h.1))
      (cases (p x))

-- ---- the order of pairs
all_trans : (x y : ℕ × ℕ) (l : List (ℕ × ℕ)) → AtMost pair_before x y → AtMostAll pair_before y l → AtMostAll pair_before x l
unfolding pair_before
all_trans x y [] h k = tt
all_trans x y (z ∷ l) h k = (at_most_trans record_before record_order (sorted_pair x) (sorted_pair y) (sorted_pair z) h k.0, all_trans x y l h k.1)

all_pairs_lem : (x : ℕ × ℕ) (l : List (ℕ × ℕ)) → AtMostAll record_before (sorted_pair x) (map sorted_pair l) → AtMostAll pair_before x l
unfolding pair_before
all_pairs_lem x [] h = tt
all_pairs_lem x (y ∷ l) h = (h.0, all_pairs_lem x l h.1)

ascending_pairs : (l : List (ℕ × ℕ)) → Ascending record_before (map sorted_pair l) → Ascending pair_before l
ascending_pairs [] h = tt
ascending_pairs (x ∷ l) h = (all_pairs_lem x l h.0, ascending_pairs l h.1)

sorted_ascends : (l : List (ℕ × ℕ)) → Ascending pair_before (sort_by pair_before l)
unfolding pair_before
sorted_ascends l =
    ascending_pairs (sort_by pair_before l)
    (subst (Ascending record_before) (sym (map_sort_by sorted_pair pair_before record_before l (pairwise_of (Agree sorted_pair pair_before record_before) (λ x y. refl) l)))
    (ascending_sort_by record_before record_order (map sorted_pair l)))

module _ (p : ℕ × ℕ → Bool) where
  insert_yes : (x : ℕ × ℕ) (l : List (ℕ × ℕ)) → Ascending pair_before l → p x ≡ true → keep p (insert_by pair_before x l) ≡ insert_by pair_before x (keep p l)
  unfolding insert_by
  insert_yes x [] a e = keep_yes p x [] e
  insert_yes x (y ∷ l) a e =
      ⊎_elim (λ (k : pair_before y x ≡ true). rw (insert_later pair_before x y l k) (later (insert_yes x l a.1 e) k))
      (λ (k : pair_before y x ≡ false). rw (insert_here pair_before x y l k, keep_yes p x (y ∷ l) e)
      (sym (insert_least pair_before x (keep p (y ∷ l)) (at_most_keep pair_before p x (y ∷ l) (k, all_trans x y l k a.0)))))
      (cases (pair_before y x))
    where
      later : keep p (insert_by pair_before x l) ≡ insert_by pair_before x (keep p l) → pair_before y x ≡ true
          → keep p (y ∷ insert_by pair_before x l) ≡ insert_by pair_before x (keep p (y ∷ l))
      later ih k =
          ⊎_elim (λ (f : p y ≡ true). rw (keep_yes p y (insert_by pair_before x l) f, keep_yes p y l f, insert_later pair_before x y (keep p l) k, ih))
          (λ (f : p y ≡ false). rw (keep_no p y (insert_by pair_before x l) f, keep_no p y l f) ih) (cases (p y))

  insert_no : (x : ℕ × ℕ) (l : List (ℕ × ℕ)) → p x ≡ false → keep p (insert_by pair_before x l) ≡ keep p l
  unfolding insert_by
  insert_no x [] e = keep_no p x [] e
  insert_no x (y ∷ l) e =
      ⊎_elim (λ (k : pair_before y x ≡ true). rw (insert_later pair_before x y l k) (later (insert_no x l e)))
      (λ (k : pair_before y x ≡ false). rw (insert_here pair_before x y l k) (keep_no p x (y ∷ l) e)) (cases (pair_before y x))
    where
      later : keep p (insert_by pair_before x l) ≡ keep p l → keep p (y ∷ insert_by pair_before x l) ≡ keep p (y ∷ l)
      later ih =
          ⊎_elim (λ (f : p y ≡ true). rw (keep_yes p y (insert_by pair_before x l) f, keep_yes p y l f, ih))
          (λ (f : p y ≡ false). rw (keep_no p y (insert_by pair_before x l) f, keep_no p y l f) ih) (cases (p y))

  pub keep_by_pair : (l : List (ℕ × ℕ)) → keep p (sort_by pair_before l) ≡ sort_by pair_before (keep p l)
  unfolding sort_by
  keep_by_pair [] = refl
  keep_by_pair (x ∷ l) = step (keep_by_pair l)
    where
      step : keep p (sort_by pair_before l) ≡ sort_by pair_before (keep p l) → keep p (insert_by pair_before x (sort_by pair_before l)) ≡ sort_by pair_before (keep p (x ∷ l))
      step ih =
          ⊎_elim (λ (e : p x ≡ true). rw (keep_yes p x l e) (insert_yes x (sort_by pair_before l) (sorted_ascends l) e ∙ ap (insert_by pair_before x) ih))
          (λ (e : p x ≡ false). rw (keep_no p x l e) (insert_no x (sort_by pair_before l) e ∙ ih)) (cases (p x))
