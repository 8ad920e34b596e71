-- Laws of the records of component and edge, sorted. Assumes nothing.
--   sorted_runs      their runs are the groups, one by one
--   sorted_list      the edges' numbers, in their order, are the groups one behind the other
use Prim.Native.Nat.{ℕ, zero, suc, ◌≤◌, ◌<◌}
use native.Mathlib.Omega.{arith}
use mathlib.Core.Path.{◌≡◌, refl, sym, ap, ◌∙◌, subst}
use mathlib.Core.Bool.{Bool, true, false, cond}
use mathlib.Core.List.Memᴰ
use mathlib.Core.List.{List, [], ◌∷◌, ◌++◌, map, flat_map}
use mathlib.Core.Logic.{⊎_elim}
use lib.Dec.{T, eqb, eqb→eq}
use lib.ListN.{get_or, length}
use borrow.Author.Tests.{eqb-true}
use Rattle.lists.specs.Lists.{some, keep, up_from}
use Rattle.lists.specs.Order.{AtMostAll, Ascending}
use Rattle.lists.proofs.Members.{some_of, of_some}
use Rattle.lists.proofs.Counts.{keep_same}
use Rattle.lists.proofs.Mapped.{each_of, each_sort_by, map_keep}
use Rattle.lists.proofs.Multiplicity.{some_sort_by, keep_sort_by}
use Rattle.lists.proofs.Sequences.{map_same}
use Rattle.lists.proofs.SortBy.{sort_by_ascending, ascending_sort_by}
use Rattle.components.specs.Table.{ComponentNumbers}
use Rattle.components.proofs.Once.{decides_same, decides_eqb}
use Rattle.components.proofs.Numbers.{number_in, number_own}
use Rattle.records.specs.Records.{record_before, sorted}
use Rattle.records.specs.Runs.{runs}
use Rattle.records.proofs.Comparing.{not_lex, record_order}
use Rattle.boundary_groups.specs.Groups.{all_places, groups}
use Rattle.boundary_groups.proofs.Together.{place_in, in_place, eqb_T}
use Rattle.boundary_groups.proofs.Numbered.{EndsOf, numbers_groups}
use Rattle.boundary_groups.proofs.ByNumber.{has_key, keys_below, runs_keys, runs_together}

pub map_map : {A B C : Type 0} (f : B → C) (g : A → B) (l : List A) → map f (map g l) ≡ map (λ x. f (g x)) l
map_map f g [] = refl
map_map f g (x ∷ l) = ap (λ z. f (g x) ∷ z) (map_map f g l)

module _ (number : ℕ → ℕ) where
  abbrev pub numbered : ℕ → ℕ × ℕ
  numbered j = (number j, j)

  -- the records with one key ascend by their payload
  module _ (r : ℕ) where
    abbrev kept : ℕ → ℕ → List (ℕ × ℕ)
    kept k d = keep (has_key r) (map numbered (up_from k d))

    later : (i k d : ℕ) → number i ≡ r → i < k → AtMostAll record_before (numbered i) (kept k d)
    unfolding up_from
    later i k zero e h = tt
    later i k (suc d) e h = go (eqb (number k) r) refl (later i (suc k) d e (omega arith))
      where
        go : (b : Bool) → eqb (number k) r ≡ b → AtMostAll record_before (numbered i) (kept (suc k) d)
            → AtMostAll record_before (numbered i) (cond b (numbered k ∷ kept (suc k) d) (kept (suc k) d))
        go true t rest =
            let q = eqb-true (number k) r t in
            (not_lex (numbered k) (numbered i) (⊎_elim (λ (x : number k < number i). omega arith) (λ (x : (number k ≡ number i) × (k < i)). omega (arith, x.1))), rest)
        go false t rest = rest

    kept_ascends : (k d : ℕ) → Ascending record_before (kept k d)
    unfolding up_from
    kept_ascends k zero = tt
    kept_ascends k (suc d) = go (eqb (number k) r) refl (kept_ascends (suc k) d)
      where
        go : (b : Bool) → eqb (number k) r ≡ b → Ascending record_before (kept (suc k) d) → Ascending record_before (cond b (numbered k ∷ kept (suc k) d) (kept (suc k) d))
        go true t rest = (later k (suc k) d (eqb-true (number k) r t) (omega arith), rest)
        go false t rest = rest

    kept_sorted : (n : ℕ) → keep (has_key r) (sorted (map numbered (up_from 0 n))) ≡ map numbered (keep (λ j. eqb (number j) r) (up_from 0 n))
    kept_sorted n =
        keep_sort_by record_before record_order (has_key r) (map numbered (up_from 0 n))
        ∙ sort_by_ascending record_before (kept 0 n) (kept_ascends 0 n)
        ∙ sym (map_keep numbered (λ j. eqb (number j) r) (has_key r) (up_from 0 n) (each_of (λ x. eqb (number x) r ≡ has_key r (numbered x)) (up_from 0 n) (λ x m. refl)))

module _ (es : List (ℕ × ℕ)) (labels : List ℕ) (E : EndsOf es labels) (c : List ℕ) (N : ComponentNumbers labels (length es) 2 c) where
  abbrev number : ℕ → ℕ
  number i = get_or c i 0

  abbrev pub unsorted : List (ℕ × ℕ)
  unsorted = map (numbered number) (all_places es)

  below : keys_below 0 (length es) (sorted unsorted)
  below =
      each_sort_by record_before (λ y. (0 ≤ y.0) × (y.0 < length es)) unsorted (each_of (λ y. (0 ≤ y.0) × (y.0 < length es)) unsorted (λ y m.
      let q = Memᴰ.of_map (numbered number) (all_places es) m in
      (omega arith, subst (λ (x : ℕ × ℕ). x.0 < length es) q.2 (number_in labels (length es) 2 c N q.0 (in_place es q.1)))))

  -- a number is a component's exactly if it is its own
  own : (r : ℕ) → r < length es → some (has_key r) (sorted unsorted) ≡ eqb (number r) r
  own r h =
      some_sort_by record_before (has_key r) unsorted
      ∙ decides_same (some (has_key r) unsorted) (eqb (number r) r) (record { sound = λ t. t; complete = λ t. t }) (decides_eqb (number r) r) from to
    where
      from : T (some (has_key r) unsorted) → number r ≡ r
      from t =
          let f = of_some (has_key r) unsorted t in
          let q = Memᴰ.of_map (numbered number) (all_places es) f.1 in
          let e : number q.0 ≡ r = ap (λ (x : ℕ × ℕ). x.0) q.2 ∙ eqb→eq f.0.0 r f.2 in
          sym (ap number e) ∙ number_own labels (length es) 2 c N q.0 (in_place es q.1) ∙ e

      to : number r ≡ r → T (some (has_key r) unsorted)
      to e = some_of (has_key r) (Memᴰ.map (numbered number) (place_in es h)) (eqb_T (number r) r e)

  pub sorted_runs : runs (sorted unsorted) ≡ map (map (numbered number)) (groups es)
  sorted_runs =
      runs_keys (length es) (sorted unsorted) (ascending_sort_by record_before record_order unsorted) below
      ∙ ap (map (λ r. keep (has_key r) (sorted unsorted)))
      (keep_same (λ r. some (has_key r) (sorted unsorted)) (λ r. eqb (number r) r) (all_places es) (λ r m. own r (in_place es m)))
      ∙ map_same (λ r. keep (has_key r) (sorted unsorted)) (λ r. map (numbered number) (keep (λ j. eqb (number j) r) (all_places es))) (keep (λ r. eqb (number r) r) (all_places es))
      (λ r m. kept_sorted number r (length es))
      ∙ sym (map_map (map (numbered number)) (λ r. keep (λ j. eqb (number j) r) (all_places es)) (keep (λ r. eqb (number r) r) (all_places es)))
      ∙ ap (map (map (numbered number))) (sym (numbers_groups es labels E c N))

  -- their payloads, through a function
  pub sorted_list : {A : Type 0} (f : ℕ → A) → map (λ r. f r.1) (sorted unsorted) ≡ flat_map (λ g. g) (map (map f) (groups es))
  unfolding flat_map
  sorted_list f =
      ap (map (λ r. f r.1)) (sym (runs_together (sorted unsorted)) ∙ ap (flat_map (λ g. g)) sorted_runs)
      ∙ map_flat (λ r. f r.1) (map (map (numbered number)) (groups es))
      ∙ ap (flat_map (λ g. g)) (map_map (map (λ r. f r.1)) (map (numbered number)) (groups es)
      ∙ map_same (λ g. map (λ r. f r.1) (map (numbered number) g)) (map f) (groups es) (λ g m. map_map (λ r. f r.1) (numbered number) g))
    where
      map_append : {A B : Type 0} (f : A → B) (l m : List A) → map f (l ++ m) ≡ map f l ++ map f m
      map_append f [] m = refl
      map_append f (x ∷ l) m = ap (λ z. f x ∷ z) (map_append f l m)

      map_flat : {A B : Type 0} (f : A → B) (l : List (List A)) → map f (flat_map (λ g. g) l) ≡ flat_map (λ g. g) (map (map f) l)
      map_flat f [] = refl
      map_flat f (g ∷ l) = map_append f g (flat_map (λ g. g) l) ∙ ap (λ z. map f g ++ z) (map_flat f l)
