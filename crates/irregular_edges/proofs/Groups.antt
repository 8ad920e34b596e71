-- Runs of a list of records, and which of them are irregular, by keys and by where the sides begin. S is a list of sides. Assumes nothing.
--   same_way, irregular_in   records of sides that run the same way; `is_irregular` among records
--   irregular_run_lem          of records of one key each is irregular exactly if their run is
--   runs_keep              of an ascending list the runs of the irregular records are the irregular runs
use Prim.Native.Nat.{ℕ, ◌+◌, ◌≤◌, ◌<◌}
use mathlib.Core.Bool.{Bool, true, false, cond, ◌&&◌, ◌||◌}
use mathlib.Core.List.{List, [], ◌∷◌, ◌++◌}
use mathlib.Core.Path.{◌≡◌, refl, sym, ap, ◌∙◌}
use native.Mathlib.Omega.{arith}
use borrow.Author.Tests.{eq-eqb, ne_eqb, lt-ltb, le-ltb}
use lib.Dec.{eqb, ltb}
use lib.ListN.{length}
use Rattle.lists.specs.Lists.{keep, count}
use Rattle.lists.specs.Order.{Ascending}
use Rattle.lists.proofs.Bools.{and_stop, and_next, or_stop, or_next, eqb_sym}
use Rattle.lists.proofs.Counts.{keep_append, count_append, count_le, keep_same}
use Rattle.lists.proofs.Mapped.{Each, each_of, of_each, each_map, each_keep, keep_all, keep_none}
use Rattle.lists.proofs.Multiplicity.{more, count_cons, keep_yes, keep_no}
use Rattle.records.specs.Runs.{runs}
use Rattle.records.specs.Records.{record_before}
use Rattle.records.proofs.ByRuns.{runs_append, by_runs, greater_other}
use Rattle.edges.specs.Table.{same_record_key, side_of}
use Rattle.irregular_edges.specs.Listed.{irregular_run}

-- ---- counting in two parts, one of which has none
module _ (p : ℕ × ℕ → Bool) (r l : List (ℕ × ℕ)) where
  in_front : Each (λ y. p y ≡ false) l → count p (r ++ l) ≡ count p r
  in_front e = count_append p r l ∙ ap (λ (n : ℕ). count p r + n) (ap length (keep_none p l e)) ∙ all (count p r)
    where
      all : (n : ℕ) → n + 0 ≡ n
      all n = omega arith

  behind : Each (λ y. p y ≡ false) r → count p (r ++ l) ≡ count p l
  behind e = count_append p r l ∙ ap (λ (n : ℕ). n + count p l) (ap length (keep_none p r e)) ∙ none (count p l)
    where
      none : (n : ℕ) → 0 + n ≡ n
      none n = omega arith

keep_either : (p : ℕ × ℕ → Bool) (b : Bool) (l : List (ℕ × ℕ)) → Each (λ y. p y ≡ b) l → keep p l ≡ cond b l []
keep_either p true l e = keep_all p l e
keep_either p false l e = keep_none p l e

module _ (S : List (ℕ × ℕ)) where
  abbrev from : ℕ × ℕ → ℕ
  from r = (side_of S r).0

  abbrev pub same_way : ℕ × ℕ → ℕ × ℕ → Bool
  same_way r q = same_record_key r q && eqb (from r) (from q)

  unfoldable pub irregular_in : List (ℕ × ℕ) → ℕ × ℕ → Bool
  irregular_in l r = ltb 2 (count (same_record_key r) l) || ltb 1 (count (same_way r) l)

  -- ---- records of one key
  module _ (k : ℕ) where
    abbrev Keyed : List (ℕ × ℕ) → Type 0
    Keyed l = Each (λ (y : ℕ × ℕ). y.0 ≡ k) l

    all_same : (x : ℕ × ℕ) (l : List (ℕ × ℕ)) → x.0 ≡ k → Keyed l → count (same_record_key x) l ≡ length l
    all_same x l h e = ap length (keep_all (same_record_key x) l (each_map (λ y. y.0 ≡ k) (λ y. same_record_key x y ≡ true) (λ y g. eq-eqb x.0 y.0 (h ∙ sym g)) l e))

    way : (x y : ℕ × ℕ) → x.0 ≡ k → y.0 ≡ k → same_way x y ≡ eqb (from x) (from y)
    way x y h g = and_next (same_record_key x y) (eqb (from x) (from y)) (eqb (from x) (from y)) (eq-eqb x.0 y.0 (h ∙ sym g)) refl

    -- of two
    two : (x a b : ℕ × ℕ) (s t : Bool) → same_way x a ≡ s → same_way x b ≡ t → count (same_way x) (a ∷ b ∷ []) ≡ more s (more t 0)
    two x a b s t e g = count_cons (same_way x) a (b ∷ []) ∙ (λ u. more (e u) ((count_cons (same_way x) b [] ∙ (λ v. more (g v) 0)) u))

    first_of_two : (t : Bool) → ltb 1 (more true (more t 0)) ≡ t
    first_of_two true = lt-ltb 1 2 (omega arith)
    first_of_two false = le-ltb 1 1 (omega arith)

    second_of_two : (t : Bool) → ltb 1 (more t (more true 0)) ≡ t
    second_of_two true = lt-ltb 1 2 (omega arith)
    second_of_two false = le-ltb 1 1 (omega arith)

    short : (x : ℕ × ℕ) (l : List (ℕ × ℕ)) → length l ≤ 2 → (b : Bool) → ltb 1 (count (same_way x) l) ≡ b → irregular_in l x ≡ b
    unfolding irregular_in
    short x l h b e =
        or_next (ltb 2 (count (same_record_key x) l)) (ltb 1 (count (same_way x) l)) b (le-ltb 2 (count (same_record_key x) l) (omega (arith, count_le (same_record_key x) l, h))) e

    long : (a b c : ℕ × ℕ) (l : List (ℕ × ℕ)) → Keyed (a ∷ b ∷ c ∷ l) → (x : ℕ × ℕ) → x.0 ≡ k → irregular_in (a ∷ b ∷ c ∷ l) x ≡ true
    unfolding irregular_in
    long a b c l e x h =
        or_stop (ltb 2 (count (same_record_key x) (a ∷ b ∷ c ∷ l))) (ltb 1 (count (same_way x) (a ∷ b ∷ c ∷ l)))
        (lt-ltb 2 (count (same_record_key x) (a ∷ b ∷ c ∷ l)) (omega (arith, all_same x (a ∷ b ∷ c ∷ l) h e)))

    pub irregular_run_lem : (l : List (ℕ × ℕ)) → Keyed l → Each (λ x. irregular_in l x ≡ irregular_run S l) l
    unfolding irregular_run
    irregular_run_lem [] e = tt
    irregular_run_lem (a ∷ []) e =
        (short a (a ∷ []) (omega arith) false (le-ltb 1 (count (same_way a) (a ∷ [])) (omega (arith, count_le (same_way a) (a ∷ [])))), tt)
    irregular_run_lem (a ∷ b ∷ []) e = (
      short a (a ∷ b ∷ []) (omega arith) (eqb (from a) (from b))
          (ap (ltb 1) (two a a b true (eqb (from a) (from b)) (way a a e.0 e.0 ∙ eq-eqb (from a) (from a) refl) (way a b e.0 e.1.0))
          ∙ first_of_two (eqb (from a) (from b))),
      (
        short b (a ∷ b ∷ []) (omega arith) (eqb (from a) (from b))
            (ap (ltb 1) (two b a b (eqb (from a) (from b)) true (way b a e.1.0 e.0 ∙ eqb_sym (from b) (from a)) (way b b e.1.0 e.1.0 ∙ eq-eqb (from b) (from b) refl))
            ∙ second_of_two (eqb (from a) (from b))),
        tt,
      ),
    )
    irregular_run_lem (a ∷ b ∷ c ∷ l) e = each_map (λ x. x.0 ≡ k) (λ x. irregular_in (a ∷ b ∷ c ∷ l) x ≡ true) (long a b c l e) (a ∷ b ∷ c ∷ l) e

  -- ---- a run in front of greater keys
  apart : (x y : ℕ × ℕ) → (x.0 ≡ y.0 → ⊥) → (same_record_key x y ≡ false) × (same_way x y ≡ false)
  apart x y h = (ne_eqb x.0 y.0 h, and_stop (same_record_key x y) (eqb (from x) (from y)) (ne_eqb x.0 y.0 h))

  module _ (k : ℕ) (r l : List (ℕ × ℕ)) (same : Each (λ y. y.0 ≡ k) r) (later : Each (λ y. k < y.0) l) where
    of_run : (x : ℕ × ℕ) → x.0 ≡ k → irregular_in (r ++ l) x ≡ irregular_in r x
    unfolding irregular_in
    of_run x h =
        λ t. ltb 2 (in_front (same_record_key x) r l (each_map (λ y. k < y.0) (λ y. same_record_key x y ≡ false) (λ y g. (apart x y (λ z. omega arith)).0) l later) t)
        || ltb 1 (in_front (same_way x) r l (each_map (λ y. k < y.0) (λ y. same_way x y ≡ false) (λ y g. (apart x y (λ z. omega arith)).1) l later) t)

    of_rest : (x : ℕ × ℕ) → k < x.0 → irregular_in (r ++ l) x ≡ irregular_in l x
    unfolding irregular_in
    of_rest x h =
        λ t. ltb 2 (behind (same_record_key x) r l (each_map (λ y. y.0 ≡ k) (λ y. same_record_key x y ≡ false) (λ y g. (apart x y (λ z. omega arith)).0) r same) t)
        || ltb 1 (behind (same_way x) r l (each_map (λ y. y.0 ≡ k) (λ y. same_way x y ≡ false) (λ y g. (apart x y (λ z. omega arith)).1) r same) t)

    parts : keep (irregular_in (r ++ l)) (r ++ l) ≡ cond (irregular_run S r) r [] ++ keep (irregular_in l) l
    parts =
        keep_append (irregular_in (r ++ l)) r l
        ∙ (λ t. keep_either (irregular_in (r ++ l)) (irregular_run S r) r one t ++ keep_same (irregular_in (r ++ l)) (irregular_in l) l (λ x m. of_rest x (of_each (λ y. k < y.0) m later)) t)
      where
        one : Each (λ y. irregular_in (r ++ l) y ≡ irregular_run S r) r
        one =
            each_of (λ y. irregular_in (r ++ l) y ≡ irregular_run S r) r (λ x m.
            of_run x (of_each (λ y. y.0 ≡ k) m same) ∙ of_each (λ y. irregular_in r y ≡ irregular_run S r) m (irregular_run_lem k r same))

  pub runs_keep : (l : List (ℕ × ℕ)) → Ascending record_before l → runs (keep (irregular_in l) l) ≡ keep (irregular_run S) (runs l)
  unfolding runs
  runs_keep =
      by_runs (λ l. runs (keep (irregular_in l) l) ≡ keep (irregular_run S) (runs l)) refl (λ k r run l same later ih.
      ap runs (parts k (r ∷ run) l same later) ∙ either k r run l same later ih (irregular_run S (r ∷ run)) refl
      ∙ ap (keep (irregular_run S)) (sym (runs_append k r run l same (greater_other k l later))))
    where
      either : (k : ℕ) (r : ℕ × ℕ) (run l : List (ℕ × ℕ)) → Each (λ y. y.0 ≡ k) (r ∷ run) → Each (λ y. k < y.0) l
          → runs (keep (irregular_in l) l) ≡ keep (irregular_run S) (runs l) → (b : Bool) → irregular_run S (r ∷ run) ≡ b
          → runs (cond b (r ∷ run) [] ++ keep (irregular_in l) l) ≡ keep (irregular_run S) ((r ∷ run) ∷ runs l)
      either k r run l same later ih true e =
          runs_append k r run (keep (irregular_in l) l) same (greater_other k (keep (irregular_in l) l) (each_keep (irregular_in l) (λ y. k < y.0) l later))
          ∙ ap (λ (m : List (List (ℕ × ℕ))). (r ∷ run) ∷ m) ih ∙ sym (keep_yes (irregular_run S) (r ∷ run) (runs l) e)
      either k r run l same later ih false e = ih ∙ sym (keep_no (irregular_run S) (r ∷ run) (runs l) e)
