-- Records whose key stands once are the runs of one record. Assumes nothing.
--   single run      a run of one record, else nothing
--   runs_open       of a sorted list these are the records whose key stands once
use Prim.Native.Nat.{ℕ, ◌+◌, ◌<◌}
use mathlib.Core.Bool.{Bool, true, false, cond}
use mathlib.Core.List.{List, [], ◌∷◌, ◌++◌, flat_map}
use mathlib.Core.Path.{◌≡◌, refl, sym, ap, ◌∙◌}
use native.Mathlib.Omega.{arith}
use borrow.Author.Tests.{eq-eqb, ne_eqb}
use lib.Dec.{eqb}
use lib.ListN.{length}
use Rattle.lists.specs.Lists.{keep, count}
use Rattle.lists.specs.Order.{Ascending}
use Rattle.lists.proofs.Counts.{keep_append, count_append, keep_same}
use Rattle.lists.proofs.Mapped.{Each, each_map, of_each, keep_all, keep_none}
use Rattle.records.specs.Runs.{runs}
use Rattle.records.specs.Records.{record_before}
use Rattle.records.proofs.ByRuns.{runs_append, by_runs, greater_other}
use Rattle.edges.specs.Table.{same_record_key, open_records}

abbrev pub single : List (ℕ × ℕ) → List (ℕ × ℕ)
single run = cond (eqb (length run) 1) run []

-- how often a key stands in a list of another key, and of no other
count_other : (x : ℕ × ℕ) (l : List (ℕ × ℕ)) → Each (λ y. x.0 ≡ y.0 → ⊥) l → count (same_record_key x) l ≡ 0
count_other x l e = ap length (keep_none (same_record_key x) l (each_map (λ y. x.0 ≡ y.0 → ⊥) (λ y. same_record_key x y ≡ false) (λ y h. ne_eqb x.0 y.0 h) l e))

count_same : (x : ℕ × ℕ) (l : List (ℕ × ℕ)) → Each (λ y. y.0 ≡ x.0) l → count (same_record_key x) l ≡ length l
count_same x l e = ap length (keep_all (same_record_key x) l (each_map (λ y. y.0 ≡ x.0) (λ y. same_record_key x y ≡ true) (λ y h. eq-eqb x.0 y.0 (sym h)) l e))

keep_either : (p : ℕ × ℕ → Bool) (b : Bool) (l : List (ℕ × ℕ)) → Each (λ y. p y ≡ b) l → keep p l ≡ cond b l []
keep_either p true l e = keep_all p l e
keep_either p false l e = keep_none p l e

-- a run in front of greater keys
module _ (k : ℕ) (r l : List (ℕ × ℕ)) (same : Each (λ y. y.0 ≡ k) r) (later : Each (λ y. k < y.0) l) where
  once : ℕ × ℕ → Bool
  once x = eqb (count (same_record_key x) (r ++ l)) 1

  in_run : Each (λ x. once x ≡ eqb (length r) 1) r
  unfolding once
  in_run =
      each_map (λ x. x.0 ≡ k) (λ x. once x ≡ eqb (length r) 1) (λ x h.
      ap (λ (n : ℕ). eqb n 1)
      (count_append (same_record_key x) r l
      ∙ (λ t. count_same x r (each_map (λ y. y.0 ≡ k) (λ y. y.0 ≡ x.0) (λ y g. g ∙ sym h) r same) t
      + count_other x l (each_map (λ y. k < y.0) (λ y. x.0 ≡ y.0 → ⊥) (λ y g z. omega arith) l later) t)
      ∙ all (length r))) r same
    where
      all : (n : ℕ) → n + 0 ≡ n
      all n = omega arith

  behind : (x : ℕ × ℕ) → k < x.0 → once x ≡ eqb (count (same_record_key x) l) 1
  unfolding once
  behind x h =
      ap (λ (n : ℕ). eqb n 1)
      (count_append (same_record_key x) r l
      ∙ ap (λ (n : ℕ). n + count (same_record_key x) l) (count_other x r (each_map (λ y. y.0 ≡ k) (λ y. x.0 ≡ y.0 → ⊥) (λ y g z. omega arith) r same))
      ∙ none (count (same_record_key x) l))
    where
      none : (n : ℕ) → 0 + n ≡ n
      none n = omega arith

  open_append : open_records (r ++ l) ≡ single r ++ open_records l
  unfolding open_records once
  open_append =
      keep_append once r l
      ∙ (λ t. keep_either once (eqb (length r) 1) r in_run t ++ keep_same once (λ x. eqb (count (same_record_key x) l) 1) l (λ x m. behind x (of_each (λ y. k < y.0) m later)) t)

pub runs_open : (l : List (ℕ × ℕ)) → Ascending record_before l → flat_map single (runs l) ≡ open_records l
unfolding flat_map runs open_records
runs_open =
    by_runs (λ l. flat_map single (runs l) ≡ open_records l) refl (λ k r run l same later ih.
    ap (flat_map single) (runs_append k r run l same (greater_other k l later)) ∙ ap (λ (m : List (ℕ × ℕ)). single (r ∷ run) ++ m) ih
    ∙ sym (open_append k (r ∷ run) l same later))
