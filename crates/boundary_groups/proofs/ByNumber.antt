-- Laws of records by runs: of records with keys below n, sorted, the runs are the records of each key that there is. Assumes nothing.
--   runs_keys        the runs of an ascending list, by the keys that it has
--   runs_together    the runs, one behind the other, are the list
use Prim.Native.Nat.{ℕ, suc, ◌+◌, ◌-◌, ◌≤◌, ◌<◌}
use native.Mathlib.Omega.{arith}
use mathlib.Core.Path.{◌≡◌, refl, sym, ap, ◌∙◌}
use mathlib.Core.Bool.{Bool, true, false, cond, ◌||◌}
use mathlib.Core.List.{List, [], ◌∷◌, ◌++◌, Memᴰ, map, flat_map}
use borrow.Author.Tests.{eq-eqb, ne_eqb}
use lib.Dec.{eqb}
use Rattle.lists.specs.Lists.{some, keep, up_from}
use Rattle.lists.specs.Order.{Ascending}
use Rattle.lists.proofs.Counts.{keep_append, keep_same}
use Rattle.lists.proofs.Mapped.{Each, each_of, each_map, keep_all, keep_none}
use Rattle.lists.proofs.Members.{of_keep}
use Rattle.lists.proofs.Multiplicity.{keep_yes}
use Rattle.lists.proofs.Places.{of_up}
use Rattle.lists.proofs.Sequences.{map_same, up_split, some_append}
use Rattle.records.specs.Records.{record_before}
use Rattle.records.specs.Runs.{runs, join_run}
use Rattle.records.proofs.ByRuns.{by_runs, runs_append, greater_other}

abbrev pub has_key : ℕ → ℕ × ℕ → Bool
has_key r y = eqb y.0 r

abbrev pub keys_below : ℕ → ℕ → List (ℕ × ℕ) → Type 0
keys_below b n l = Each (λ y. (b ≤ y.0) × (y.0 < n)) l

-- the keys from b on, of d numbers, that a list has
abbrev pub keys_of : List (ℕ × ℕ) → ℕ → ℕ → List ℕ
keys_of l b d = keep (λ r. some (has_key r) l) (up_from b d)

some_no : (r : ℕ) (l : List (ℕ × ℕ)) → Each (λ y. y.0 ≡ r → ⊥) l → some (has_key r) l ≡ false
some_no r [] e = refl
some_no r (y ∷ l) e = λ t. ne_eqb y.0 r e.0 t || some_no r l e.1 t

each_behind : {A : Type 0} (P : A → Type 0) (l m : List A) → Each P (l ++ m) → Each P m
each_behind P [] m e = e
each_behind P (x ∷ l) m e = each_behind P l m e.1

module _ (n : ℕ) where
  abbrev Cut : List (ℕ × ℕ) → Type 0
  Cut l = (b d : ℕ) → b + d ≡ n → keys_below b n l → runs l ≡ map (λ r. keep (has_key r) l) (keys_of l b d)

  cut_none : Cut []
  unfolding runs
  cut_none b d e f = sym (ap (map (λ r. keep (has_key r) [])) (keep_none (λ r. false) (up_from b d) (each_of (λ x. false ≡ false) (up_from b d) (λ x m. refl))))

  module _ (k : ℕ) (r : ℕ × ℕ) (run l : List (ℕ × ℕ)) (same : Each (λ y. y.0 ≡ k) (r ∷ run)) (later : Each (λ y. k < y.0) l) (ih : Cut l) where
    abbrev all : List (ℕ × ℕ)
    all = r ∷ run ++ l

    -- before k none has the key
    before : (b p : ℕ) → b + p ≡ k → keys_of all b p ≡ []
    before b p e =
        keep_none (λ q. some (has_key q) all) (up_from b p) (each_of (λ q. some (has_key q) all ≡ false) (up_from b p) (λ q m.
        let lo = (of_up b p m).1 in
        some_append (has_key q) (r ∷ run) l
        ∙ (λ t. some_no q (r ∷ run) (each_map (λ y. y.0 ≡ k) (λ y. y.0 ≡ q → ⊥) (λ y h z. omega arith) (r ∷ run) same) t
        || some_no q l (each_map (λ y. k < y.0) (λ y. y.0 ≡ q → ⊥) (λ y h z. omega arith) l later) t)))

    -- behind k they are those of l
    behind : (q : ℕ) → k < q → some (has_key q) all ≡ some (has_key q) l
    behind q lt =
        some_append (has_key q) (r ∷ run) l
        ∙ ap (λ (t : Bool). t || some (has_key q) l) (some_no q (r ∷ run) (each_map (λ y. y.0 ≡ k) (λ y. y.0 ≡ q → ⊥) (λ y h z. omega arith) (r ∷ run) same))

    keep_behind : (q : ℕ) → k < q → keep (has_key q) all ≡ keep (has_key q) l
    keep_behind q lt =
        keep_append (has_key q) (r ∷ run) l
        ∙ ap (λ (t : List (ℕ × ℕ)). t ++ keep (has_key q) l)
        (keep_none (has_key q) (r ∷ run) (each_map (λ y. y.0 ≡ k) (λ y. has_key q y ≡ false) (λ y h. ne_eqb y.0 q (λ z. omega arith)) (r ∷ run) same))

    keep_run : keep (has_key k) all ≡ r ∷ run
    keep_run =
        keep_append (has_key k) (r ∷ run) l
        ∙ (λ t. keep_all (has_key k) (r ∷ run) (each_map (λ y. y.0 ≡ k) (λ y. has_key k y ≡ true) (λ y h. eq-eqb y.0 k h) (r ∷ run) same) t
        ++ keep_none (has_key k) l (each_map (λ y. k < y.0) (λ y. has_key k y ≡ false) (λ y h. ne_eqb y.0 k (λ z. omega arith)) l later) t)
        ∙ append_nil (r ∷ run)
      where
        append_nil : (x : List (ℕ × ℕ)) → x ++ [] ≡ x
        append_nil [] = refl
        append_nil (y ∷ x) = ap (λ (z : List (ℕ × ℕ)). y ∷ z) (append_nil x)

    found : some (has_key k) all ≡ true
    found = ap (λ (t : Bool). t || some (has_key k) (run ++ l)) (eq-eqb r.0 k same.0)

    keys : (b p d : ℕ) → b + p ≡ k → keys_of all b (p + suc d) ≡ k ∷ keys_of l (suc k) d
    unfolding up_from
    keys b p d e =
        ap (keep (λ q. some (has_key q) all)) (up_split b p (suc d))
        ∙ keep_append (λ q. some (has_key q) all) (up_from b p) (up_from (b + p) (suc d))
        ∙ (λ t. before b p e t ++ keep (λ q. some (has_key q) all) (up_from (e t) (suc d)))
        ∙ keep_yes (λ q. some (has_key q) all) k (up_from (suc k) d) found
        ∙ ap (λ (z : List ℕ). k ∷ z) (keep_same (λ q. some (has_key q) all) (λ q. some (has_key q) l) (up_from (suc k) d) (λ q m. behind q (let a = (of_up (suc k) d m).0 in omega arith)))

    cut_more : Cut all
    cut_more b d e f =
        runs_append k r run l same (greater_other k l later)
        ∙ ap (λ (z : List (List (ℕ × ℕ))). (r ∷ run) ∷ z) (ih (suc k) rest (omega arith) bounds)
        ∙ (λ t. sym keep_run t ∷ shift t)
        ∙ ap (map (λ q. keep (has_key q) all)) (sym (keys b front rest (omega arith)))
        ∙ ap (λ (x : ℕ). map (λ q. keep (has_key q) all) (keys_of all b x)) (omega arith)
      where
        at_k : (b ≤ k) × (k < n)
        at_k = let h = f.0 in let q = same.0 in (omega arith, omega arith)

        front : ℕ
        front = k - b

        rest : ℕ
        rest = n - suc k

        bounds : keys_below (suc k) n l
        bounds = each_both (λ y. k < y.0) (λ y. (b ≤ y.0) × (y.0 < n)) (λ y. (suc k ≤ y.0) × (y.0 < n)) (λ y g h. (omega arith, h.1)) l later
            (each_behind (λ y. (b ≤ y.0) × (y.0 < n)) (r ∷ run) l f)
          where
            each_both : {A : Type 0} (P Q R : A → Type 0) → ((y : A) → P y → Q y → R y) → (l : List A) → Each P l → Each Q l → Each R l
            each_both P Q R g [] u v = tt
            each_both P Q R g (x ∷ l) u v = (g x u.0 v.0, each_both P Q R g l u.1 v.1)

        shift : map (λ q. keep (has_key q) l) (keys_of l (suc k) rest) ≡ map (λ q. keep (has_key q) all) (keys_of l (suc k) rest)
        shift = map_same (λ q. keep (has_key q) l) (λ q. keep (has_key q) all) (keys_of l (suc k) rest) (λ q m. sym (keep_behind q (beyond q m)))
          where
            beyond : (q : ℕ) → Memᴰ q (keys_of l (suc k) rest) → k < q
            beyond q m = let a = (of_up (suc k) rest (of_keep (λ r. some (has_key r) l) (up_from (suc k) rest) m).0).0 in omega arith

  pub runs_keys : (l : List (ℕ × ℕ)) → Ascending record_before l → keys_below 0 n l → runs l ≡ map (λ r. keep (has_key r) l) (keys_of l 0 n)
  runs_keys l a f = by_runs Cut cut_none cut_more l a 0 n (omega arith) f

pub runs_together : (l : List (ℕ × ℕ)) → flat_map (λ g. g) (runs l) ≡ l
unfolding runs join_run flat_map
runs_together [] = refl
runs_together (r ∷ l) = join r (runs l) ∙ ap (λ (z : List (ℕ × ℕ)). r ∷ z) (runs_together l)
  where
    join : (r : ℕ × ℕ) (gs : List (List (ℕ × ℕ))) → flat_map (λ g. g) (join_run r gs) ≡ r ∷ flat_map (λ g. g) gs
    join r [] = refl
    join r ([] ∷ rest) = refl
    join r ((q ∷ run) ∷ rest) = pick (eqb r.0 q.0)
      where
        pick : (b : Bool) → flat_map (λ g. g) (cond b ((r ∷ q ∷ run) ∷ rest) ((r ∷ []) ∷ (q ∷ run) ∷ rest)) ≡ r ∷ q ∷ run ++ flat_map (λ g. g) rest
        pick true = refl
        pick false = refl
