-- Laws of runs, and of a loop that goes from run to run. Assumes nothing.
--   runs_append          a run in front of a list that begins with another key
--   run_cut              what `run_end` found by comparing keys is a run
--   runs_nil, run_at     no records; the run at a place of words that are as they were;   first_key_lem   the key of a run in words
--   KeysPart, part_start, part_next, run_first   from run to run of ascending keys; the first of a key is where its run begins
--   put_none, put_more   a word by the payload of each record
--   by_runs              what holds of no records, and with one run more in front of greater keys, holds of every ascending list
--   runs_distinct        the keys of the runs of an ascending list are its different keys
use Prim.Native.Nat.{ℕ, zero, suc, ◌+◌, ◌*◌, ◌-◌, ◌≤◌, ◌<◌}
use mathlib.Core.Bool.{Bool, true, false, cond, ◌||◌}
use mathlib.Core.List.{List, [], ◌∷◌, ◌++◌, map}
use mathlib.Core.Logic.{◌⊎◌, inl, inr, ⊎_elim}
use mathlib.Core.Path.{◌≡◌, refl, sym, ap, subst, ◌∙◌}
use native.Mathlib.Decide.{ℕ_discrete}
use native.Mathlib.Omega.{arith}
use borrow.Author.Tests.{eqb-true, eqb-false, eq-eqb, ne_eqb}
use lib.Dec.{eqb}
use lib.ListN.{length, get_or, set, length-set}
use lib.Seq.{get_or-set_same, get_or-set_other}
use Rattle.lists.specs.Lists.{some, distinct, distinct_from}
use Rattle.lists.specs.Order.{AtMostAll, Ascending}
use Rattle.lists.proofs.Mapped.{Each, each_map, each_places}
use Rattle.lists.proofs.Orders.{cases}
use Rattle.records.specs.Buffer.{records_at, key_in, payload_in}
use Rattle.records.specs.Runs.{join_run, runs, first_key, Run, FirstOf, PayloadsPut}
use Rattle.records.specs.Records.{record_before}
use Rattle.records.proofs.Comparing.{at_most_key}
use Rattle.records.proofs.Records.{le_or_lt, length_records_at, records_at_get, records_at_add, records_at_same}

-- ---- a run in front
pub record Headed (q : ℕ × ℕ) (l : List (ℕ × ℕ)) : Type 0 where
  pub run : List (ℕ × ℕ)
  pub rest : List (List (ℕ × ℕ))
  pub is : runs (q ∷ l) ≡ (q ∷ run) ∷ rest

headed : (q : ℕ × ℕ) (l : List (ℕ × ℕ)) → Headed q l
unfolding runs join_run
headed q [] = record { run = []; rest = []; is = refl }
headed q (p ∷ l) = let h = headed p l in go h.run h.rest h.is (eqb q.0 p.0) refl
  where
    go : (run : List (ℕ × ℕ)) (rest : List (List (ℕ × ℕ))) → runs (p ∷ l) ≡ (p ∷ run) ∷ rest → (b : Bool) → eqb q.0 p.0 ≡ b → Headed q (p ∷ l)
    go run rest e true t =
        record { run = p ∷ run; rest = rest; is = ap (join_run q) e ∙ ap (λ (b : Bool). cond b ((q ∷ p ∷ run) ∷ rest) ((q ∷ []) ∷ (p ∷ run) ∷ rest)) t }
    go run rest e false t =
        record { run = []; rest = (p ∷ run) ∷ rest; is = ap (join_run q) e ∙ ap (λ (b : Bool). cond b ((q ∷ p ∷ run) ∷ rest) ((q ∷ []) ∷ (p ∷ run) ∷ rest)) t }

-- the first of a list, if there is one, has another key
abbrev pub Other : ℕ → List (ℕ × ℕ) → Type 0
Other k [] = Unit {0}
Other k (q ∷ l) = k ≡ q.0 → ⊥

pub runs_append : (k : ℕ) (r : ℕ × ℕ) (run l : List (ℕ × ℕ)) → Each (λ y. y.0 ≡ k) (r ∷ run) → Other k l → runs (r ∷ run ++ l) ≡ (r ∷ run) ∷ runs l
unfolding runs join_run
runs_append k r [] [] e o = refl
runs_append k r [] (q ∷ l) e o =
    let h = headed q l in
    ap (join_run r) h.is ∙ ap (λ (b : Bool). cond b ((r ∷ q ∷ h.run) ∷ h.rest) ((r ∷ []) ∷ (q ∷ h.run) ∷ h.rest)) (ne_eqb r.0 q.0 (λ z. o (sym e.0 ∙ z)))
    ∙ ap (λ (s : List (List (ℕ × ℕ))). (r ∷ []) ∷ s) (sym h.is)
runs_append k r (q ∷ run) l e o =
    ap (join_run r) (runs_append k q run l e.1 o)
    ∙ ap (λ (b : Bool). cond b ((r ∷ q ∷ run) ∷ runs l) ((r ∷ []) ∷ (q ∷ run) ∷ runs l)) (eq-eqb r.0 q.0 (e.0 ∙ sym e.1.0))

-- ---- in words
other_at : (m : List ℕ) (at n k : ℕ) → (0 < n → k ≡ get_or m at 0 → ⊥) → Other k (records_at m at n)
unfolding records_at
other_at m at zero k f = tt
other_at m at (suc n) k f = f (omega arith)

module _ (m : List ℕ) (at n i e : ℕ) where
  pub record Same : Type 0 where
    pub more : i < e
    pub within : e ≤ n
    pub same : (j : ℕ) → i ≤ j → j < e → get_or m (at + 2 * j) 0 ≡ get_or m (at + 2 * i) 0

  pub run_cut : Same → (e < n → get_or m (at + 2 * e) 0 ≡ get_or m (at + 2 * i) 0 → ⊥) → Run m at n i e
  run_cut s next =
      record {
        more = s.more;
        within = s.within;
        same = s.same;
        next = next;
        cut = ap runs (parts ∙ ap (λ (a : ℕ). records_at m (at + 2 * i) (e - i) ++ records_at m a (n - e)) behind)
            ∙ together (records_at m (at + 2 * i) (e - i)) (records_at m (at + 2 * e) (n - e)) (omega (arith, s.more, length_records_at m (at + 2 * i) (e - i))) same_keys
            (other_at m (at + 2 * e) (n - e) (get_or m (at + 2 * i) 0) (λ h z. next (omega arith) (sym z)));
      }
    where
      split : (i e n : ℕ) → i < e → e ≤ n → n - i ≡ e - i + (n - e)
      split i e n h k = omega arith

      parts : records_at m (at + 2 * i) (n - i) ≡ records_at m (at + 2 * i) (e - i) ++ records_at m (at + 2 * i + 2 * (e - i)) (n - e)
      parts = ap (records_at m (at + 2 * i)) (split i e n s.more s.within) ∙ records_at_add m (at + 2 * i) (e - i) (n - e)

      behind : at + 2 * i + 2 * (e - i) ≡ at + 2 * e
      behind = omega (arith, s.more)

      same_keys : Each (λ y. y.0 ≡ get_or m (at + 2 * i) 0) (records_at m (at + 2 * i) (e - i))
      same_keys =
          each_places (λ y. y.0 ≡ get_or m (at + 2 * i) 0) (0, 0) (records_at m (at + 2 * i) (e - i)) (λ j h.
          let j< : j < e - i = omega (arith, length_records_at m (at + 2 * i) (e - i)) in
          ap (λ (r : ℕ × ℕ). r.0) (records_at_get m (at + 2 * i) (e - i) j j<) ∙ ap (λ (a : ℕ). get_or m a 0) (twice at i j) ∙ s.same (i + j) (omega arith) (omega arith))
        where
          twice : (at i j : ℕ) → at + 2 * i + 2 * j ≡ at + 2 * (i + j)
          twice at i j = omega arith

      together : (l r : List (ℕ × ℕ)) → 0 < length l → Each (λ y. y.0 ≡ get_or m (at + 2 * i) 0) l → Other (get_or m (at + 2 * i) 0) r → runs (l ++ r) ≡ l ∷ runs r
      together [] r h f o = absurd (omega arith)
      together (x ∷ l) r h f o = runs_append (get_or m (at + 2 * i) 0) x l r f o

pub same_start : (m : List ℕ) (at n i : ℕ) → i < n → Same m at n i (i + 1)
same_start m at n i h =
    record { more = omega arith; within = omega arith; same = λ j a b. ap (λ (k : ℕ). get_or m (at + 2 * k) 0) (only j a b) }
  where
    only : (j : ℕ) → i ≤ j → j < i + 1 → j ≡ i
    only j a b = omega arith

pub same_more : (m : List ℕ) (at n i e : ℕ) → Same m at n i e → e < n → get_or m (at + 2 * e) 0 ≡ get_or m (at + 2 * i) 0 → Same m at n i (e + 1)
same_more m at n i e s h q =
    record {
      more =
          omega (arith, s.more);
      within = omega arith;
      same = λ j a b. ⊎_elim (λ (g : j < e). s.same j a g) (λ (g : j ≡ e). ap (λ (k : ℕ). get_or m (at + 2 * k) 0) g ∙ q) (which j b);
    }
  where
    which : (j : ℕ) → j < e + 1 → (j < e) ⊎ (j ≡ e)
    which j b = ⊎_elim (λ (g : e ≤ j). inr (omega arith)) (λ (g : j < e). inl g) (le_or_lt e j)

pub runs_nil : (m : List ℕ) (at k : ℕ) → k ≡ 0 → runs (records_at m at k) ≡ []
unfolding runs records_at
runs_nil m at zero e = refl
runs_nil m at (suc k) e = absurd (omega arith)

-- the run at a place, where the words from it on are as they were
pub run_at : (m₀ m : List ℕ) (at n i e : ℕ) → Run m at n i e → ((x : ℕ) → at + 2 * i ≤ x → x < at + 2 * n → get_or m x 0 ≡ get_or m₀ x 0) → Run m₀ at n i e
run_at m₀ m at n i e r f =
    record {
      more = r.more;
      within = r.within;
      same = λ j a b. sym (key j a (omega (arith, r.within))) ∙ r.same j a b ∙ key i (omega arith) (omega (arith, r.more, r.within));
      next = λ h z. r.next h (key e (omega (arith, r.more)) h ∙ z ∙ sym (key i (omega arith) (omega arith)));
      cut = ap runs (sym (there i (n - i) (omega arith) (omega (arith, r.more, r.within)))) ∙ r.cut
          ∙ (λ t. there i (e - i) (omega arith) (omega (arith, r.more, r.within)) t ∷ runs (there e (n - e) (omega (arith, r.more)) (omega (arith, r.within)) t));
    }
  where
    key : (j : ℕ) → i ≤ j → j < n → get_or m (at + 2 * j) 0 ≡ get_or m₀ (at + 2 * j) 0
    key j a b = f (at + 2 * j) (omega arith) (omega arith)

    there : (j k : ℕ) → i ≤ j → j + k ≤ n → records_at m (at + 2 * j) k ≡ records_at m₀ (at + 2 * j) k
    there j k a b = records_at_same m₀ m (at + 2 * j) k (λ x h. f (at + 2 * j + x) (omega arith) (omega arith))

-- ---- a loop from run to run of records with ascending keys: those before place i have lesser keys than those from it on
abbrev pub KeysAscend : List ℕ → ℕ → ℕ → Type 0
KeysAscend m at n = (i j : ℕ) → i ≤ j → j < n → key_in m at i ≤ key_in m at j

abbrev pub KeysPart : List ℕ → ℕ → ℕ → ℕ → Type 0
KeysPart m at n i = (j k : ℕ) → j < i → i ≤ k → k < n → key_in m at j < key_in m at k

pub part_start : (m : List ℕ) (at n : ℕ) → KeysPart m at n 0
part_start m at n j k h l g = absurd (omega arith)

module _ (m : List ℕ) (at n i e : ℕ) (r : Run m at n i e) (p : KeysPart m at n i) where
  pub run_first : (j : ℕ) → i ≤ j → j < e → FirstOf m at j i
  run_first j l h =
      record { low = l; same = sym (r.same j l h); none = λ k g q. let x = p k j g l (omega (arith, r.within)) in omega arith }

  pub part_next : KeysAscend m at n → KeysPart m at n e
  part_next a j k h l g =
      ⊎_elim
      (λ (q : i ≤ j).
      let x = r.same j q h in
      let y : key_in m at i ≤ key_in m at e = a i e (omega (arith, r.more)) (omega arith) in
      let z = a e k l g in
      let ne : (key_in m at e ≡ key_in m at i → ⊥) = r.next (omega arith) in
      omega arith)
      (λ (q : j < i). p j k q (omega (arith, r.more)) g) (le_or_lt i j)

-- ---- a word by the payload of each record
module _ (m₀ : List ℕ) (at to i x : ℕ) where
  pub put_none : PayloadsPut m₀ m₀ at to i i x
  put_none = record { long = refl; put = λ j l h. absurd (omega arith); rest = λ y f. refl }

  module _ (m : List ℕ) (e : ℕ) (r : PayloadsPut m₀ m at to i e x) (begun : i ≤ e) (behind : at + 2 * e + 1 < to) where
    -- the records stand before the words
    pub payload_now : payload_in m at e ≡ payload_in m₀ at e
    payload_now = r.rest (at + 2 * e + 1) (λ j l h q. omega arith)

    pub put_more : to + payload_in m₀ at e < length m₀ → PayloadsPut m₀ (set m (to + payload_in m at e) x) at to i (e + 1) x
    put_more room =
        subst (λ (y : ℕ). PayloadsPut m₀ (set m (to + y) x) at to i (e + 1) x) (sym payload_now)
        (record {
          long = length-set m place x ∙ r.long;
          put = λ j l h. each j l h (ℕ_discrete (payload_in m₀ at j) (payload_in m₀ at e));
          rest = λ y f. get_or-set_other m place y x 0 (f e begun (omega arith)) ∙ r.rest y (λ j l h. f j l (omega arith));
        })
      where
        place : ℕ
        place = to + payload_in m₀ at e

        each : (j : ℕ) → i ≤ j → j < e + 1 → Dec (payload_in m₀ at j ≡ payload_in m₀ at e) → get_or (set m place x) (to + payload_in m₀ at j) 0 ≡ x
        each j l h (yes q) = ap (λ (y : ℕ). get_or (set m place x) (to + y) 0) q ∙ get_or-set_same m place x 0 (omega (arith, r.long))
        each j l h (no n) =
            get_or-set_other m place (to + payload_in m₀ at j) x 0 (λ q. n (omega arith)) ∙ r.put j l (before (λ q. n (ap (payload_in m₀ at) q)) h)
          where
            before : (j ≡ e → ⊥) → j < e + 1 → j < e
            before n h = omega arith

-- ---- of ascending lists
at_most_each : (r : ℕ × ℕ) (l : List (ℕ × ℕ)) → AtMostAll record_before r l → Each (λ y. r.0 ≤ y.0) l
at_most_each r [] h = tt
at_most_each r (y ∷ l) h = (at_most_key r y h.0, at_most_each r l h.1)

module _ (P : List (ℕ × ℕ) → Type 0) (none : P [])
    (more : (k : ℕ) (r : ℕ × ℕ) (run l : List (ℕ × ℕ)) → Each (λ y. y.0 ≡ k) (r ∷ run) → Each (λ y. k < y.0) l → P l → P (r ∷ run ++ l)) where
  record Parted (r : ℕ × ℕ) (l : List (ℕ × ℕ)) : Type 0 where
    run : List (ℕ × ℕ)
    rest : List (ℕ × ℕ)
    is : r ∷ l ≡ r ∷ run ++ rest
    same : Each (λ y. y.0 ≡ r.0) (r ∷ run)
    later : Each (λ y. r.0 < y.0) rest
    holds : P rest

  whole : (r : ℕ × ℕ) (l : List (ℕ × ℕ)) → Parted r l → P (r ∷ l)
  whole r l p = subst P (sym p.is) (more r.0 r p.run p.rest p.same p.later p.holds)

  parted : (r : ℕ × ℕ) (l : List (ℕ × ℕ)) → Ascending record_before (r ∷ l) → Parted r l
  parted r [] a = record { run = []; rest = []; is = refl; same = (refl, tt); later = tt; holds = none }
  parted r (q ∷ l) a = go (parted q l a.1) (cases (eqb r.0 q.0))
    where
      go : Parted q l → (eqb r.0 q.0 ≡ true) ⊎ (eqb r.0 q.0 ≡ false) → Parted r (q ∷ l)
      go p (inl t) =
          let e = eqb-true r.0 q.0 t in
          record {
            run = q ∷ p.run;
            rest = p.rest;
            is = ap (λ (s : List (ℕ × ℕ)). r ∷ s) p.is;
            same = (refl, each_map (λ y. y.0 ≡ q.0) (λ y. y.0 ≡ r.0) (λ y h. h ∙ sym e) (q ∷ p.run) p.same);
            later = each_map (λ y. q.0 < y.0) (λ y. r.0 < y.0) (λ y h. omega arith) p.rest p.later;
            holds = p.holds;
          }
      go p (inr t) =
          let ne = eqb-false r.0 q.0 t in
          let le = at_most_key r q a.0.0 in
          let least = at_most_each q l a.1.0 in
          record {
            run = [];
            rest = q ∷ l;
            is = refl;
            same = (refl, tt);
            later = (omega arith, each_map (λ y. q.0 ≤ y.0) (λ y. r.0 < y.0) (λ y h. omega arith) l least);
            holds = whole q l p;
          }

  pub by_runs : (l : List (ℕ × ℕ)) → Ascending record_before l → P l
  by_runs [] a = none
  by_runs (r ∷ l) a = whole r l (parted r l a)

pub greater_other : (k : ℕ) (l : List (ℕ × ℕ)) → Each (λ y. k < y.0) l → Other k l
greater_other k [] h = tt
greater_other k (q ∷ l) h = λ e. omega (arith, h.0)

-- ---- different keys
seen_less : (y : ℕ) (seen : List ℕ) → Each (λ s. s < y) seen → some (eqb y) seen ≡ false
seen_less y [] e = refl
seen_less y (s ∷ seen) e = λ t. ne_eqb y s (λ q. omega (arith, e.0)) t || seen_less y seen e.1 t

-- the numbers seen are all less than each key of a list
abbrev Past : List ℕ → List (ℕ × ℕ) → Type 0
Past seen l = Each (λ y. Each (λ s. s < y.0) seen) l

past_more : (k : ℕ) (seen : List ℕ) (l : List (ℕ × ℕ)) → Each (λ y. k < y.0) l → Past seen l → Past (k ∷ seen) l
past_more k seen [] a b = tt
past_more k seen (y ∷ l) a b = ((a.0, b.0), past_more k seen l a.1 b.1)

past_behind : (seen : List ℕ) (r l : List (ℕ × ℕ)) → Past seen (r ++ l) → Past seen l
past_behind seen [] l h = h
past_behind seen (x ∷ r) l h = past_behind seen r l h.1

abbrev Differ : List (ℕ × ℕ) → Type 0
Differ l = (seen : List ℕ) → Past seen l → map first_key (runs l) ≡ distinct_from eqb seen (map (λ r. r.0) l)

-- the rest of a run adds no key
run_seen : (k : ℕ) (run l : List (ℕ × ℕ)) (seen : List ℕ) → Each (λ y. y.0 ≡ k) run → Each (λ y. k < y.0) l → some (eqb k) seen ≡ true → Past seen l → Differ l
    → map first_key (runs l) ≡ distinct_from eqb seen (map (λ r. r.0) (run ++ l))
unfolding distinct_from
run_seen k [] l seen same later has past ih = ih seen past
run_seen k (q ∷ run) l seen same later has past ih =
    run_seen k run l (q.0 ∷ seen) same.1 later (ap (λ (b : Bool). b || some (eqb k) seen) (eq-eqb k q.0 (sym same.0)))
    (past_more q.0 seen l (each_map (λ y. k < y.0) (λ y. q.0 < y.0) (λ y h. omega (arith, same.0)) l later) past) ih
    ∙ ap (λ (b : Bool). cond b (rest q.0) (q.0 ∷ rest q.0)) (sym (ap (λ (x : ℕ). some (eqb x) seen) same.0 ∙ has))
  where
    rest : ℕ → List ℕ
    rest x = distinct_from eqb (x ∷ seen) (map (λ r. r.0) (run ++ l))

pub runs_distinct : (l : List (ℕ × ℕ)) → Ascending record_before l → map first_key (runs l) ≡ distinct eqb (map (λ r. r.0) l)
unfolding distinct_from runs
runs_distinct l a = by_runs Differ (λ seen h. refl) more l a [] (nothing l)
  where
    more : (k : ℕ) (r : ℕ × ℕ) (run l : List (ℕ × ℕ)) → Each (λ y. y.0 ≡ k) (r ∷ run) → Each (λ y. k < y.0) l → Differ l → Differ (r ∷ run ++ l)
    more k r run l same later ih seen past =
        ap (map first_key) (runs_append k r run l same (greater_other k l later))
        ∙ ap (λ (m : List ℕ). r.0 ∷ m)
        (run_seen k run l (r.0 ∷ seen) same.1 later (ap (λ (b : Bool). b || some (eqb k) seen) (eq-eqb k r.0 (sym same.0)))
        (past_more r.0 seen l (each_map (λ y. k < y.0) (λ y. r.0 < y.0) (λ y h. omega (arith, same.0)) l later) (past_behind seen run l past.1)) ih)
        ∙ ap (λ (b : Bool). cond b (rest r.0) (r.0 ∷ rest r.0)) (sym (seen_less r.0 seen past.0))
      where
        rest : ℕ → List ℕ
        rest x = distinct_from eqb (x ∷ seen) (map (λ r. r.0) (run ++ l))

    nothing : (l : List (ℕ × ℕ)) → Past [] l
    nothing [] = tt
    nothing (y ∷ l) = (tt, nothing l)

pub first_key_lem : (m : List ℕ) (at k : ℕ) → 0 < k → first_key (records_at m at k) ≡ get_or m at 0
unfolding records_at
first_key_lem m at zero h = absurd (omega arith)
first_key_lem m at (suc k) h = refl
