-- "listed ascending, once": the keys of the runs of sorted pairs are what the definition asks. Assumes nothing.
--   Keeping, keeping_start, -turn, -end          `keep_distinct`: of the runs before i the keys are listed
--   key_ascending, key_descending                `pair_key`
--   Low, key_same, key_before, key_unpacked      the packed pair says all that the definition asks of a pair, where the places are below 2^21
--   listed_once                                  all of it
use Prim.Native.Nat.{ℕ, ◌+◌, ◌*◌, ◌-◌, ◌≤◌, ◌<◌, min, max}
use mathlib.Core.Bool.{Bool, true, false, cond, ◌&&◌, ◌||◌}
use mathlib.Core.List.{List, [], ◌∷◌, ◌++◌, map, append_assoc, append-nil}
use mathlib.Core.Logic.{inl, inr, ⊎_elim}
use mathlib.Core.Path.{◌≡◌, refl, sym, ap, subst, ◌∙◌}
use native.Mathlib.Omega.{arith}
use borrow.Author.Tests.{lt-ltb, eqb-true, eq-eqb, ltb-true}
use lib.Dec.{eqb, ltb}
use lib.ListN.{get_or, set}
use Rattle.lists.specs.Lists.{some, sort_by, distinct, distinct_from}
use Rattle.lists.specs.Regions.{view}
use Rattle.lists.proofs.Mapped.{Each, Pairwise, Agree, each_sort_by, map_sort_by}
use Rattle.lists.proofs.Orders.{cases, never}
use Rattle.lists.proofs.SortBy.{ascending_sort_by}
use Rattle.lists.proofs.Regions.{view_put}
use Rattle.lists.proofs.Bools.{both_ways}
use Rattle.words.specs.Packed.{triple}
use Rattle.words.proofs.Packed.{triple_first_lem, triple_second_lem, triple_third_lem, triple_injective, triple_lex, lex_triple}
use Rattle.records.specs.Buffer.{records_at}
use Rattle.records.specs.Runs.{runs, first_key, Run}
use Rattle.records.specs.Records.{record_before, sorted}
use Rattle.records.proofs.ByRuns.{runs_nil, run_at, first_key_lem, runs_distinct}
use Rattle.records.proofs.Comparing.{Lex, record_order, lex_before, not_lex}
use Rattle.edges.specs.Edges.{sorted_pair, same_pair, pair_before}
use Rattle.edges.proofs.Edges.{same_sorted, sorted_same}
use Rattle.candidate_constraints.specs.Steps.{Kept, Roomy, unpacked, pair_key, pair_record, Distinct}
use Rattle.candidate_constraints.proofs.Frames.{kept_same, kept_set, kept_then}
use Rattle.candidate_pool.specs.Offsets.{pairs_at, constraints_at, open_edges_at}
use Rattle.candidate_constraints.specs.Constraints.{constraint}

-- ---- keep_distinct
module _ (n nf c total : ℕ) (w₀ : List ℕ) where
  abbrev pub pairs_from : ℕ
  pairs_from = pairs_at n

  abbrev pub list_from : ℕ
  list_from = constraints_at n nf

  pub record Keeping (w : List ℕ) (t i : ℕ) : Type 0 where
    pub within : i ≤ c
    pub few : t ≤ total + i
    pub kept : Kept list_from (open_edges_at n nf) w₀ w
    pub listed : view w list_from t ++ map first_key (runs (records_at w₀ (pairs_from + 2 * i) (c - i))) ≡ view w₀ list_from total ++ map first_key (runs (records_at w₀ pairs_from c))

  pub keeping_start : Keeping w₀ total 0
  keeping_start =
      record {
        within = omega arith;
        few = omega arith;
        kept = kept_same list_from (open_edges_at n nf) w₀;
        listed = λ t. view w₀ list_from total ++ map first_key (runs (records_at w₀ (start pairs_from t) (all c t)));
      }
    where
      start : (a : ℕ) → a + 2 * 0 ≡ a
      start a = omega arith

      all : (c : ℕ) → c - 0 ≡ c
      all c = omega arith

  module _ (room : Roomy n nf w₀) (hc : c ≤ 4 * n + 3 * nf) (ht : total + (4 * n + 3 * nf) ≤ 24 * n + 18 * nf) (w : List ℕ) (t i : ℕ) (o : Keeping w t i) where
    pub keeping_turn : (pairs at e : ℕ) → pairs ≡ pairs_from → at ≡ list_from → Run w pairs c i e → Keeping (set w (at + t) (get_or w (pairs + 2 * i) 0)) (t + 1) e
    keeping_turn pairs at e ep ea found =
        record {
          within = run.within;
          few = omega (arith, o.few, run.more);
          kept = kept_then list_from (open_edges_at n nf) w₀ w w' o.kept
              (kept_set list_from (open_edges_at n nf) (at + t) key w (omega arith) (omega (arith, o.few, run.more, run.within)));
          listed = ap (λ (l : List ℕ). l ++ rest) stored ∙ append_assoc (view w list_from t) (key ∷ []) rest
              ∙ ap (λ (k : ℕ). view w list_from t ++ k ∷ rest) first ∙ ap (λ (l : List (List (ℕ × ℕ))). view w list_from t ++ map first_key l) (sym run.cut) ∙ o.listed;
        }
      where
        run : Run w₀ pairs_from c i e
        run = run_at w₀ w pairs_from c i e (subst (λ (a : ℕ). Run w a c i e) ep found) (λ x a b. o.kept.low x (omega arith))

        key : ℕ
        key = get_or w (pairs + 2 * i) 0

        w' : List ℕ
        w' = set w (at + t) key

        rest : List ℕ
        rest = map first_key (runs (records_at w₀ (pairs_from + 2 * e) (c - e)))

        stored : view w' list_from (t + 1) ≡ view w list_from t ++ (key ∷ [])
        stored =
            ap (λ (a : ℕ). view (set w (a + t) key) list_from (t + 1)) ea
            ∙ view_put w list_from t key (omega (arith, o.few, o.kept.long, room.room, run.more, run.within))

        first : key ≡ first_key (records_at w₀ (pairs_from + 2 * i) (e - i))
        first =
            ap (λ (a : ℕ). get_or w (a + 2 * i) 0) ep ∙ o.kept.low (pairs_from + 2 * i) (omega (arith, run.more, run.within))
            ∙ sym (first_key_lem w₀ (pairs_from + 2 * i) (e - i) (omega (arith, run.more)))

    pub keeping_end : c ≤ i → Distinct n nf c total t w₀ w
    keeping_end h =
        record {
          few = omega (arith, o.few, o.within);
          listed =
              sym (ap (λ (l : List ℕ). view w list_from t ++ l) (ap (map first_key) (runs_nil w₀ (pairs_from + 2 * i) (c - i) (omega arith))) ∙ append-nil (view w list_from t)) ∙ o.listed;
          kept = o.kept;
        }

-- ---- packed pairs
pub key_ascending : (f a b : ℕ) → a ≤ b → triple f a b ≡ pair_key f (a, b)
key_ascending f a b h = let e : a ≡ min a b = omega arith in let g : b ≡ max a b = omega arith in λ t. triple f (e t) (g t)

pub key_descending : (f a b : ℕ) → b < a → triple f b a ≡ pair_key f (a, b)
key_descending f a b h = let e : b ≡ min a b = omega arith in let g : a ≡ max a b = omega arith in λ t. triple f (e t) (g t)

abbrev pub Low : ℕ × ℕ → Type 0
Low q = (q.0 < 2097152) × (q.1 < 2097152)

module _ (f : ℕ) where
  module _ (s t : ℕ × ℕ) (a : Low s) (b : Low t) where
    s0 : (sorted_pair s).0 < 2097152
    s0 = omega (arith, a.0, a.1)

    s1 : (sorted_pair s).1 < 2097152
    s1 = omega (arith, a.0, a.1)

    t0 : (sorted_pair t).0 < 2097152
    t0 = omega (arith, b.0, b.1)

    t1 : (sorted_pair t).1 < 2097152
    t1 = omega (arith, b.0, b.1)

    pub key_same : same_pair s t ≡ eqb (pair_key f s) (pair_key f t)
    key_same =
        both_ways (same_pair s t) (eqb (pair_key f s) (pair_key f t))
        (λ h. eq-eqb (pair_key f s) (pair_key f t) (ap (λ (q : ℕ × ℕ). triple f q.0 q.1) (same_sorted s t h)))
        (λ h.
        let e = triple_injective f (sorted_pair s).0 (sorted_pair s).1 f (sorted_pair t).0 (sorted_pair t).1 s0 s1 t0 t1 (eqb-true (pair_key f s) (pair_key f t) h) in
        sorted_same s t (λ i. (e.1.0 i, e.1.1 i)))

    same_lex : Lex (sorted_pair s) (sorted_pair t) → pair_key f s < pair_key f t
    same_lex =
        ⊎_elim (λ (h : (sorted_pair s).0 < (sorted_pair t).0).
        lex_triple f (sorted_pair s).0 (sorted_pair s).1 f (sorted_pair t).0 (sorted_pair t).1 s0 s1 t0 t1 (inl (inr (refl, h))))
        (λ (h : ((sorted_pair s).0 ≡ (sorted_pair t).0) × ((sorted_pair s).1 < (sorted_pair t).1)).
        lex_triple f (sorted_pair s).0 (sorted_pair s).1 f (sorted_pair t).0 (sorted_pair t).1 s0 s1 t0 t1 (inr (refl, (h.0, h.1))))

    lex_same : pair_key f s < pair_key f t → Lex (sorted_pair s) (sorted_pair t)
    lex_same l =
        ⊎_elim
        (⊎_elim (λ (h : f < f). absurd (omega arith)) (λ (h : (f ≡ f) × ((sorted_pair s).0 < (sorted_pair t).0)). inl h.1))
        (λ (h : (f ≡ f) × (((sorted_pair s).0 ≡ (sorted_pair t).0) × ((sorted_pair s).1 < (sorted_pair t).1))). inr h.1)
        (triple_lex f (sorted_pair s).0 (sorted_pair s).1 f (sorted_pair t).0 (sorted_pair t).1 s0 s1 t0 t1 l)

    key_before : pair_before s t ≡ record_before (pair_record f s) (pair_record f t)
    unfolding pair_before
    key_before =
        ⊎_elim
        (λ (h : ltb (pair_key f s) (pair_key f t) ≡ true).
        lex_before (sorted_pair s) (sorted_pair t) (lex_same (ltb-true (pair_key f s) (pair_key f t) h)) ∙ sym (ap (λ (b : Bool). b || (eqb (pair_key f s) (pair_key f t) && false)) h))
        (λ (h : ltb (pair_key f s) (pair_key f t) ≡ false).
        not_lex (sorted_pair s) (sorted_pair t) (λ l. never (ltb (pair_key f s) (pair_key f t)) (lt-ltb (pair_key f s) (pair_key f t) (same_lex l)) h)
        ∙ sym (ap (λ (b : Bool). b || (eqb (pair_key f s) (pair_key f t) && false)) h ∙ and_no (eqb (pair_key f s) (pair_key f t))))
        (cases (ltb (pair_key f s) (pair_key f t)))
      where
        and_no : (b : Bool) → (b && false) ≡ false
        and_no true = refl
        and_no false = refl

  key_unpacked : (q : ℕ × ℕ) → Low q → unpacked (pair_key f q) ≡ constraint f (sorted_pair q).0 (sorted_pair q).1
  key_unpacked q a =
      let h0 : (sorted_pair q).0 < 2097152 = omega (arith, a.0, a.1) in
      let h1 : (sorted_pair q).1 < 2097152 = omega (arith, a.0, a.1) in
      λ t. constraint (triple_first_lem f (sorted_pair q).0 (sorted_pair q).1 h0 h1 t) (triple_second_lem f (sorted_pair q).0 (sorted_pair q).1 h0 h1 t)
      (triple_third_lem f (sorted_pair q).0 (sorted_pair q).1 h0 h1 t)

  agree_all : (l : List (ℕ × ℕ)) → Each Low l → Pairwise (Agree (pair_record f) pair_before record_before) l
  agree_all [] h = tt
  agree_all (x ∷ l) h = (first l h.1, agree_all l h.1)
    where
      first : (l : List (ℕ × ℕ)) → Each Low l → Each (Agree (pair_record f) pair_before record_before x) l
      first [] g = tt
      first (y ∷ l) g = (key_before y x g.0 h.0, first l g.1)

  same_some : (x : ℕ × ℕ) (l : List (ℕ × ℕ)) → Low x → Each Low l → some (same_pair x) l ≡ some (eqb (pair_key f x)) (map (pair_key f) l)
  same_some x [] a h = refl
  same_some x (y ∷ l) a h = λ t. key_same x y a h.0 t || same_some x l a h.1 t

  distinct_keys : (seen l : List (ℕ × ℕ)) → Each Low seen → Each Low l → map (pair_key f) (distinct_from same_pair seen l) ≡ distinct_from eqb (map (pair_key f) seen)
      (map (pair_key f) l)
  unfolding distinct_from
  distinct_keys seen [] a h = refl
  distinct_keys seen (x ∷ l) a h = go (some (same_pair x) seen) refl (distinct_keys (x ∷ seen) l (h.0, a) h.1)
    where
      go : (b : Bool) → some (same_pair x) seen ≡ b → map (pair_key f) (distinct_from same_pair (x ∷ seen) l) ≡ distinct_from eqb (pair_key f x ∷ map (pair_key f) seen)
          (map (pair_key f) l)
          → map (pair_key f) (cond b (distinct_from same_pair (x ∷ seen) l) (x ∷ distinct_from same_pair (x ∷ seen) l))
          ≡ cond (some (eqb (pair_key f x)) (map (pair_key f) seen)) (distinct_from eqb (pair_key f x ∷ map (pair_key f) seen) (map (pair_key f) l))
          (pair_key f x ∷ distinct_from eqb (pair_key f x ∷ map (pair_key f) seen) (map (pair_key f) l))
      go true e ih =
          ih ∙ ap
          (λ (b : Bool). cond b (distinct_from eqb (pair_key f x ∷ map (pair_key f) seen) (map (pair_key f) l))
          (pair_key f x ∷ distinct_from eqb (pair_key f x ∷ map (pair_key f) seen) (map (pair_key f) l)))
          (sym e ∙ same_some x seen h.0 a)
      go false e ih =
          ap (λ (m : List ℕ). pair_key f x ∷ m) ih
          ∙ ap
          (λ (b : Bool). cond b (distinct_from eqb (pair_key f x ∷ map (pair_key f) seen) (map (pair_key f) l))
          (pair_key f x ∷ distinct_from eqb (pair_key f x ∷ map (pair_key f) seen) (map (pair_key f) l)))
          (sym e ∙ same_some x seen h.0 a)

  each_distinct : (seen l : List (ℕ × ℕ)) → Each Low l → Each Low (distinct_from same_pair seen l)
  unfolding distinct_from
  each_distinct seen [] h = tt
  each_distinct seen (x ∷ l) h = go (some (same_pair x) seen) (each_distinct (x ∷ seen) l h.1)
    where
      go : (b : Bool) → Each Low (distinct_from same_pair (x ∷ seen) l) → Each Low (cond b (distinct_from same_pair (x ∷ seen) l) (x ∷ distinct_from same_pair (x ∷ seen) l))
      go true ih = ih
      go false ih = (h.0, ih)

  map_key : (l : List (ℕ × ℕ)) → map (λ x. x.0) (map (pair_record f) l) ≡ map (pair_key f) l
  map_key [] = refl
  map_key (x ∷ l) = ap (λ (m : List ℕ). pair_key f x ∷ m) (map_key l)

  map_unpacked : (l : List (ℕ × ℕ)) → Each Low l → map unpacked (map (pair_key f) l) ≡ map (λ q. constraint f (sorted_pair q).0 (sorted_pair q).1) l
  map_unpacked [] h = refl
  map_unpacked (x ∷ l) h = λ t. key_unpacked x h.0 t ∷ map_unpacked l h.1 t

  pub listed_once : (l : List (ℕ × ℕ)) → Each Low l
      → map unpacked (map first_key (runs (sorted (map (pair_record f) l)))) ≡ map (λ q. constraint f (sorted_pair q).0 (sorted_pair q).1) (distinct same_pair (sort_by pair_before l))
  listed_once l h =
      let s = sort_by pair_before l in
      let e : map (pair_record f) s ≡ sorted (map (pair_record f) l) = map_sort_by (pair_record f) pair_before record_before l (agree_all l h) in
      let g = each_sort_by pair_before Low l h in
      ap (map unpacked)
      (runs_distinct (sorted (map (pair_record f) l)) (ascending_sort_by record_before record_order (map (pair_record f) l))
      ∙ ap (λ (r : List (ℕ × ℕ)). distinct eqb (map (λ x. x.0) r)) (sym e) ∙ ap (distinct eqb) (map_key s) ∙ sym (distinct_keys [] s tt g))
      ∙ map_unpacked (distinct same_pair s) (each_distinct [] s g)
