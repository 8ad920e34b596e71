-- Laws of the loops over records. Assumes nothing.
--   records_by_places   all records from a place on pass
--   every_records_stop, every_records_more, every_records_end   of records from a place on, all pass
--   turns_loop, turns_first, turns_second   an edge with one end, or with an end whose degree is not two, doesn't turn; any other does
--   Putting, putting_start, putting_turn, putting_end     two words for each run
use Prim.Native.Nat.{ℕ, zero, suc, ◌+◌, ◌*◌, ◌-◌, ◌/◌, ◌≤◌, ◌<◌}
use native.Mathlib.Omega.{arith}
use mathlib.Core.Path.{◌≡◌, refl, sym, ap, ◌∙◌}
use mathlib.Core.Bool.{Bool, true, false, cond, not, ◌&&◌}
use mathlib.Core.List.{List, [], ◌∷◌, ◌++◌, flat_map}
use mir.Val.{bool_byte}
use lib.Dec.{eqb}
use borrow.Author.Tests.{eq-eqb, ne_eqb}
use lib.ListN.{get_or, set, length, take, length-set}
use lib.Seq.{take-suc-set}
use Rattle.std.specs.List.{range_with_len}
use Rattle.lists.specs.Lists.{every}
use Rattle.lists.proofs.Bools.{and_stop, and_next}
use Rattle.records.specs.Buffer.{record_of, records_at, put_record}
use Rattle.records.specs.Runs.{runs, Run}
use Rattle.records.proofs.Records.{length_records_at}
use Rattle.records.proofs.ByRuns.{runs_nil}
use Rattle.boundary_groups.specs.Staged.{turns_of, run_words, ComponentsPut}

-- all records from number i on pass, one place after the other
pub records_by_places : (p : ℕ × ℕ → Bool) (w : List ℕ) (n i : ℕ) → every (λ j. p (record_of w (2 * j))) (range_with_len i n) ≡ every p (records_at w (2 * i) n)
unfolding records_at
records_by_places p w zero i = refl
records_by_places p w (suc n) i =
    let next : 2 * (i + 1) ≡ 2 * i + 2 = omega arith in
    ap (λ (b : Bool). p (record_of w (2 * i)) && b) (records_by_places p w n (i + 1) ∙ ap (λ (x : ℕ). every p (records_at w x n)) next)

-- ---- all of the records from place j up to e

records_cons : (w : List ℕ) (j e : ℕ) → j < e → records_at w (2 * j) (e - j) ≡ record_of w (2 * j) ∷ records_at w (2 * (j + 1)) (e - (j + 1))
unfolding records_at
records_cons w j e h =
    ap (records_at w (2 * j)) (one_less j e h) ∙ ap (λ (a : ℕ). record_of w (2 * j) ∷ records_at w a (e - (j + 1))) (next j)
  where
    one_less : (j e : ℕ) → j < e → e - j ≡ suc (e - (j + 1))
    one_less j e h = omega arith

    next : (j : ℕ) → 2 * j + 2 ≡ 2 * (j + 1)
    next j = omega arith

module _ (p : ℕ × ℕ → Bool) (w : List ℕ) (b : Bool) (j e : ℕ) (h : j < e) (s : b ≡ every p (records_at w (2 * j) (e - j))) where
  pub every_records_stop : p (record_of w (2 * j)) ≡ false → b ≡ false
  every_records_stop q = s ∙ ap (every p) (records_cons w j e h) ∙ and_stop (p (record_of w (2 * j))) (every p (records_at w (2 * (j + 1)) (e - (j + 1)))) q

  pub every_records_more : p (record_of w (2 * j)) ≡ true → b ≡ every p (records_at w (2 * (j + 1)) (e - (j + 1)))
  every_records_more q =
      s ∙ ap (every p) (records_cons w j e h)
      ∙ and_next (p (record_of w (2 * j))) (every p (records_at w (2 * (j + 1)) (e - (j + 1)))) (every p (records_at w (2 * (j + 1)) (e - (j + 1)))) q refl

pub every_records_end : (p : ℕ × ℕ → Bool) (w : List ℕ) (at k : ℕ) → k ≡ 0 → every p (records_at w at k) ≡ true
unfolding records_at
every_records_end p w at zero e = refl
every_records_end p w at (suc k) e = absurd (omega arith)

-- ---- the edge of a record

module _ (ends degrees : List ℕ) (r : ℕ × ℕ) where
  abbrev from : ℕ
  from = get_or ends (2 * r.1) 0

  abbrev other : ℕ
  other = get_or ends (2 * r.1 + 1) 0

  pub turns_loop : from ≡ other → false ≡ turns_of ends degrees r
  unfolding turns_of
  turns_loop e =
      sym (and_stop (not (eqb from other)) (eqb (get_or degrees from 0) 2 && eqb (get_or degrees other 0) 2) (ap not (eq-eqb from other e)))

  pub turns_first : (from ≡ other → ⊥) → (get_or degrees from 0 ≡ 2 → ⊥) → false ≡ turns_of ends degrees r
  unfolding turns_of
  turns_first e f =
      sym (and_next (not (eqb from other)) (eqb (get_or degrees from 0) 2 && eqb (get_or degrees other 0) 2) false (ap not (ne_eqb from other e))
      (and_stop (eqb (get_or degrees from 0) 2) (eqb (get_or degrees other 0) 2) (ne_eqb (get_or degrees from 0) 2 f)))

  pub turns_second : (from ≡ other → ⊥) → get_or degrees from 0 ≡ 2 → eqb (get_or degrees other 0) 2 ≡ turns_of ends degrees r
  unfolding turns_of
  turns_second e f =
      sym (and_next (not (eqb from other)) (eqb (get_or degrees from 0) 2 && eqb (get_or degrees other 0) 2) (eqb (get_or degrees other 0) 2)
      (ap not (ne_eqb from other e))
      (and_next (eqb (get_or degrees from 0) 2) (eqb (get_or degrees other 0) 2) (eqb (get_or degrees other 0) 2) (eq-eqb (get_or degrees from 0) 2 f) refl))

-- ---- two words for each run

module _ (ends degrees records : List ℕ) where
  abbrev words : List (List (ℕ × ℕ)) → List ℕ
  words = flat_map (run_words (turns_of ends degrees))

  abbrev all : ℕ
  all = length records / 2

  pub record Putting (w : List ℕ) (c i : ℕ) : Type 0 where
    pub few : c ≤ i
    pub upto : i ≤ length records / 2
    pub put : take (2 * c) w ++ words (runs (records_at records (2 * i) (length records / 2 - i))) ≡ words (runs (records_at records 0 (length records / 2)))

  pub putting_start : (w : List ℕ) → Putting w 0 0
  putting_start w = record { few = omega arith; upto = omega arith; put = ap (λ (n : ℕ). words (runs (records_at records 0 n))) (omega arith) }

  pub putting_end : (w : List ℕ) (c i : ℕ) → length records / 2 ≤ i → Putting w c i → ComponentsPut ends degrees records w c
  unfolding flat_map
  putting_end w c i h P =
      record {
        few = omega (arith, P.few, P.upto);
        words = sym (nil (take (2 * c) w)) ∙ ap (λ (l : List (List (ℕ × ℕ))). take (2 * c) w ++ words l) (sym (runs_nil records (2 * i) (all - i) (omega arith))) ∙ P.put;
      }
    where
      nil : (x : List ℕ) → x ++ [] ≡ x
      nil [] = refl
      nil (y ∷ x) = ap (λ (z : List ℕ). y ∷ z) (nil x)

  module _ (w : List ℕ) (c i : ℕ) (room : length records ≤ length w) (P : Putting w c i) (h : i < length records / 2) where
    pub putting_turn : (e : ℕ) → Run records 0 (length records / 2) i e → (b : Bool) → b ≡ every (turns_of ends degrees) (records_at records (2 * i) (e - i))
        → (x y : ℕ) → x ≡ e - i → y ≡ cond b 1 0 → Putting (put_record w (2 * c) (x, y)) (c + 1) e
    unfolding flat_map run_words
    putting_turn e run b ring x y xe ye =
        record {
          few = omega (arith, P.few, run.more);
          upto = run.within;
          put = ap (λ (l : List ℕ). l ++ words rest) stored
              ∙ assoc (take (2 * c) w) (x ∷ y ∷ []) (words rest)
              ∙ (λ t. take (2 * c) w ++ (xe' t ∷ ye' t ∷ words rest))
              ∙ ap (λ (l : List (List (ℕ × ℕ))). take (2 * c) w ++ words l) (sym cut)
              ∙ P.put;
        }
      where
        rest : List (List (ℕ × ℕ))
        rest = runs (records_at records (2 * e) (all - e))

        one : List (ℕ × ℕ)
        one = records_at records (2 * i) (e - i)

        front : (z : ℕ) → 0 + z ≡ z
        front z = omega arith

        cut : runs (records_at records (2 * i) (all - i)) ≡ one ∷ rest
        cut = ap (λ (z : ℕ). runs (records_at records z (all - i))) (sym (front (2 * i))) ∙ run.cut
            ∙ (λ t. records_at records (front (2 * i) t) (e - i) ∷ runs (records_at records (front (2 * e) t) (all - e)))

        xe' : x ≡ length one
        xe' = xe ∙ sym (length_records_at records (2 * i) (e - i))

        ye' : y ≡ cond (every (turns_of ends degrees) one) 1 0
        ye' = ye ∙ ap (λ (z : Bool). cond z 1 0) ring

        assoc : (a b d : List ℕ) → (a ++ b) ++ d ≡ a ++ (b ++ d)
        assoc [] b d = refl
        assoc (z ∷ a) b d = ap (λ (l : List ℕ). z ∷ l) (assoc a b d)

        twice : (c : ℕ) → 2 * (c + 1) ≡ suc (suc (2 * c))
        twice c = omega arith

        next : (c : ℕ) → 2 * c + 1 ≡ suc (2 * c)
        next c = omega arith

        stored : take (2 * (c + 1)) (put_record w (2 * c) (x, y)) ≡ take (2 * c) w ++ (x ∷ y ∷ [])
        stored =
            (λ t. take (twice c t) (set (set w (2 * c) x) (next c t) y))
            ∙ take-suc-set (set w (2 * c) x) (suc (2 * c)) y (omega (arith, length-set w (2 * c) x, P.few))
            ∙ ap (λ (l : List ℕ). l ++ (y ∷ [])) (take-suc-set w (2 * c) x (omega (arith, P.few)))
            ∙ assoc (take (2 * c) w) (x ∷ []) (y ∷ [])

pub flag : (b : Bool) → bool_byte b ≡ cond b 1 0
flag true = refl
flag false = refl
