-- Irregular runs in words, and the walk from run to run of the edge table. Assumes nothing.
--   table_kept        the table still stands where nothing below a place behind it changed;   number   the side of a record is one of the facets' sides
--   other_run, two_run   what `is_irregular` compares
--   Writing, walk-..  the pairs of the irregular runs before i are written
use Prim.Native.Nat.{ℕ, zero, suc, ◌+◌, ◌*◌, ◌-◌, ◌%◌, ◌≤◌, ◌<◌}
use mathlib.Core.Bool.{Bool, true, false}
use mathlib.Core.List.{List, [], ◌∷◌, ◌++◌, map, flat_map, append_assoc, append-nil}
use mathlib.Core.Path.{◌≡◌, refl, sym, ap, subst, ◌∙◌}
use native.Mathlib.Omega.{arith}
use borrow.Author.Tests.{lt-ltb, le-ltb}
use lib.Dec.{eqb, ltb}
use lib.ListN.{length, get_or, take, drop}
use lib.Seq.{drop-cons}
use Rattle.lists.specs.Regions.{view, Above}
use Rattle.lists.proofs.Mapped.{Each, each_at}
use Rattle.lists.proofs.Multiplicity.{keep_yes, keep_no}
use Rattle.lists.proofs.Orders.{never}
use Rattle.words.specs.Packed.{pair_first, pair_second}
use Rattle.records.specs.Buffer.{put_record, records_at}
use Rattle.records.specs.Runs.{runs, first_key, Run}
use Rattle.records.specs.Records.{records}
use Rattle.records.proofs.ByRuns.{run_at, runs_nil, first_key_lem}
use Rattle.records.proofs.Records.{length_records_at, records_at_same, records_at_snoc, records_take, length_records, records_get, put_length, put_same, put_other}
use Rattle.geometry.specs.Triangles.{threes}
use Rattle.edges.specs.Edges.{sides, pair_words}
use Rattle.edges.specs.Table.{edge_table}
use Rattle.edges.proofs.Sides.{Small, length_sides, sides_small}
use Rattle.edges.proofs.Rows.{Row, table_rows}
use Rattle.irregular_edges.specs.Irregular.{irregular_edges}
use Rattle.irregular_edges.specs.Listed.{irregular_run, IrregularListed}
use Rattle.irregular_edges.proofs.Pairs.{unpacked}
use Rattle.irregular_edges.proofs.Found.{found, table_irregular}

-- ---- the table in words
pub table_kept : (f w₀ w : List ℕ) (at : ℕ) → 2 * length f ≤ at → at ≤ length w₀ → Above at w₀ w
    → records (take (2 * length f) w₀) ≡ edge_table (sides (threes f)) → records (take (2 * length f) w) ≡ edge_table (sides (threes f))
table_kept f w₀ w at h k a t =
    records_take w (length f) (omega (arith, a.long)) ∙ records_at_same w₀ w 0 (length f) (λ i g. a.below (0 + i) (omega arith))
    ∙ sym (records_take w₀ (length f) (omega arith)) ∙ t

module _ (f w : List ℕ) (whole : length f % 3 ≡ 0) (bound : (i : ℕ) → get_or f i 0 < 4294967296) (room : 2 * length f ≤ length w)
    (t : records (take (2 * length f) w) ≡ edge_table (sides (threes f))) where
  small : (i : ℕ) → Small (get_or (sides (threes f)) i (0, 0))
  small = sides_small f whole bound

  pub number : (i : ℕ) → i < length f → get_or w (2 * i + 1) 0 < length f
  number i h =
      let r = subst (Row (sides (threes f)) small 0) (records_get w (length f) i room h)
      (each_at (Row (sides (threes f)) small 0) (0, 0) (records (take (2 * length f) w)) i
      (subst (Each (Row (sides (threes f)) small 0)) (sym t) (table_rows (sides (threes f)) small)) (omega (arith, length_records w (length f) room))) in
      omega (arith, r.within, length_sides f whole)

  pub number_next : (i : ℕ) → i + 1 < length f → get_or w (2 * i + 3) 0 < length f
  number_next i h = subst (λ (j : ℕ). get_or w j 0 < length f) (next i) (number (i + 1) h)
    where
      next : (i : ℕ) → 2 * (i + 1) + 1 ≡ 2 * i + 3
      next i = omega arith

-- ---- a run in words
pub other_run : (S : List (ℕ × ℕ)) (w : List ℕ) (at k : ℕ) → (k ≡ 2 → ⊥) → ltb 2 k ≡ irregular_run S (records_at w at k)
unfolding irregular_run records_at
other_run S w at zero n = le-ltb 2 0 (omega arith)
other_run S w at (suc zero) n = le-ltb 2 1 (omega arith)
other_run S w at (suc (suc zero)) n = absurd (n refl)
other_run S w at (suc (suc (suc k))) n = lt-ltb 2 (suc (suc (suc k))) (omega arith)

is_two : (S : List (ℕ × ℕ)) (w : List ℕ) (at : ℕ) → eqb (get_or S (get_or w (at + 1) 0) (0, 0)).0 (get_or S (get_or w (at + 2 + 1) 0) (0, 0)).0 ≡ irregular_run S (records_at w at 2)
unfolding irregular_run records_at
is_two S w at = refl

pub two_run : (S : List (ℕ × ℕ)) (w : List ℕ) (at k : ℕ) → k ≡ 2 → (a b : ℕ) → a ≡ (get_or S (get_or w (at + 1) 0) (0, 0)).0 → b ≡ (get_or S (get_or w (at + 3) 0) (0, 0)).0
    → eqb a b ≡ irregular_run S (records_at w at k)
two_run S w at k h a b e g = (λ t. eqb (e t) ((g ∙ ap (λ (j : ℕ). (get_or S (get_or w j 0) (0, 0)).0) (next at)) t)) ∙ both ∙ ap (λ (k : ℕ). irregular_run S (records_at w at k)) (sym h)
  where
    next : (at : ℕ) → at + 3 ≡ at + 2 + 1
    next at = omega arith

    both : eqb (get_or S (get_or w (at + 1) 0) (0, 0)).0 (get_or S (get_or w (at + 2 + 1) 0) (0, 0)).0 ≡ irregular_run S (records_at w at 2)
    both = is_two S w at

two_or_more : (S l : List (ℕ × ℕ)) → irregular_run S l ≡ true → 2 ≤ length l
unfolding irregular_run
two_or_more S [] e = absurd (never false e refl)
two_or_more S (a ∷ []) e = absurd (never false e refl)
two_or_more S (a ∷ b ∷ l) e = omega arith

-- ---- pairs as words
view_pairs : (m : List ℕ) (at n : ℕ) → at + 2 * n ≤ length m → view m at (2 * n) ≡ pair_words (records_at m at n)
unfolding pair_words records_at flat_map
view_pairs m at zero h = refl
view_pairs m at (suc n) h =
    ap (λ (k : ℕ). take k (drop at m)) (twice n)
    ∙ ap (take (suc (suc (2 * n)))) (drop-cons m at 0 (omega arith) ∙ ap (λ (l : List ℕ). get_or m at 0 ∷ l) (drop-cons m (suc at) 0 (omega arith)))
    ∙ (λ t. get_or m at 0 ∷ get_or m (second at t) 0 ∷ take (2 * n) (drop (third at t) m))
    ∙ ap (λ (l : List ℕ). get_or m at 0 ∷ get_or m (at + 1) 0 ∷ l) (view_pairs m (at + 2) n (omega arith))
  where
    twice : (n : ℕ) → 2 * suc n ≡ suc (suc (2 * n))
    twice n = omega arith

    second : (a : ℕ) → suc a ≡ a + 1
    second a = omega arith

    third : (a : ℕ) → suc (suc a) ≡ a + 2
    third a = omega arith

-- ---- one run more
module _ (S R : List (ℕ × ℕ)) (l : List (List (ℕ × ℕ))) where
  found_yes : irregular_run S R ≡ true → found S (R ∷ l) ≡ unpacked (first_key R) ∷ found S l
  unfolding found
  found_yes e = ap (λ (m : List (List (ℕ × ℕ))). map unpacked (map first_key m)) (keep_yes (irregular_run S) R l e)

  found_no : irregular_run S R ≡ false → found S (R ∷ l) ≡ found S l
  unfolding found
  found_no e = ap (λ (m : List (List (ℕ × ℕ))). map unpacked (map first_key m)) (keep_no (irregular_run S) R l e)

none : (S : List (ℕ × ℕ)) (w : List ℕ) (at k : ℕ) → k ≡ 0 → found S (runs (records_at w at k)) ≡ []
unfolding found
none S w at k h = ap (found S) (runs_nil w at k h)

edges_of_lem : (f : List ℕ) → length f % 3 ≡ 0 → ((j : ℕ) → get_or f j 0 < 4294967296) → found (sides (threes f)) (runs (edge_table (sides (threes f)))) ≡ irregular_edges (threes f)
unfolding irregular_edges
edges_of_lem f whole bound = table_irregular (sides (threes f)) (sides_small f whole bound)

-- ---- irregular_edges
module _ (f w₀ : List ℕ) (at : ℕ) where
  abbrev S : List (ℕ × ℕ)
  S = sides (threes f)

  abbrev n : ℕ
  n = length f

  pub record Writing (w : List ℕ) (q i : ℕ) : Type 0 where
    pub low : 2 * q ≤ i
    pub within : i ≤ n
    pub above : Above at w₀ w
    pub written : records_at w at q ++ found S (runs (records_at w₀ (0 + 2 * i) (n - i))) ≡ found S (runs (records_at w₀ 0 n))

  pub walk_start : Writing w₀ 0 0
  unfolding records_at
  walk_start =
      record {
        low = omega arith;
        within = omega arith;
        above = record { long = refl; below = λ x h. refl };
        written = ap (λ (m : ℕ). found S (runs (records_at w₀ 0 m))) (all n);
      }
    where
      all : (n : ℕ) → n - 0 ≡ n
      all n = omega arith

  module _ (behind : 2 * n ≤ at) (room : at + n ≤ length w₀) (w : List ℕ) (q i : ℕ) (s : Writing w q i) where
    module _ (e : ℕ) (ended : Run w 0 n i e) where
      run : Run w₀ 0 n i e
      run = run_at w₀ w 0 n i e ended (λ x a b. s.above.below x (omega arith))

      abbrev R : List (ℕ × ℕ)
      R = records_at w₀ (0 + 2 * i) (e - i)

      abbrev rest : List (List (ℕ × ℕ))
      rest = runs (records_at w₀ (0 + 2 * e) (n - e))

      start : (a : ℕ) → a ≡ 0 + a
      start a = omega arith

      as_it_was : records_at w (2 * i) (e - i) ≡ R
      as_it_was =
          ap (λ (a : ℕ). records_at w a (e - i)) (start (2 * i))
          ∙ records_at_same w₀ w (0 + 2 * i) (e - i) (λ j h. s.above.below (0 + 2 * i + j) (omega (arith, ended.more, ended.within)))

      left : found S (runs (records_at w₀ (0 + 2 * i) (n - i))) ≡ found S (R ∷ rest)
      left = ap (found S) run.cut

      pub walk_no : (b : Bool) → b ≡ irregular_run S (records_at w (2 * i) (e - i)) → b ≡ false → Writing w q e
      walk_no b told h =
          record {
            low = omega (arith, s.low, ended.more);
            within = ended.within;
            above = s.above;
            written = ap (λ (l : List (ℕ × ℕ)). records_at w at q ++ l) (sym (found_no S R rest (ap (irregular_run S) (sym as_it_was) ∙ sym told ∙ h)) ∙ sym left) ∙ s.written;
          }

      module _ (b : Bool) (told : b ≡ irregular_run S (records_at w (2 * i) (e - i))) (h : b ≡ true) where
        pub walk_room : 2 * q + 2 ≤ e
        walk_room = omega (arith, s.low, ended.more, two_or_more S (records_at w (2 * i) (e - i)) (sym told ∙ h), length_records_at w (2 * i) (e - i))

        module _ (x y : ℕ) (ex : x ≡ pair_first (get_or w (2 * i) 0)) (ey : y ≡ pair_second (get_or w (2 * i) 0)) where
          abbrev w₁ : List ℕ
          w₁ = put_record w (at + 2 * q) (x, y)

          front : records_at w₁ at q ≡ records_at w at q
          front = records_at_same w w₁ at q (λ j g. put_other w (at + 2 * q) (x, y) (at + j) (λ z. omega arith) (λ z. omega arith))

          new : (x, y) ≡ unpacked (first_key R)
          new =
              (λ t. (ex t, ey t))
              ∙ ap unpacked (sym (ap first_key (sym as_it_was) ∙ first_key_lem w (2 * i) (e - i) (omega (arith, ended.more))))

          one_more : records_at w₁ at (q + 1) ≡ records_at w at q ++ (unpacked (first_key R) ∷ [])
          one_more =
              records_at_snoc w₁ at q
              ∙ (λ t. front t ++ ((put_same w (at + 2 * q) (x, y) (omega (arith, walk_room, ended.within, s.above.long)) ∙ new) t ∷ []))

          pub walk_yes : Writing w₁ (q + 1) e
          walk_yes =
              record {
                low = omega (arith, walk_room);
                within = ended.within;
                above =
                    record {
                      long = put_length w (at + 2 * q) (x, y) ∙ s.above.long;
                      below = λ j g. put_other w (at + 2 * q) (x, y) j (λ z. omega arith) (λ z. omega arith) ∙ s.above.below j g;
                    };
                written = ap (λ (l : List (ℕ × ℕ)). l ++ found S rest) one_more ∙ append_assoc (records_at w at q) (unpacked (first_key R) ∷ []) (found S rest)
                    ∙ ap (λ (l : List (ℕ × ℕ)). records_at w at q ++ l) (sym (found_yes S R rest (ap (irregular_run S) (sym as_it_was) ∙ sym told ∙ h)) ∙ sym left) ∙ s.written;
              }

    pub walk_end : n ≤ i → n % 3 ≡ 0 → ((j : ℕ) → get_or f j 0 < 4294967296) → records (take (2 * n) w₀) ≡ edge_table S → IrregularListed f w₀ w at q
    walk_end h whole bound t =
        record {
          count = sym (length_records_at w at q) ∙ ap length all;
          few = omega (arith, s.low, s.within);
          words = view_pairs w at q (omega (arith, s.low, s.within, s.above.long)) ∙ ap pair_words all;
          above = s.above;
        }
      where
        all : records_at w at q ≡ irregular_edges (threes f)
        all =
            sym (ap (λ (l : List (ℕ × ℕ)). records_at w at q ++ l) (none S w₀ (0 + 2 * i) (n - i) (omega arith)) ∙ append-nil (records_at w at q)) ∙ s.written
            ∙ ap (λ (l : List (ℕ × ℕ)). found S (runs l)) (sym (records_take w₀ n (omega arith)) ∙ t) ∙ edges_of_lem f whole bound
