-- Records of pairs, written one after the other; and the numbers that number_records gives out. Assumes nothing.
--   recording_start, recording_turn       put_sides: no record, and one more, is written
--   Numbering, numbering_start, numbering_turn, numbering_end     number_records: the records before i have their number
use Prim.Native.Nat.{ℕ, ◌+◌, ◌*◌, ◌≤◌, ◌<◌}
use mathlib.Core.List.{List}
use mathlib.Core.Path.{◌≡◌, refl, sym, ap, subst, ◌∙◌}
use native.Mathlib.Decide.{ℕ_discrete}
use native.Mathlib.Omega.{arith}
use lib.ListN.{length, get_or}
use Rattle.records.specs.Buffer.{record_of, put_record, payload_in}
use Rattle.records.proofs.Records.{put_length, put_same, put_other, le_or_lt}
use Rattle.lists.specs.Regions.{Above}
use Rattle.edges.specs.Table.{edge_key}
use Rattle.cap_pairs.specs.Steps.{Recorded, FirstsPut}
use mathlib.Core.Logic.{⊎_elim}
use Rattle.records.specs.Runs.{Run, FirstOf, PayloadsPut}
use Rattle.records.proofs.ByRuns.{run_at, KeysPart, part_start, part_next, run_first}
use Rattle.sorting.specs.Sorting.{SortedPlaces}

-- ---- put_edges, put_sides
module _ (P : ℕ → ℕ × ℕ) (w₀ : List ℕ) (at first : ℕ) where
  pub recording_start : Recorded P w₀ w₀ at first 0
  recording_start = record { above = record { long = refl; below = λ x h. refl }; done = λ j h. absurd (omega arith) }

  module _ (w : List ℕ) (i : ℕ) (r : Recorded P w₀ w at first i) (room : at + 2 * i + 1 < length w₀) where
    pub recording_turn : (key which : ℕ) → key ≡ edge_key (P i) → which ≡ first + i → Recorded P w₀ (put_record w (at + 2 * i) (key, which)) at first (i + 1)
    recording_turn key which e o =
        record {
          above = record {
            long = put_length w (at + 2 * i) (key, which) ∙ r.above.long;
            below = λ x h. put_other w (at + 2 * i) (key, which) x (λ q. omega arith) (λ q. omega arith) ∙ r.above.below x h;
          };
          done = λ j h. each j h (ℕ_discrete j i);
        }
      where
        below : (j : ℕ) → (j ≡ i → ⊥) → j < i + 1 → j < i
        below j n h = omega arith

        each : (j : ℕ) → j < i + 1 → Dec (j ≡ i) → record_of (put_record w (at + 2 * i) (key, which)) (at + 2 * j) ≡ (edge_key (P j), first + j)
        each j h (yes q) =
            subst (λ (x : ℕ). record_of (put_record w (at + 2 * i) (key, which)) (at + 2 * x) ≡ (edge_key (P x), first + x)) (sym q)
            (put_same w (at + 2 * i) (key, which) (omega (arith, r.above.long)) ∙ (λ t. (e t, o t)))
        each j h (no n) =
            let x = put_other w (at + 2 * i) (key, which) (at + 2 * j) (λ q. n (omega arith)) (λ q. omega arith) in
            let y = put_other w (at + 2 * i) (key, which) (at + 2 * j + 1) (λ q. omega arith) (λ q. n (omega arith)) in
            (λ t. (x t, y t)) ∙ r.done j (below j n h)

-- ---- number_records
pub record Numbering (w₀ : List ℕ) (at numbers p : ℕ) (w : List ℕ) (i : ℕ) : Type 0 where
  pub within : i ≤ p
  pub above : Above numbers w₀ w
  pub part : KeysPart w₀ at p i
  pub done : (j : ℕ) → j < i → FirstOf w₀ at j (get_or w (numbers + payload_in w₀ at j) 0)

module _ (w₀ : List ℕ) (at numbers p : ℕ) (s : SortedPlaces w₀ at p) (room : at + 2 * p ≤ numbers) (size : numbers + p ≤ length w₀) where
  pub numbering_start : Numbering w₀ at numbers p w₀ 0
  numbering_start =
      record { within = omega arith; above = record { long = refl; below = λ x h. refl }; part = part_start w₀ at p; done = λ j h. absurd (omega arith) }

  module _ (w : List ℕ) (i e : ℕ) (inv : Numbering w₀ at numbers p w i) (run : Run w at p i e) where
    which_is : (j : ℕ) → j < p → payload_in w at j ≡ payload_in w₀ at j
    which_is j h = inv.above.below (at + 2 * j + 1) (omega arith)

    pub which_room : (j : ℕ) → i ≤ j → j < e → numbers + payload_in w at j < length w
    which_room j l h =
        let j<p : j < p = omega (arith, run.within) in
        let a = which_is j j<p in
        let b = s.low j j<p in
        let c = inv.above.long in
        omega arith

    pub numbering_turn : (w' : List ℕ) → PayloadsPut w w' at numbers i e i → Numbering w₀ at numbers p w' e
    numbering_turn w' r =
        record {
          within = run.within;
          above = record { long = r.long ∙ inv.above.long; below = λ x h. r.rest x (λ j l m q. omega arith) ∙ inv.above.below x h };
          part = part_next w₀ at p i e run₀ inv.part s.ascend;
          done = λ j h. ⊎_elim (λ (l : i ≤ j). here j l h) (λ (l : j < i). there j l) (le_or_lt i j);
        }
      where
        run₀ : Run w₀ at p i e
        run₀ = run_at w₀ w at p i e run (λ x l h. inv.above.below x (omega arith))

        here : (j : ℕ) → i ≤ j → j < e → FirstOf w₀ at j (get_or w' (numbers + payload_in w₀ at j) 0)
        here j l h =
            subst (FirstOf w₀ at j) (sym (r.put j l h) ∙ ap (λ (x : ℕ). get_or w' (numbers + x) 0) (which_is j (omega (arith, run.within))))
            (run_first w₀ at p i e run₀ inv.part j l h)

        there : (j : ℕ) → j < i → FirstOf w₀ at j (get_or w' (numbers + payload_in w₀ at j) 0)
        there j l =
            subst (FirstOf w₀ at j)
            (sym (r.rest (numbers + payload_in w₀ at j) (λ k m h q.
            let k<p : k < p = omega (arith, run.within) in
            let a = which_is k k<p in
            s.differ j k (omega arith) k<p (omega arith))))
            (inv.done j l)

  pub numbering_end : (w : List ℕ) (i : ℕ) → Numbering w₀ at numbers p w i → p ≤ i → FirstsPut w₀ w at numbers p
  numbering_end w i inv h = record { above = inv.above; first = λ j l. inv.done j (omega arith) }
