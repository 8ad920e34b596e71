-- The two loops: what each keeps, as it starts, one turn, and its end. Assumes nothing.
--   Listing, listing-..     `side_records`: the records of the first sides are written
--   Keeping, keeping-..     `keep_open`: of the runs before i those of one record are at the front, and none from i on was stored over
use Prim.Native.Nat.{ℕ, ◌+◌, ◌*◌, ◌-◌, ◌%◌, ◌≤◌, ◌<◌}
use mathlib.Core.Bool.{Bool, true, false, cond}
use mathlib.Core.List.{List, [], ◌∷◌, ◌++◌, flat_map, append_assoc, append-nil}
use mathlib.Core.Path.{◌≡◌, refl, sym, ap, ◌∙◌}
use native.Mathlib.Decide.{ℕ_discrete}
use native.Mathlib.Omega.{arith}
use borrow.Author.Tests.{eqb-true, eqb-false, eq-eqb, ne_eqb}
use lib.Dec.{eqb}
use lib.ListN.{length, get_or, take}
use lib.Seq.{ext_get_or}
use mir.Val.{bool_byte}
use Rattle.lists.specs.Order.{Ascending}
use Rattle.records.specs.Buffer.{record_of, put_record, records_at}
use Rattle.records.specs.Runs.{runs, Run}
use Rattle.records.specs.Records.{records, record_before}
use Rattle.records.proofs.ByRuns.{run_at, runs_nil}
use Rattle.records.proofs.Records.{length_records_at, records_at_same, records_at_snoc, records_take, length_records, records_get, put_length, put_same, put_other}
use Rattle.geometry.specs.Triangles.{threes}
use Rattle.edges.specs.Edges.{sides}
use Rattle.edges.specs.Table.{edge_key, side_records, open_records, SideRecords, KeptOpen}
use Rattle.edges.proofs.Sides.{length_sides}
use Rattle.edges.proofs.Rows.{length_records_from, records_from_at}
use Rattle.edges.proofs.Lone.{single, runs_open}

-- ---- side_records
module _ (f w₀ : List ℕ) where
  pub record Listing (w : List ℕ) (side : ℕ) : Type 0 where
    pub within : side ≤ length f
    pub same : length w ≡ length w₀
    pub done : (j : ℕ) → j < side → record_of w (2 * j) ≡ get_or (side_records (sides (threes f))) j (0, 0)
    pub rest : (x : ℕ) → 2 * side ≤ x → get_or w x 0 ≡ get_or w₀ x 0

  pub listing_start : Listing w₀ 0
  listing_start = record { within = omega arith; same = refl; done = λ j h. absurd (omega arith); rest = λ x h. refl }

  module _ (whole : length f % 3 ≡ 0) (room : 2 * length f ≤ length w₀) (w : List ℕ) (side : ℕ) (l : Listing w side) where
    pub listing_turn : (key : ℕ) → side < length f → key ≡ edge_key (get_or (sides (threes f)) side (0, 0)) → Listing (put_record w (2 * side) (key, side)) (side + 1)
    listing_turn key h e =
        record {
          within = omega arith;
          same = put_length w (2 * side) (key, side) ∙ l.same;
          done = λ j hj. each j hj (ℕ_discrete j side);
          rest = λ x hx. put_other w (2 * side) (key, side) x (λ q. omega arith) (λ q. omega arith) ∙ l.rest x (omega arith);
        }
      where
        start : (i : ℕ) → i ≡ 0 + i
        start i = omega arith

        each : (j : ℕ) → j < side + 1 → Dec (j ≡ side) → record_of (put_record w (2 * side) (key, side)) (2 * j) ≡ get_or (side_records (sides (threes f))) j (0, 0)
        each j hj (yes q) =
            rw q
            (put_same w (2 * side) (key, side) (omega (arith, l.same)) ∙ (λ t. (e t, start side t))
            ∙ sym (records_from_at 0 (sides (threes f)) side (omega (arith, length_sides f whole))))
        each j hj (no n) =
            let x = put_other w (2 * side) (key, side) (2 * j) (λ q. n (omega arith)) (λ q. omega arith) in
            let y = put_other w (2 * side) (key, side) (2 * j + 1) (λ q. omega arith) (λ q. n (omega arith)) in
            (λ t. (x t, y t)) ∙ l.done j (below j n hj)
          where
            below : (j : ℕ) → (j ≡ side → ⊥) → j < side + 1 → j < side
            below j n h = omega arith

    pub listing_end : length f ≤ side → SideRecords f w₀ w
    listing_end h =
        record {
          table = ext_get_or (0, 0) (records (take (2 * length f) w)) (side_records (sides (threes f))) (count ∙ sym (length_records_from 0 (sides (threes f)) ∙ length_sides f whole))
              (λ i hi. records_get w (length f) i (omega (arith, l.same)) (omega (arith, count)) ∙ l.done i (omega (arith, count, l.within)));
          beyond = λ x hx. l.rest x (omega (arith, l.within));
          same = l.same;
        }
      where
        count : length (records (take (2 * length f) w)) ≡ length f
        count = length_records w (length f) (omega (arith, l.same))

-- ---- keep_open
pub flag_small : (b : Bool) → bool_byte b ≤ 1
flag_small true = omega arith
flag_small false = omega arith

module _ (w₀ : List ℕ) (n : ℕ) where
  pub record Keeping (w : List ℕ) (k i : ℕ) : Type 0 where
    pub low : k ≤ i
    pub within : i ≤ n
    pub room : 2 * n ≤ length w₀
    pub same : length w ≡ length w₀
    pub kept : records_at w 0 k ++ flat_map single (runs (records_at w₀ (0 + 2 * i) (n - i))) ≡ flat_map single (runs (records_at w₀ 0 n))
    pub rest : (x : ℕ) → 2 * i ≤ x → get_or w x 0 ≡ get_or w₀ x 0

  pub keeping_start : 2 * n ≤ length w₀ → Keeping w₀ 0 0
  unfolding records_at
  keeping_start h =
      record {
        low = omega arith;
        within = omega arith;
        room = h;
        same = refl;
        kept = ap (λ (m : ℕ). flat_map single (runs (records_at w₀ 0 m))) (all n);
        rest = λ x g. refl;
      }
    where
      all : (n : ℕ) → n - 0 ≡ n
      all n = omega arith

  module _ (w : List ℕ) (k i : ℕ) (s : Keeping w k i) where
    module _ (i<n : i < n) (e : ℕ) (found : Run w 0 n i e) where
      run : Run w₀ 0 n i e
      run = run_at w₀ w 0 n i e found (λ x a b. s.rest x (omega arith))

      abbrev r : ℕ × ℕ
      r = record_of w (2 * i)

      abbrev R : List (ℕ × ℕ)
      R = records_at w₀ (0 + 2 * i) (e - i)

      front : records_at (put_record w (2 * k) r) 0 k ≡ records_at w 0 k
      front = records_at_same w (put_record w (2 * k) r) 0 k (λ j h. put_other w (2 * k) r (0 + j) (λ q. omega arith) (λ q. omega arith))

      -- a run of one record stays
      stays : (b : Bool) → eqb e (i + 1) ≡ b → records_at (put_record w (2 * k) r) 0 (k + bool_byte b) ≡ records_at w 0 k ++ single R
      unfolding records_at
      stays true t =
          let one : e - i ≡ 1 = omega (arith, eqb-true e (i + 1) t) in
          records_at_snoc (put_record w (2 * k) r) 0 k
          ∙ (λ u. front u ++ ((ap (record_of (put_record w (2 * k) r)) (start (2 * k)) ∙ put_same w (2 * k) r (omega (arith, s.low, s.room, s.same)) ∙ source) u ∷ []))
          ∙ ap (λ (l : List (ℕ × ℕ)). records_at w 0 k ++ l)
          (ap (records_at w₀ (0 + 2 * i)) (sym one) ∙ sym (ap (λ (b : Bool). cond b R []) (eq-eqb (length R) 1 (length_records_at w₀ (0 + 2 * i) (e - i) ∙ one))))
        where
          start : (a : ℕ) → 0 + a ≡ a
          start a = omega arith

          source : record_of w (2 * i) ≡ record_of w₀ (0 + 2 * i)
          source =
              let x = s.rest (2 * i) (omega arith) in
              let y = s.rest (2 * i + 1) (omega arith) in
              (λ u. (x u, y u)) ∙ ap (record_of w₀) (sym (start (2 * i)))
      stays false t =
          ap (records_at (put_record w (2 * k) r) 0) (none k) ∙ front ∙ sym (append-nil (records_at w 0 k))
          ∙ ap (λ (l : List (ℕ × ℕ)). records_at w 0 k ++ l)
          (sym (ap (λ (b : Bool). cond b R []) (ne_eqb (length R) 1 (λ q. eqb-false e (i + 1) t (omega (arith, length_records_at w₀ (0 + 2 * i) (e - i), run.more))))))
        where
          none : (k : ℕ) → k + 0 ≡ k
          none k = omega arith

      pub keeping_turn : Keeping (put_record w (2 * k) r) (k + bool_byte (eqb e (i + 1))) e
      unfolding flat_map
      keeping_turn =
          record {
            low = few (eqb e (i + 1));
            within = run.within;
            room = s.room;
            same = put_length w (2 * k) r ∙ s.same;
            kept = ap (λ (l : List (ℕ × ℕ)). l ++ rest) (stays (eqb e (i + 1)) refl) ∙ append_assoc (records_at w 0 k) (single R) rest
                ∙ ap (λ (l : List (List (ℕ × ℕ))). records_at w 0 k ++ flat_map single l) (sym run.cut) ∙ s.kept;
            rest = λ x h. put_other w (2 * k) r x (λ z. omega (arith, s.low, run.more)) (λ z. omega (arith, s.low, run.more)) ∙ s.rest x (omega (arith, run.more));
          }
        where
          rest : List (ℕ × ℕ)
          rest = flat_map single (runs (records_at w₀ (0 + 2 * e) (n - e)))

          few : (b : Bool) → k + bool_byte b ≤ e
          few true = omega (arith, s.low, run.more)
          few false = omega (arith, s.low, run.more)

    pub keeping_end : n ≤ i → Ascending record_before (records (take (2 * n) w₀)) → KeptOpen w₀ w n k
    unfolding flat_map
    keeping_end h a =
        record {
          count = sym (length_records_at w 0 k) ∙ ap length found;
          result = records_take w k (omega (arith, s.low, s.within, s.room, s.same)) ∙ found;
          within = omega (arith, s.low, s.within);
          beyond = λ x hx. s.rest x (omega (arith, s.within));
          same = s.same;
        }
      where
        none : flat_map single (runs (records_at w₀ (0 + 2 * i) (n - i))) ≡ []
        none = ap (flat_map single) (runs_nil w₀ (0 + 2 * i) (n - i) (omega arith))

        found : records_at w 0 k ≡ open_records (records (take (2 * n) w₀))
        found =
            sym (ap (λ (l : List (ℕ × ℕ)). records_at w 0 k ++ l) none ∙ append-nil (records_at w 0 k)) ∙ s.kept
            ∙ ap (λ (l : List (ℕ × ℕ)). flat_map single (runs l)) (sym (records_take w₀ n s.room)) ∙ runs_open (records (take (2 * n) w₀)) a
