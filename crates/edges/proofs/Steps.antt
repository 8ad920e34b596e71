-- The steps of `sort_sides` and `open_edges`, put together. Assumes nothing.
--   sorts_sides       the records of the sides, and then their sort
--   ascends           what `keep_open` asks
--   opens             the edge table, those that stay, and the clearing behind them
use Prim.Native.Nat.{ℕ, ◌+◌, ◌*◌, ◌-◌, ◌%◌, ◌≤◌, ◌<◌}
use mathlib.Core.List.{List, map}
use mathlib.Core.Logic.{⊎_elim}
use mathlib.Core.Path.{◌≡◌, sym, ap, subst, ◌∙◌}
use native.Mathlib.Omega.{arith}
use lib.ListN.{length, get_or, take, drop, length-drop, length-map, get_or-replicate, get_or-map}
use lib.Seq.{ext_get_or, get_or-take, get_or-drop}
use Rattle.lists.specs.Order.{Ascending}
use Rattle.lists.specs.Regions.{PartZeroed}
use Rattle.lists.proofs.Mapped.{of_each}
use Rattle.lists.proofs.Members.{get_d_mem}
use Rattle.lists.proofs.SortBy.{ascending_sort_by}
use Rattle.lists.proofs.Sequences.{get_d_any}
use Rattle.records.specs.Records.{records, record_before, sorted}
use Rattle.records.proofs.Comparing.{record_order}
use Rattle.records.proofs.Records.{le_or_lt, records_at_same, records_take, length_records, records_get}
use Rattle.sorting.specs.Sorting.{SortedRecords}
use Rattle.geometry.specs.Triangles.{threes}
use Rattle.edges.specs.Edges.{sides, open_edges}
use Rattle.edges.specs.Table.{edge_key, side_of, side_records, edge_table, open_records, SideRecords, EdgeTable, KeptOpen, OpenEdges}
use Rattle.edges.proofs.Sides.{Small, length_sides, sides_small}
use Rattle.edges.proofs.Rows.{Row, table_open, open_rows}

-- words that agree from a place on
drop_same : (u w : List ℕ) (n : ℕ) → length u ≡ length w → ((x : ℕ) → n ≤ x → get_or u x 0 ≡ get_or w x 0) → drop n u ≡ drop n w
drop_same u w n e f =
    ext_get_or 0 (drop n u) (drop n w) (length-drop n u ∙ ap (λ (k : ℕ). k - n) e ∙ sym (length-drop n w)) (λ i h.
    get_or-drop n u i 0 ∙ f (n + i) (omega arith) ∙ sym (get_or-drop n w i 0))

pub sorts_sides : (f w w₁ w₂ : List ℕ) → SideRecords f w w₁ → SortedRecords w₁ w₂ (length f) → EdgeTable f w w₂
sorts_sides f w w₁ w₂ a b =
    record {
      table = b.result ∙ ap sorted a.table;
      scratch = b.scratch;
      beyond = b.beyond ∙ drop_same w₁ w (4 * length f) a.same (λ x h. a.beyond x (omega arith));
      same = b.same ∙ a.same;
    }

pub ascends : (f w w₁ : List ℕ) → EdgeTable f w w₁ → Ascending record_before (records (take (2 * length f) w₁))
ascends f w w₁ t = subst (Ascending record_before) (sym t.table) (ascending_sort_by record_before record_order (side_records (sides (threes f))))

-- within a list it does not matter what stands for nothing

module _ (f w w₁ w₂ w₃ : List ℕ) (k : ℕ) (whole : length f % 3 ≡ 0) (room : 4 * length f ≤ length w) (bound : (i : ℕ) → get_or f i 0 < 4294967296)
    (t : EdgeTable f w w₁) (o : KeptOpen w₁ w₂ (length f) k) (z : PartZeroed w₂ w₃ (2 * k) (2 * (length f - k))) where
  abbrev S : List (ℕ × ℕ)
  S = sides (threes f)

  small : (i : ℕ) → Small (get_or S i (0, 0))
  small = sides_small f whole bound

  same : length w₃ ≡ length w
  same = z.long ∙ o.same ∙ t.same

  long : 2 * k ≤ length w₃
  long = omega (arith, same, o.within)

  result : records (take (2 * k) w₃) ≡ open_records (edge_table S)
  result =
      records_take w₃ k long ∙ records_at_same w₂ w₃ 0 k (λ i h. z.rest (0 + i) (λ j g e. omega arith))
      ∙ sym (records_take w₂ k (omega (arith, long, z.long))) ∙ o.result ∙ ap open_records t.table

  ends : map (side_of S) (records (take (2 * k) w₃)) ≡ open_edges (threes f)
  unfolding open_edges
  ends = ap (map (side_of S)) result ∙ table_open S small

  many : length (records (take (2 * k) w₃)) ≡ k
  many = length_records w₃ k long

  module _ (i : ℕ) (h : i < k) where
    abbrev r : ℕ × ℕ
    r = (get_or w₃ (2 * i) 0, get_or w₃ (2 * i + 1) 0)

    at : get_or (records (take (2 * k) w₃)) i (0, 0) ≡ r
    at = records_get w₃ k i long h

    row : Row S small 0 r
    row =
        subst (Row S small 0) at
        (of_each (Row S small 0) (get_d_mem (records (take (2 * k) w₃)) i (0, 0) (omega (arith, many)))
        (rw result (open_rows S small)))

    side : get_or S (get_or w₃ (2 * i + 1) 0) (0, 0) ≡ get_or (open_edges (threes f)) i (0, 0)
    side =
        ap (side_of S) (sym at) ∙ sym (get_or-map (side_of S) (records (take (2 * k) w₃)) i (0, 0))
        ∙ get_d_any (map (side_of S) (records (take (2 * k) w₃))) i (side_of S (0, 0)) (0, 0) (omega (arith, length-map (records (take (2 * k) w₃)) (side_of S), many))
        ∙ ap (λ (l : List (ℕ × ℕ)). get_or l i (0, 0)) ends

  cleared : (x : ℕ) → 2 * k ≤ x → x < 4 * length f → get_or w₃ x 0 ≡ 0
  cleared x h l =
      ⊎_elim
      (λ (g : 2 * length f ≤ x).
      z.rest x (λ j hj e. omega (arith, o.within)) ∙ o.beyond x g
      ∙ ap (λ (n : ℕ). get_or w₁ n 0) (there (2 * length f) x g) ∙ sym (get_or-drop (2 * length f) w₁ (x - 2 * length f) 0)
      ∙ sym (get_or-take (2 * length f) (drop (2 * length f) w₁) (x - 2 * length f) 0 (omega arith))
      ∙ ap (λ (m : List ℕ). get_or m (x - 2 * length f) 0) t.scratch ∙ get_or-replicate (2 * length f) (x - 2 * length f) 0 0 (omega arith))
      (λ (g : x < 2 * length f). ap (λ (n : ℕ). get_or w₃ n 0) (there (2 * k) x h) ∙ z.zero (x - 2 * k) (omega (arith, o.within)))
      (le_or_lt (2 * length f) x)
    where
      there : (a x : ℕ) → a ≤ x → x ≡ a + (x - a)
      there a x h = omega arith

  beyond : drop (4 * length f) w₃ ≡ drop (4 * length f) w
  beyond =
      drop_same w₃ w₁ (4 * length f) (z.long ∙ o.same) (λ x h. z.rest x (λ j hj e. omega (arith, o.within)) ∙ o.beyond x (omega arith)) ∙ t.beyond

  pub opens : OpenEdges f w w₃ k
  opens =
      record {
        count = sym many ∙ sym (length-map (records (take (2 * k) w₃)) (side_of S)) ∙ ap length ends;
        within = o.within;
        result = result;
        ends = ends;
        key = λ i h. (row i h).key ∙ ap edge_key (side i h);
        number = λ i h. omega (arith, (row i h).within, length_sides f whole);
        side = side;
        zeros = cleared;
        beyond = beyond;
        same = same;
      }
