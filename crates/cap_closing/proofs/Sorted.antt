-- Records of a key and a place, sorted: the first of each key is the first place that has it. Assumes nothing.
--   first_first     a sorted record is the first with its key exactly if its place is
--   found           what marking leaves
use Prim.Native.Nat.{ℕ, ◌+◌, ◌*◌, ◌-◌, ◌≤◌, ◌<◌}
use mathlib.Core.Path.{◌≡◌, sym, ap, ◌∙◌, subst}
use mathlib.Core.Bool.{true}
use mathlib.Core.List.{List}
use mathlib.Core.Logic.{⊎_elim}
use native.Mathlib.Omega.{arith}
use lib.ListN.{length, get_or}
use lib.Seq.{get_or-drop, get_or-take}
use Rattle.lists.specs.Lists.{count, up_to}
use Rattle.lists.proofs.Counts.{count_places}
use Rattle.lists.proofs.Multiplicity.{count_sort_by}
use Rattle.lists.proofs.Orders.{never}
use Rattle.lists.proofs.Places.{length_up, at_up}
use Rattle.lists.proofs.Bools.{both_ways}
use Rattle.records.specs.Buffer.{record_of, records_at, key_in, payload_in}
use Rattle.records.specs.Records.{record_before}
use Rattle.records.proofs.Records.{le_or_lt, length_records_at, records_at_get}
use Rattle.sorting.specs.Sorting.{SortedPlaces}
use Rattle.sorting.proofs.Places as places
use Rattle.sorting.proofs.Sorting.{SortedPart}
use Rattle.cap_closing.specs.Steps.{is_first, bit, FirstsMarked, Found}
use Rattle.cap_closing.proofs.Places.{first_none, first_some}

module _ (w w' : List ℕ) (a left : ℕ) (room : a + 4 * left ≤ length w) (S : SortedPart w w' a left)
    (whole : (j : ℕ) → j < left → payload_in w a j ≡ j) where
  is : (j : ℕ) → j < left → record_of w (a + 2 * j) ≡ (key_in w a j, j)
  is j h = λ t. (key_in w a j, whole j h t)

  found_at : (i : ℕ) → i < left → places.RecordOf (key_in w a) w w' a left room is S i
  found_at = places.found (key_in w a) w w' a left room is S

  own : (j : ℕ) → j < left → key_in w' a j ≡ key_in w a (payload_in w' a j)
  own = places.key_of (key_in w a) w w' a left room is S

  ascend : (i j : ℕ) → i ≤ j → j < left → key_in w' a i ≡ key_in w' a j → payload_in w' a i ≤ payload_in w' a j
  ascend = places.places_ascend (key_in w a) w w' a left room is S

  pub sorted_there : SortedPlaces w' a left
  sorted_there = places.sorted_places (key_in w a) w w' a left room is S

  -- no earlier record has the key, and no earlier place: either way round
  first_first : (j : ℕ) → j < left → is_first (key_in w' a) j ≡ is_first (key_in w a) (payload_in w' a j)
  first_first j h = both_ways (is_first (key_in w' a) j) (is_first (key_in w a) (payload_in w' a j)) there back
    where
      there : is_first (key_in w' a) j ≡ true → is_first (key_in w a) (payload_in w' a j) ≡ true
      there t = first_none (key_in w a) (payload_in w' a j) (λ q l e. later q l e (found_at q (let m = sorted_there.low j h in omega arith)))
        where
          later : (q : ℕ) → q < payload_in w' a j → key_in w a q ≡ key_in w a (payload_in w' a j) → places.RecordOf (key_in w a) w w' a left room is S q → ⊥
          later q l e r =
              let k : key_in w' a r.number ≡ key_in w' a j = r.key ∙ e ∙ sym (own j h) in
              ⊎_elim (λ (g : j ≤ r.number). let x = ascend j r.number g r.low (sym k) in let y = r.place in omega arith)
              (λ (g : r.number < j). never (is_first (key_in w' a) j) t (first_some (key_in w' a) j r.number g k)) (le_or_lt j r.number)

      back : is_first (key_in w a) (payload_in w' a j) ≡ true → is_first (key_in w' a) j ≡ true
      back t =
          first_none (key_in w' a) j (λ i l e.
          let x = ascend i j (omega arith) h e in
          let y = sorted_there.differ i j l h in
          never (is_first (key_in w a) (payload_in w' a j)) t
          (first_some (key_in w a) (payload_in w' a j) (payload_in w' a i) (less x y) (sym (own i (omega arith)) ∙ e ∙ own j h)))
        where
          less : {x y : ℕ} → x ≤ y → (x ≡ y → ⊥) → x < y
          less p q = omega arith

  counts : count (is_first (key_in w' a)) (up_to left) ≡ count (is_first (key_in w a)) (up_to left)
  counts =
      count_places (is_first (key_in w' a)) (λ (r : ℕ × ℕ). is_first (key_in w a) r.1) 0 (0, 0) (up_to left) (records_at w' a left) (length_up 0 left ∙ sym (length_records_at w' a left))
      (λ j h.
      let l = length_up 0 left in
      let j<left : j < left = omega arith in
      ap (is_first (key_in w' a)) (at_up 0 left j j<left ∙ start j) ∙ first_first j j<left
      ∙ ap (λ (r : ℕ × ℕ). is_first (key_in w a) r.1) (sym (records_at_get w' a left j j<left)))
      ∙ ap (count (λ (r : ℕ × ℕ). is_first (key_in w a) r.1)) (places.sorts (key_in w a) w w' a left room is S)
      ∙ count_sort_by record_before (λ (r : ℕ × ℕ). is_first (key_in w a) r.1) (records_at w a left)
      ∙ count_places (λ (r : ℕ × ℕ). is_first (key_in w a) r.1) (is_first (key_in w a)) (0, 0) 0 (records_at w a left) (up_to left) (length_records_at w a left ∙ sym (length_up 0 left))
      (λ j h.
      let l = length_records_at w a left in
      let j<left : j < left = omega arith in
      ap (λ (r : ℕ × ℕ). is_first (key_in w a) r.1) (places.unsorted_at (key_in w a) w w' a left room is S j j<left)
      ∙ ap (is_first (key_in w a)) (sym (at_up 0 left j j<left ∙ start j)))
    where
      start : (i : ℕ) → 0 + i ≡ i
      start i = omega arith

  module _ (firsts r : ℕ) (u : List ℕ) (behind : a + 4 * left ≤ firsts) (M : FirstsMarked a firsts left r w' u) where
    before_same : (x : ℕ) → x < a → get_or w' x 0 ≡ get_or w x 0
    before_same x h = sym (get_or-take a w' x 0 h) ∙ ap (λ (l : List ℕ). get_or l x 0) S.before ∙ get_or-take a w x 0 h

    beyond_same : (x : ℕ) → a + 4 * left ≤ x → get_or w' x 0 ≡ get_or w x 0
    beyond_same x h =
        let q : a + 4 * left + (x - (a + 4 * left)) ≡ x = omega arith in
        ap (λ (y : ℕ). get_or w' y 0) (sym q) ∙ sym (get_or-drop (a + 4 * left) w' (x - (a + 4 * left)) 0)
        ∙ ap (λ (l : List ℕ). get_or l (x - (a + 4 * left)) 0) S.beyond
        ∙ get_or-drop (a + 4 * left) w (x - (a + 4 * left)) 0 ∙ ap (λ (y : ℕ). get_or w y 0) q

    pub found : Found a firsts left r w u
    found =
        record {
          marks = λ i h.
              let o = found_at i h in
              subst (λ (x : ℕ). get_or u (firsts + x) 0 ≡ bit (is_first (key_in w a) x)) o.place (M.marks o.number o.low ∙ ap bit (first_first o.number o.low));
          counted = M.counted ∙ counts;
          long = M.long ∙ S.same;
          below = λ x h. M.below x (omega arith) ∙ before_same x h;
          beyond = λ x h. M.beyond x h ∙ beyond_same x (omega arith);
        }
