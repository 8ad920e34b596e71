-- The steps of `group_edges` together, each table a list of its own. Assumes nothing.
--   records_up                    words as records
--   edges_length, edges_at        the edges that the keys hold
--   ends_words, ends_low, ends_asked   the ends as words; what the finder of components asks of them
--   numbers_sorted                the records once they are sorted
--   payload_low, edges_words, counts_words, groups_counted   what the steps behind the sort ask and leave
--   in_room                       the tables in the room that was lent
use Prim.Native.Nat.{ℕ, ◌+◌, ◌*◌, ◌-◌, ◌/◌, ◌≤◌, ◌<◌}
use native.Mathlib.Omega.{arith}
use mathlib.Core.Path.{◌≡◌, refl, sym, ap, ◌∙◌, subst}
use mathlib.Core.Bool.{Bool, cond, not, ◌&&◌}
use mathlib.Core.List.Memᴰ
use mathlib.Core.List.{List, [], ◌∷◌, ◌++◌, map, flat_map, Memᴰ}
use mathlib.Core.Logic.{◌⊎◌, inl, inr, ⊎_elim}
use lib.Dec.{eqb}
use lib.ListN.{get_or, length, take, drop, length-map, length-append, get_or-append}
use lib.Seq.{ext_get_or, get_or-drop, get_or-take, take_all, take_at, drop_at, drop-drop, take-append-le, length-take-le}
use Rattle.std.proofs.lemmas.List.{get_or-append_right}
use Rattle.lists.specs.Lists.{every, count, up_to}
use Rattle.lists.specs.Regions.{view}
use Rattle.lists.proofs.Mapped.{Each, each_of, each_sort_by, each_at}
use Rattle.lists.proofs.Places.{of_up, length_up, at_map_up}
use Rattle.lists.proofs.Sequences.{flat_map_lem, flat_same, map_below}
use Rattle.components.specs.Table.{ItemLabels, ComponentNumbers}
use Rattle.edges.specs.Edges.{pair_words}
use Rattle.words.specs.Packed.{pair_first, pair_second}
use Rattle.records.specs.Buffer.{record_of, records_at}
use Rattle.records.specs.Records.{sorted, record_before}
use Rattle.records.specs.Runs.{runs}
use Rattle.records.proofs.Records.{le_or_lt, length_records_at, records_at_get, records_take}
use Rattle.sorting.specs.Sorting.{SortedRecords}
use Rattle.boundary_groups.specs.Groups.{nth_edge, groups, is_ring, component_words}
use Rattle.boundary_groups.specs.Staged.{edge_in, keyed_edges, grouped, GroupRoom, pair_at, PairsPut, turns_of, run_words, ComponentsPut}
use Rattle.boundary_groups.proofs.Stores.{pairs_words}
use Rattle.boundary_groups.proofs.Together.{of_groups, group_told}
use Rattle.boundary_groups.proofs.Rings.{every_same, two_ends_lem, ends_twice, ring_degrees}
use Rattle.boundary_groups.proofs.Numbered.{EndsOf}
use Rattle.boundary_groups.proofs.Listed.{numbered, unsorted, sorted_runs, sorted_list, map_map}

pub records_up : (w : List ℕ) (k : ℕ) → records_at w 0 k ≡ map (λ j. record_of w (2 * j)) (up_to k)
records_up w k =
    ext_get_or (0, 0) (records_at w 0 k) (map (λ j. record_of w (2 * j)) (up_to k)) (long ∙ sym (length-map (up_to k) (λ j. record_of w (2 * j)) ∙ length_up 0 k)) (λ i h.
    let l : i < k = omega (arith, long) in
    records_at_get w 0 k i l ∙ ap (λ (x : ℕ). record_of w x) (same i) ∙ sym (at_map_up (λ (j : ℕ). record_of w (2 * j)) (0, 0) 0 k i l))
  where
    long : length (records_at w 0 k) ≡ k
    long = length_records_at w 0 k

    same : (i : ℕ) → 0 + 2 * i ≡ 2 * (0 + i)
    same i = omega arith

halves : (i : ℕ) → (i ≡ 2 * (i / 2)) ⊎ (i ≡ 2 * (i / 2) + 1)
halves i = ⊎_elim (λ (h : i ≤ 2 * (i / 2)). inl (omega arith)) (λ (h : 2 * (i / 2) < i). inr (omega arith)) (le_or_lt i (2 * (i / 2)))

every_map : {A B : Type 0} (p : B → Bool) (f : A → B) (l : List A) → every p (map f l) ≡ every (λ x. p (f x)) l
every_map p f [] = refl
every_map p f (x ∷ l) = ap (λ (b : Bool). p (f x) && b) (every_map p f l)

two_each : {A : Type 0} (f g : A → ℕ) (l : List A) → length (flat_map (λ x. f x ∷ g x ∷ []) l) ≡ 2 * length l
unfolding flat_map
two_each f g [] = refl
two_each f g (x ∷ l) = let h = two_each f g l in omega arith

-- ---- the edges

module _ (w : List ℕ) (k : ℕ) where
  pub edges_length : length (keyed_edges w k) ≡ k
  unfolding keyed_edges
  edges_length = length-map (up_to k) (edge_in w) ∙ length_up 0 k

  pub edges_at : (i : ℕ) → i < k → nth_edge (keyed_edges w k) i ≡ edge_in w i
  unfolding keyed_edges
  edges_at i h = at_map_up (edge_in w) (0, 0) 0 k i h ∙ ap (edge_in w) (omega arith)

-- ---- the records, once they are numbered and sorted

pub numbers_sorted : (k : ℕ) (number : ℕ → ℕ) (put beyond m : List ℕ) → length put ≡ 2 * k → 4 * k ≤ length put + length beyond → PairsPut (numbered number) put k
    → SortedRecords (put ++ beyond) m k → records_at (take (2 * k) m) 0 k ≡ sorted (map (numbered number) (up_to k))
numbers_sorted k number put beyond m e room P S =
    sym (records_take (take (2 * k) m) k (omega (arith, long))) ∙ ap (λ (l : List ℕ). Rattle.records.specs.Records.records l) (take_all (2 * k) (take (2 * k) m) (omega (arith, long)))
    ∙ S.result ∙ ap sorted (records_take (put ++ beyond) k (simp length-append (omega arith)) ∙ records_up (put ++ beyond) k
    ∙ map_below (λ j. record_of (put ++ beyond) (2 * j)) (numbered number) k (λ i l t. (first i l t, second i l t)))
  where
    long : length (take (2 * k) m) ≡ 2 * k
    long = length-take-le (2 * k) m (rw S.same (simp length-append (omega arith)))

    first : (i : ℕ) → i < k → get_or (put ++ beyond) (2 * i) 0 ≡ number i
    first i l = get_or-append put beyond 0 (2 * i) (omega arith) ∙ P.first i l

    second : (i : ℕ) → i < k → get_or (put ++ beyond) (2 * i + 1) 0 ≡ i
    second i l = get_or-append put beyond 0 (2 * i + 1) (omega arith) ∙ P.second i l

-- ---- the ends

pub ends_put : (w front ends : List ℕ) (k at half : ℕ) → front ≡ take at w → 2 * k ≤ at → half ≡ k → PairsPut (edge_in front) ends half → PairsPut (edge_in w) ends k
ends_put w front ends k at half f h e P = record {
  first = λ i l. P.first i (omega arith) ∙ ap pair_first (same i l);
  second = λ i l. P.second i (omega arith) ∙ ap pair_second (same i l);
}
  where
    same : (i : ℕ) → i < k → get_or front (2 * i) 0 ≡ get_or w (2 * i) 0
    same i l = ap (λ (x : List ℕ). get_or x (2 * i) 0) f ∙ get_or-take at w (2 * i) 0 (omega arith)

module _ (k n m at : ℕ) (w : List ℕ) (R : GroupRoom w k n m at) (ends : List ℕ) (ends_long : length ends ≡ 2 * k) (A : PairsPut (edge_in w) ends k) where
  abbrev es : List (ℕ × ℕ)
  es = keyed_edges w k

  pub ends_words : ends ≡ pair_words (keyed_edges w k)
  unfolding keyed_edges
  ends_words = sym (take_all (2 * k) ends (omega arith)) ∙ pairs_words (edge_in w) ends k (omega arith) A

  pub ends_low : (i : ℕ) → i < length ends → get_or ends i 0 < m
  ends_low i h =
      ⊎_elim
      (λ (e : i ≡ 2 * (i / 2)).
      let x = ap (λ (y : ℕ). get_or ends y 0) e in
      let f = A.first (i / 2) (omega arith) in
      let l = R.first_low (i / 2) (omega arith) in
      omega arith)
      (λ (e : i ≡ 2 * (i / 2) + 1).
      let x = ap (λ (y : ℕ). get_or ends y 0) e in
      let f = A.second (i / 2) (omega arith) in
      let l = R.second_low (i / 2) (omega arith) in
      omega arith)
      (halves i)

  pub ends_asked : ItemLabels ends (length ends / 2) 2 m
  ends_asked = record { some = omega arith; long = omega arith; below = ends_low }

  -- ---- behind the sort

  module _ (c : List ℕ) (numbers : ComponentNumbers ends k 2 c) (degrees : List ℕ) (tallied : (v : ℕ) → v < m → get_or degrees v 0 ≡ count (eqb v) ends) (records : List ℕ)
      (records_long : length records ≡ 2 * k) (ordered : records_at records 0 k ≡ sorted (map (numbered (λ i. get_or c i 0)) (up_to k))) where
    abbrev number : ℕ → ℕ
    number i = get_or c i 0

    pub payload_low : (j : ℕ) → j < k → get_or records (2 * j + 1) 0 < k
    payload_low j l =
        let e = each_at (λ y. y.1 < k) (0, 0) (sorted all) j rows (omega (arith, long)) in
        let x = ap (λ (y : List (ℕ × ℕ)). (get_or y j (0, 0)).1) (sym ordered) ∙ ap (λ (r : ℕ × ℕ). r.1) (records_at_get records 0 k j l) in
        let y : get_or records (0 + 2 * j + 1) 0 ≡ get_or records (2 * j + 1) 0 = ap (λ (z : ℕ). get_or records (z + 1) 0) (front (2 * j)) in
        omega arith
      where
        front : (z : ℕ) → 0 + z ≡ z
        front z = omega arith

        all : List (ℕ × ℕ)
        all = map (numbered number) (up_to k)

        long : length (sorted all) ≡ k
        long = ap length (sym ordered) ∙ length_records_at records 0 k

        rows : Each (λ y. y.1 < k) (sorted all)
        rows =
            each_sort_by record_before (λ y. y.1 < k) all (each_of (λ y. y.1 < k) all (λ y n.
            let r = Memᴰ.of_map (numbered number) (up_to k) n in
            let o = (of_up 0 k r.1).1 in
            let e : r.0 ≡ y.1 = ap (λ (z : ℕ × ℕ). z.1) r.2 in
            omega arith))

    E : EndsOf es ends
    E =
        record {
          first = λ i l. let o : i < k = omega (arith, edges_length w k) in
              ap (λ (x : ℕ). get_or ends x 0) (even i) ∙ A.first i o ∙ ap (λ (e : ℕ × ℕ). e.0) (sym (edges_at w k i o));
          second = λ i l. let o : i < k = omega (arith, edges_length w k) in
              ap (λ (x : ℕ). get_or ends x 0) (odd i) ∙ A.second i o ∙ ap (λ (e : ℕ × ℕ). e.1) (sym (edges_at w k i o));
        }
      where
        even : (i : ℕ) → i * 2 + 0 ≡ 2 * i
        even i = omega arith

        odd : (i : ℕ) → i * 2 + 1 ≡ 2 * i + 1
        odd i = omega arith

    N : ComponentNumbers ends (length es) 2 c
    N = subst (λ (x : ℕ). ComponentNumbers ends x 2 c) (sym (edges_length w k)) numbers

    sorted_records : records_at records 0 k ≡ sorted (unsorted es ends E c N)
    sorted_records = ordered ∙ ap (λ (x : ℕ). sorted (map (numbered number) (up_to x))) (sym (edges_length w k))

    edge_of : (j : ℕ) → j < k → pair_at ends j ≡ nth_edge es j
    edge_of j l = (λ t. (A.first j l t, A.second j l t)) ∙ sym (edges_at w k j l)

    abbrev degree : ℕ → ℕ
    degree v = count (eqb v) (pair_words es)

    turns_is : (j : ℕ) → j < k → turns_of ends degrees (numbered number j) ≡ (two_ends_lem (nth_edge es j) && ends_twice degree (nth_edge es j))
    unfolding turns_of
    turns_is j l =
        ap (λ (e : ℕ × ℕ). not (eqb e.0 e.1) && (eqb (get_or degrees e.0 0) 2 && eqb (get_or degrees e.1 0) 2)) (edge_of j l)
        ∙ (λ t. two_ends_lem (nth_edge es j) && (eqb (degree_is (nth_edge es j).0 low0 t) 2 && eqb (degree_is (nth_edge es j).1 low1 t) 2))
      where
        degree_is : (v : ℕ) → v < m → get_or degrees v 0 ≡ degree v
        degree_is v h = tallied v h ∙ ap (count (eqb v)) ends_words

        low0 : (nth_edge es j).0 < m
        low0 = subst (λ (e : ℕ × ℕ). e.0 < m) (sym (edges_at w k j l)) (R.first_low j l)

        low1 : (nth_edge es j).1 < m
        low1 = subst (λ (e : ℕ × ℕ). e.1 < m) (sym (edges_at w k j l)) (R.second_low j l)

    ring_is : (gr : List ℕ) → Memᴰ gr (groups es) → every (turns_of ends degrees) (map (numbered number) gr) ≡ is_ring (map (nth_edge es) gr)
    ring_is gr mem =
        every_map (turns_of ends degrees) (numbered number) gr
        ∙ every_same (λ j. turns_of ends degrees (numbered number j)) (λ j. two_ends_lem (nth_edge es j) && ends_twice degree (nth_edge es j)) gr (λ j o.
        turns_is j (omega (arith, edges_length w k, (group_told es gr (of_groups es gr mem) j o).0)))
        ∙ sym (every_map (λ e. two_ends_lem e && ends_twice degree e) (nth_edge es) gr)
        ∙ sym (ring_degrees es gr mem)

    pub edges_words : (out : List ℕ) → length out ≡ 2 * k → PairsPut (λ (j : ℕ). pair_at ends (get_or records (2 * j + 1) 0)) out k
        → out ≡ pair_words (flat_map (λ g. g) (grouped (keyed_edges w k)))
    edges_words out e P =
        sym (take_all (2 * k) out (omega arith))
        ∙ pairs_words (λ (j : ℕ). pair_at ends (get_or records (2 * j + 1) 0)) out k (omega arith) P
        ∙ ap pair_words (map_below (λ (j : ℕ). pair_at ends (get_or records (2 * j + 1) 0)) (λ j. nth_edge es (get_or records (2 * j + 1) 0)) k (λ j l.
        edge_of (get_or records (2 * j + 1) 0) (payload_low j l))
        ∙ sym (map_map (λ x. nth_edge es x.1) (λ j. record_of records (2 * j)) (up_to k))
        ∙ ap (map (λ x. nth_edge es x.1)) (sym (records_up records k) ∙ sorted_records)
        ∙ sorted_list es ends E c N (nth_edge es))

    module _ (counts : List ℕ) (c' : ℕ) (Q : ComponentsPut ends degrees records counts c') where
      few : c' ≤ k
      few = omega (arith, Q.few)

      abbrev pair_of : List (ℕ × ℕ) → List ℕ
      pair_of e = length e ∷ cond (is_ring e) 1 0 ∷ []

      pub counts_words : take (2 * c') counts ≡ component_words (grouped (keyed_edges w k))
      unfolding component_words run_words
      counts_words =
          let half : length records / 2 ≡ k = omega arith in
          Q.words
          ∙ ap (λ (x : ℕ). flat_map (run_words (turns_of ends degrees)) (runs (records_at records 0 x))) half
          ∙ ap (λ (l : List (ℕ × ℕ)). flat_map (run_words (turns_of ends degrees)) (runs l)) sorted_records
          ∙ ap (flat_map (run_words (turns_of ends degrees))) (sorted_runs es ends E c N)
          ∙ flat_map_lem (run_words (turns_of ends degrees)) (map (numbered number)) (groups es)
          ∙ flat_same (λ gr. run_words (turns_of ends degrees) (map (numbered number) gr)) (λ gr. pair_of (map (nth_edge es) gr)) (groups es) (λ gr mem t.
          (length-map gr (numbered number) ∙ sym (length-map gr (nth_edge es))) t ∷ cond (ring_is gr mem t) 1 0 ∷ [])
          ∙ sym (flat_map_lem pair_of (map (nth_edge es)) (groups es))

      pub groups_counted : 2 * k ≤ length counts → c' ≡ length (groups (keyed_edges w k))
      unfolding component_words
      groups_counted h =
          let x = length-take-le (2 * c') counts (omega (arith, few)) in
          let y = ap length counts_words in
          let v = two_each (λ e. length e) (λ e. cond (is_ring e) 1 0) (grouped es) in
          let o = length-map (groups es) (map (nth_edge es)) in
          omega arith

-- ---- the tables in the room: what stands before `at`, the ends, the components' table, the degrees, the edges in groups, the components

module _ (k n m at : ℕ) (few : k ≤ n) (before ends table degrees edges beyond counts : List ℕ) (before_long : length before ≡ at) (ends_long : length ends ≡ 2 * n)
    (table_long : length table ≡ 2 * n + m) (degrees_long : length degrees ≡ m) (edges_long : length edges ≡ 2 * k) (all_edges : length (edges ++ beyond) ≡ 2 * n) where
  abbrev room : List ℕ
  room = before ++ (ends ++ (table ++ (degrees ++ ((edges ++ beyond) ++ counts))))

  to_ends : drop at room ≡ ends ++ (table ++ (degrees ++ ((edges ++ beyond) ++ counts)))
  to_ends = drop_at before (ends ++ (table ++ (degrees ++ ((edges ++ beyond) ++ counts)))) at before_long

  to_table : drop (at + 2 * n) room ≡ table ++ (degrees ++ ((edges ++ beyond) ++ counts))
  to_table = sym (drop-drop (2 * n) at room) ∙ ap (drop (2 * n)) to_ends ∙ drop_at ends (table ++ (degrees ++ ((edges ++ beyond) ++ counts))) (2 * n) ends_long

  to_degrees : drop (at + 2 * n + (2 * n + m)) room ≡ degrees ++ ((edges ++ beyond) ++ counts)
  to_degrees = sym (drop-drop (2 * n + m) (at + 2 * n) room) ∙ ap (drop (2 * n + m)) to_table ∙ drop_at table (degrees ++ ((edges ++ beyond) ++ counts)) (2 * n + m) table_long

  to_edges : drop (at + 2 * n + (2 * n + m) + m) room ≡ (edges ++ beyond) ++ counts
  to_edges = sym (drop-drop m (at + 2 * n + (2 * n + m)) room) ∙ ap (drop m) to_degrees ∙ drop_at degrees ((edges ++ beyond) ++ counts) m degrees_long

  to_counts : drop (at + 2 * n + (2 * n + m) + m + 2 * n) room ≡ counts
  to_counts = sym (drop-drop (2 * n) (at + 2 * n + (2 * n + m) + m) room) ∙ ap (drop (2 * n)) to_edges ∙ drop_at (edges ++ beyond) counts (2 * n) all_edges

  pub edges_in_room : view (before ++ (ends ++ (table ++ (degrees ++ ((edges ++ beyond) ++ counts))))) (at + 4 * n + 2 * m) (2 * k) ≡ edges
  edges_in_room =
      let e : at + 4 * n + 2 * m ≡ at + 2 * n + (2 * n + m) + m = omega arith in
      ap (λ (x : ℕ). take (2 * k) (drop x room)) e ∙ ap (take (2 * k)) to_edges ∙ take-append-le (2 * k) (edges ++ beyond) counts (omega arith)
      ∙ take_at edges beyond (2 * k) edges_long

  pub counts_in_room : (c : ℕ) → view (before ++ (ends ++ (table ++ (degrees ++ ((edges ++ beyond) ++ counts))))) (at + 6 * n + 2 * m) (2 * c) ≡ take (2 * c) counts
  counts_in_room c =
      let e : at + 6 * n + 2 * m ≡ at + 2 * n + (2 * n + m) + m + 2 * n = omega arith in
      ap (λ (x : ℕ). take (2 * c) (drop x room)) e ∙ ap (take (2 * c)) to_counts

-- what the sort left behind the records
pub between_kept : (w front put m : List ℕ) (k at : ℕ) → front ≡ take at w → length put ≡ 2 * k → 2 * k ≤ at → drop (4 * k) m ≡ drop (4 * k) (put ++ drop (2 * k) front)
    → (x : ℕ) → 4 * k ≤ x → x < at → get_or m x 0 ≡ get_or w x 0
between_kept w front put m k at f p h e x lo hi =
    let d : 4 * k + (x - 4 * k) ≡ x = omega arith in
    let g : 2 * k + (x - 2 * k) ≡ x = omega arith in
    ap (λ (y : ℕ). get_or m y 0) (sym d) ∙ sym (get_or-drop (4 * k) m (x - 4 * k) 0) ∙ ap (λ (l : List ℕ). get_or l (x - 4 * k) 0) e
    ∙ get_or-drop (4 * k) (put ++ drop (2 * k) front) (x - 4 * k) 0 ∙ ap (λ (y : ℕ). get_or (put ++ drop (2 * k) front) y 0) d
    ∙ get_or-append_right put (drop (2 * k) front) (2 * k) x 0 p (omega arith) ∙ get_or-drop (2 * k) front (x - 2 * k) 0 ∙ ap (λ (y : ℕ). get_or front y 0) g
    ∙ ap (λ (l : List ℕ). get_or l x 0) f ∙ get_or-take at w x 0 hi
