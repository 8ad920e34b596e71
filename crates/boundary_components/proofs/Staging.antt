-- The steps put together: the edge table, the irregular edges, the open edges, and these by components. Assumes nothing.
--   table_again     the irregular edges left the table as it was
--   open_again      the open edges are found in it
--   pairs_in        their pairs are the open edges, the smaller end first
--   edges_ready     what grouping asks
--   listed          all three lists stand in the work room
use Prim.Native.Nat.{ℕ, ◌+◌, ◌*◌, ◌-◌, ◌≤◌, ◌<◌}
use native.Mathlib.Omega.{arith}
use mathlib.Core.Bool.{not}
use mathlib.Core.List.{List, map, flat_map}
use mathlib.Core.Path.{◌≡◌, refl, sym, ap, ◌∙◌}
use borrow.Author.Tests.{ltb-true, not-false}
use lib.Dec.{ltb}
use lib.ListN.{length, get_or, length-map, get_or-map}
use lib.Seq.{ext_get_or}
use Rattle.lists.specs.Lists.{up_to}
use Rattle.lists.specs.Regions.{view, PartZeroed}
use Rattle.lists.proofs.Every.{none_at}
use Rattle.lists.proofs.Places.{length_up, at_map_up}
use Rattle.lists.proofs.Regions.{view_same}
use Rattle.words.specs.Packed.{pair_first, pair_second}
use Rattle.geometry.specs.Triangles.{threes}
use Rattle.edges.specs.Edges.{sorted_pair, open_edges, pair_words}
use Rattle.edges.specs.Table.{next_side, EdgeTable, KeptOpen, OpenEdges}
use Rattle.edges.proofs.Sides.{Small, next_in, side_at_lem}
use Rattle.edges.proofs.Keys.{key_first, key_second}
use Rattle.edges.proofs.Edges.{open_small}
use Rattle.edges.proofs.Steps.{opens}
use Rattle.input_tests.specs.Front.{bad_index}
use Rattle.irregular_edges.specs.Listed.{IrregularListed}
use Rattle.irregular_edges.proofs.Walking.{table_kept}
use Rattle.boundary_groups.specs.Groups.{open_pairs, boundary_components, component_words}
use Rattle.boundary_groups.specs.Staged.{edge_in, keyed_edges, grouped, GroupRoom, Grouped}
use Rattle.boundary_components.specs.Steps.{Ready, Listed}

module _ (vertices : ℕ) (fs w w₁ w₂ : List ℕ) (q : ℕ) (ready : Ready vertices fs (length w)) (bound : (i : ℕ) → get_or fs i 0 < 4294967296)
    (t : EdgeTable fs w w₁) (x : IrregularListed fs w₁ w₂ (4 * length fs) q) where
  abbrev n : ℕ
  n = length fs

  pub room : 13 * n + 2 * vertices ≤ length w
  room = omega (arith, ready.room, ready.whole)

  pub same₂ : length w₂ ≡ length w
  same₂ = x.above.long ∙ t.same

  -- nothing below the irregular edges changed
  front : (i : ℕ) → i < 4 * n → get_or w₂ i 0 ≡ get_or w₁ i 0
  front i h = x.above.below i h

  pub table_again : EdgeTable fs w₂ w₂
  table_again =
      record {
        table = table_kept fs w₁ w₂ (4 * n) (omega arith) (omega (arith, t.same, room)) x.above t.table;
        scratch = view_same w₁ w₂ (2 * n) (2 * n) (omega (arith, t.same, room)) x.above.long (λ i h. front (2 * n + i) (omega arith)) ∙ t.scratch;
        beyond = refl;
        same = refl;
      }

  module _ (w₃ w₄ : List ℕ) (k : ℕ) (o : KeptOpen w₂ w₃ n k) (z : PartZeroed w₃ w₄ (2 * k) (2 * (n - k))) where
    pub open_again : OpenEdges fs w₂ w₄ k
    open_again = opens fs w₂ w₂ w₃ w₄ k ready.whole (omega (arith, same₂, room)) bound table_again o z

    abbrev es : List (ℕ × ℕ)
    es = open_edges (threes fs)

    small : (i : ℕ) → i < k → Small (get_or es i (0, 0))
    small i h = open_small fs ready.whole bound i (omega (arith, open_again.count))

    pair_in : (i : ℕ) → i < k → edge_in w₄ i ≡ sorted_pair (get_or es i (0, 0))
    pair_in i h =
        let s = get_or es i (0, 0) in
        let e = open_again.key i h in
        λ d. ((ap pair_first e ∙ key_first s (small i h)) d, (ap pair_second e ∙ key_second s (small i h)) d)

    pub pairs_in : keyed_edges w₄ k ≡ open_pairs (threes fs)
    unfolding keyed_edges open_pairs
    pairs_in =
        ext_get_or (0, 0) (map (edge_in w₄) (up_to k)) (map sorted_pair es)
        (length-map (up_to k) (edge_in w₄) ∙ length_up 0 k ∙ open_again.count ∙ sym (length-map es sorted_pair)) (λ i h.
        let l : i < k = omega (arith, length-map (up_to k) (edge_in w₄), length_up 0 k, h) in
        at_map_up (edge_in w₄) (0, 0) 0 k i l ∙ ap (edge_in w₄) (nought i) ∙ pair_in i l ∙ sym (get_or-map sorted_pair es i (0, 0)))
      where
        nought : (i : ℕ) → 0 + i ≡ i
        nought i = omega arith

    low : (i : ℕ) → i < n → get_or fs i 0 < vertices
    unfolding bad_index
    low i h = ltb-true (get_or fs i 0) vertices (not-false (ltb (get_or fs i 0) vertices) (none_at (λ j. not (ltb j vertices)) fs i 0 ready.below h))

    -- both ends are corners of facets
    ends_low : (i : ℕ) → i < k → ((get_or es i (0, 0)).0 < vertices) × ((get_or es i (0, 0)).1 < vertices)
    ends_low i h =
        let s = get_or w₄ (2 * i + 1) 0 in
        let b = open_again.number i h in
        let e : get_or es i (0, 0) ≡ (get_or fs s 0, get_or fs (next_side s) 0) = sym (open_again.side i h) ∙ side_at_lem fs s ready.whole b in
        rw e (low s b, low (next_side s) (next_in n s ready.whole b))

    pub edges_ready : GroupRoom w₄ k n vertices (5 * n)
    edges_ready =
        record {
          few = o.within;
          front = omega arith;
          room = omega (arith, open_again.same, same₂, room);
          first_low = λ i h. let e = ends_low i h in let f = ap (λ (p : ℕ × ℕ). p.0) (pair_in i h) in omega (arith, e.0, e.1, f);
          second_low = λ i h. let e = ends_low i h in let f = ap (λ (p : ℕ × ℕ). p.1) (pair_in i h) in omega (arith, e.0, e.1, f);
        }

    module _ (w₅ : List ℕ) (c : ℕ) (g : Grouped (keyed_edges w₄ k) w₄ w₅ k n vertices (5 * n) c) where
      same₄ : length w₄ ≡ length w₂
      same₄ = open_again.same

      parts : grouped (keyed_edges w₄ k) ≡ boundary_components (threes fs)
      unfolding boundary_components
      parts = ap grouped pairs_in

      -- the irregular edges stand where nothing wrote
      kept : (i : ℕ) → i < 2 * q → get_or w₅ (4 * n + i) 0 ≡ get_or w₂ (4 * n + i) 0
      kept i h =
          g.between (4 * n + i) (omega arith) (omega (arith, x.few)) ∙ z.rest (4 * n + i) (λ j hj e. omega (arith, o.within))
          ∙ o.beyond (4 * n + i) (omega arith)

      pub listed : Listed vertices fs w w₅ k c q
      listed =
          record {
            long = g.long ∙ same₄ ∙ same₂;
            edges = ap (λ (b : ℕ). view w₅ b (2 * k)) (first n vertices) ∙ g.edges ∙ ap (λ (l : List (List (ℕ × ℕ))). pair_words (flat_map (λ h. h) l)) parts;
            groups = ap (λ (b : ℕ). view w₅ b (2 * c)) (second n vertices) ∙ g.components ∙ ap component_words parts;
            irregulars = view_same w₂ w₅ (4 * n) (2 * q) (omega (arith, same₂, room, x.few)) (g.long ∙ same₄) kept ∙ x.words;
            few_open = o.within;
            few_components = g.few;
            few_irregular = x.few;
          }
        where
          first : (n m : ℕ) → 9 * n + 2 * m ≡ 5 * n + 4 * n + 2 * m
          first n m = omega arith

          second : (n m : ℕ) → 11 * n + 2 * m ≡ 5 * n + 6 * n + 2 * m
          second n m = omega arith
