-- Laws of the tests before 12, one after the other, and of what is known once they have passed. Assumes nothing.
--   lists_refused, number_refused, box_refused, grid_refused, room_refused, all_passed_lem   tests 1 to 7
--   lists_passed, sound, room_passed                       what is known once they have passed
--   key_refused, edge_refused, edges_passed  tests 8 and 9
--   ends_of                                  the key of an open edge is its sorted pair
--   need_small                     no count wraps
use Prim.Native.Nat.{ℕ, ◌+◌, ◌*◌, ◌/◌, ◌≤◌, ◌<◌, min, max}
use native.Mathlib.Omega.{arith}
use mathlib.Core.Bool.{Bool, true, false, not, ◌&&◌, ◌||◌}
use mathlib.Core.List.{List, [], ◌∷◌}
use mathlib.Core.Path.{◌≡◌, sym, ap, ◌∙◌}
use borrow.Author.Tests.{ltb-false, lt-ltb, le-ltb, not-false}
use lib.Dec.{ltb, eqb}
use lib.ListN.{length, get_or}
use lib.Ieee.{Float}
use Rattle.lists.specs.Lists.{every, place}
use Rattle.lists.proofs.Bools.{and_left, and_right}
use Rattle.words.specs.Packed.{pair_base, pair, pair_first, pair_second}
use Rattle.words.proofs.Packed.{packed_high, packed_low}
use Rattle.geometry.specs.Triangles.{threes}
use Rattle.geometry.specs.Axes.{grid_size}
use Rattle.edges.specs.Edges.{sorted_pair, open_edges}
use Rattle.edges.specs.Table.{next_side}
use Rattle.edges.proofs.Sides.{side_at_lem, next_in}
use Rattle.refusals.specs.declared.refusal.Refusal.{Refusal}
use Rattle.refusals.specs.declared.refusal.Refusal.TheVariants.{BadNumber, BadBox, GridTooFine, NoWorkRoom, KeyRange, OpenEdge}
use Rattle.std.specs.Prelude.{Result, Ok, Err}
use Rattle.refusals.specs.Refusals.{Test, first_refusal, Passes}
use Rattle.input_tests.specs.Front.{Limits, list_tests, in_range, eps_in_range, resolution_in_range, box_in_range, bad_box, grid_too_fine, work_need, far_keys, box_far_keys}
use Rattle.refusals.proofs.Refusals.{holds, passes, none_left, row_passed, row_refused}
use Rattle.refusals.proofs.Replies.{head_passed, tail_passed, row_front, row_rest}
use Rattle.input_tests.proofs.Lists.{listed, cap_listed}
use Rattle.candidate_edges.specs.Surface.{edge_faces}
use Rattle.candidate_edges.specs.Steps.{MeshFits}
use Rattle.candidate_surface.specs.declared.asked.Asked.{Asked}
use Rattle.candidate_surface.specs.Asked.{one_resolution}
use Rattle.closure_tests.specs.Tests.{mesh, closure_tests, stray_edge, edge_tests}
use Rattle.candidate_surface.specs.Steps.{Sound, Tabled}
use Rattle.candidate_surface.proofs.Fitting.{grid_small}
use Rattle.candidate_pool.specs.Offsets.{edge_table_at}

-- ---- no count wraps

pub need_small : (vs : List Float) (fs : List ℕ) (q : Asked) (ceiling caps m : ℕ) → first_refusal (list_tests ceiling vs fs caps) ≡ Ok tt
    → grid_too_fine q.extents q.eps (one_resolution q.resolution) ≡ false → m ≡ grid_size q.extents q.eps (one_resolution q.resolution) → length vs / 3 + length fs / 3 + caps
    / 4 + m ≤ 4294967296
need_small vs fs q ceiling caps m e f g =
    let l = listed ceiling vs fs caps e in
    omega (arith, l.few_vertices, l.few_facets, (cap_listed ceiling vs fs caps e).few, grid_small q.extents q.eps (one_resolution q.resolution) f, g)

-- ---- 1 to 7

module _ (vs : List Float) (fs : List ℕ) (q : Asked) (caps : ℕ) (l : Limits) where
  abbrev lists : List Test
  lists = list_tests l.ceiling vs fs caps

  abbrev bad : Bool
  bad = not (every in_range vs && (box_in_range q.extents && (eps_in_range q.eps && resolution_in_range q.resolution)))

  abbrev fine : Bool
  fine = grid_too_fine q.extents q.eps (one_resolution q.resolution)

  abbrev need : ℕ
  need = work_need (length vs / 3) (length fs / 3) (caps / 4) (grid_size q.extents q.eps (one_resolution q.resolution))

  abbrev work : List Test
  work = (ltb l.lent need, NoWorkRoom need) ∷ []

  abbrev grids : List Test
  grids = (fine, GridTooFine) ∷ work

  abbrev boxes : List Test
  boxes = (bad_box q.extents, BadBox) ∷ grids

  abbrev rest : List Test
  rest = (bad, BadNumber) ∷ boxes

  abbrev found : Result (Unit {0}) Refusal
  found = first_refusal (closure_tests vs fs q caps l)

  pub lists_refused : (r : Refusal) → first_refusal lists ≡ Err r → Err r ≡ found
  unfolding closure_tests
  lists_refused r e = sym (row_refused lists rest r e)

  module _ (e : first_refusal lists ≡ Ok tt) where
    after_lists : found ≡ first_refusal rest
    unfolding closure_tests
    after_lists = row_passed lists rest e

    pub number_refused : bad ≡ true → Err BadNumber ≡ found
    number_refused h = sym (after_lists ∙ holds bad BadNumber boxes h)

    module _ (h : bad ≡ false) where
      after_numbers : found ≡ first_refusal boxes
      after_numbers = after_lists ∙ passes bad BadNumber boxes h

      pub box_refused : bad_box q.extents ≡ true → Err BadBox ≡ found
      box_refused g = sym (after_numbers ∙ holds (bad_box q.extents) BadBox grids g)

      module _ (g : bad_box q.extents ≡ false) where
        after_box : found ≡ first_refusal grids
        after_box = after_numbers ∙ passes (bad_box q.extents) BadBox grids g

        pub grid_refused : fine ≡ true → Err GridTooFine ≡ found
        grid_refused f = sym (after_box ∙ holds fine GridTooFine work f)

        module _ (f : fine ≡ false) (m : ℕ) (em : m ≡ grid_size q.extents q.eps (one_resolution q.resolution)) (n : ℕ)
            (en : n ≡ work_need (length vs / 3) (length fs / 3) (caps / 4) m) where
          after_grid : found ≡ first_refusal ((ltb l.lent n, NoWorkRoom n) ∷ [])
          after_grid =
              after_box ∙ passes fine GridTooFine work f
              ∙ ap (λ (k : ℕ). first_refusal ((ltb l.lent k, NoWorkRoom k) ∷ [])) (sym (en ∙ ap (work_need (length vs / 3) (length fs / 3) (caps / 4)) em))

          pub room_refused : l.lent < n → Err (NoWorkRoom n) ≡ found
          room_refused k = sym (after_grid ∙ holds (ltb l.lent n) (NoWorkRoom n) [] (lt-ltb l.lent n k))

          pub all_passed_lem : n ≤ l.lent → Ok tt ≡ found
          all_passed_lem k = sym (after_grid ∙ passes (ltb l.lent n) (NoWorkRoom n) [] (le-ltb l.lent n k) ∙ none_left)

  module _ (e : found ≡ Ok tt) where
    pub lists_passed : Passes lists
    unfolding closure_tests
    lists_passed = row_front lists rest e

    rest_passed : first_refusal rest ≡ Ok tt
    unfolding closure_tests
    rest_passed = row_rest lists rest e

    boxes_passed : first_refusal boxes ≡ Ok tt
    boxes_passed = tail_passed bad BadNumber boxes rest_passed

    grids_passed : first_refusal grids ≡ Ok tt
    grids_passed = tail_passed (bad_box q.extents) BadBox grids boxes_passed

    work_passed : first_refusal work ≡ Ok tt
    work_passed = tail_passed fine GridTooFine work grids_passed

    numbers_good : (every in_range vs && (box_in_range q.extents && (eps_in_range q.eps && resolution_in_range q.resolution))) ≡ true
    numbers_good = not-false _ (head_passed bad BadNumber boxes rest_passed)

    pub sound : Sound vs fs q
    sound =
        let p = listed l.ceiling vs fs caps lists_passed in
        let a = and_right (every in_range vs) (box_in_range q.extents && (eps_in_range q.eps && resolution_in_range q.resolution)) numbers_good in
        let b = and_right (box_in_range q.extents) (eps_in_range q.eps && resolution_in_range q.resolution) a in
        record {
          lists = p;
          numbers = and_left (every in_range vs) (box_in_range q.extents && (eps_in_range q.eps && resolution_in_range q.resolution)) numbers_good;
          box_in = and_left (box_in_range q.extents) (eps_in_range q.eps && resolution_in_range q.resolution) a;
          eps_in = and_left (eps_in_range q.eps) (resolution_in_range q.resolution) b;
          resolution_in = and_right (eps_in_range q.eps) (resolution_in_range q.resolution) b;
          box_good = head_passed (bad_box q.extents) BadBox grids boxes_passed;
          coarse = head_passed fine GridTooFine work grids_passed;
        }

    pub room_passed : 128 * (length vs / 3 + length fs / 3 + caps / 4 + grid_size q.extents q.eps (one_resolution q.resolution)) + 1024 ≤ l.lent
    unfolding work_need
    room_passed = ltb-false l.lent need (head_passed (ltb l.lent need) (NoWorkRoom need) [] work_passed)

-- ---- 8 and 9

module _ (vs : List Float) (fs : List ℕ) (q : Asked) where
  abbrev far : Bool
  far = far_keys q.eps vs || box_far_keys q.eps q.extents

  abbrev es : List (ℕ × ℕ)
  es = open_edges (threes fs)

  abbrev stray : ℕ
  stray = place (λ e. eqb (length (edge_faces q.extents q.eps (mesh vs fs q) e)) 0) es

  abbrev pair_at : ℕ → ℕ × ℕ
  pair_at i = sorted_pair (get_or es i (0, 0))

  abbrev edges : List Test
  edges = (ltb stray (length es), OpenEdge (pair_at stray).0 (pair_at stray).1) ∷ []

  abbrev told : Result (Unit {0}) Refusal
  told = first_refusal (edge_tests vs fs q)

  pub key_refused : far ≡ true → Err KeyRange ≡ told
  unfolding edge_tests stray_edge
  key_refused h = sym (holds far KeyRange edges h)

  module _ (h : far ≡ false) (s : ℕ) (e : s ≡ stray) (k : ℕ) (ek : k ≡ length es) where
    after_keys : told ≡ first_refusal ((ltb s k, OpenEdge (pair_at s).0 (pair_at s).1) ∷ [])
    unfolding edge_tests stray_edge
    after_keys = passes far KeyRange edges h ∙ (λ t. first_refusal ((ltb (sym e t) (sym ek t), OpenEdge (pair_at (sym e t)).0 (pair_at (sym e t)).1) ∷ []))

    pub edge_refused : (a b : ℕ) → a ≡ (pair_at s).0 → b ≡ (pair_at s).1 → s < k → Err (OpenEdge a b) ≡ told
    edge_refused a b ea eb l = (λ t. Err (OpenEdge (ea t) (eb t))) ∙ sym (after_keys ∙ holds (ltb s k) (OpenEdge (pair_at s).0 (pair_at s).1) [] (lt-ltb s k l))

    pub edges_passed : k ≤ s → Ok tt ≡ told
    edges_passed l = sym (after_keys ∙ passes (ltb s k) (OpenEdge (pair_at s).0 (pair_at s).1) [] (le-ltb s k l) ∙ none_left)

-- the key of an open edge is its sorted pair
module _ (vs : List Float) (fs : List ℕ) (n k : ℕ) (w : List ℕ) (M : MeshFits vs fs n w) (B : Tabled fs n k w) (s : ℕ) (h : s < k) where
  abbrev end : ℕ × ℕ
  end = get_or (open_edges (threes fs)) s (0, 0)

  abbrev number : ℕ
  number = get_or w (edge_table_at n (length fs / 3) + 2 * s + 1) 0

  end_is : end ≡ (get_or fs number 0, get_or fs (next_side number) 0)
  end_is = sym (B.table.side s h) ∙ side_at_lem fs number M.threes (B.table.number s h)

  greater_small : max end.0 end.1 < pair_base
  greater_small =
      let a = M.numbers number (B.table.number s h) in
      let b = M.numbers (next_side number) (next_in (length fs) number M.threes (B.table.number s h)) in
      let c = ap (λ (e : ℕ × ℕ). e.0) end_is in
      let d = ap (λ (e : ℕ × ℕ). e.1) end_is in
      omega (arith, M.vertices, M.small)

  pub record Ends (key : ℕ) : Type 0 where
    pub smaller : pair_first key ≡ (sorted_pair end).0
    pub greater : pair_second key ≡ (sorted_pair end).1

  pub ends_of : (key : ℕ) → key ≡ get_or w (edge_table_at n (length fs / 3) + 2 * s) 0 → Ends key
  ends_of key e =
      let q : key ≡ pair (min end.0 end.1) (max end.0 end.1) = e ∙ B.key s h in
      record {
        smaller = ap pair_first q ∙ packed_high pair_base (min end.0 end.1) (max end.0 end.1) greater_small;
        greater = ap pair_second q ∙ packed_low pair_base (min end.0 end.1) (max end.0 end.1) greater_small;
      }
