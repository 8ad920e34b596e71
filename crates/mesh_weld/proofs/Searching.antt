-- The search of a cell: what a chain's walk asks, what a test tells; a block's cells one after the other; and the way from words back to keys. Assumes nothing.
use Prim.Native.Nat.{ℕ, ◌+◌, ◌*◌, ◌/◌, ◌<◌}
use native.Mathlib.Omega.{arith}
use mathlib.Core.Path.{◌≡◌, refl, sym, ap, ◌∙◌}
use mathlib.Core.Bool.{Bool, true, false, cond, ◌&&◌}
use mathlib.Core.List.{List, [], ◌∷◌, ◌++◌, flat_map, append-nil}
use Rattle.std.specs.Prelude.{Option, Some, None}
use Rattle.std.specs.Option.{option_or}
use lib.Dec.{eqb}
use lib.ListN.{length, get_or, length-map}
use lib.Ieee.{Float}
use borrow.Author.Tests.{eqb-true, ne_eqb, eq-eqb}
use Rattle.lists.specs.Lists.{first, keep, up_to}
use Rattle.lists.specs.Regions.{view}
use Rattle.lists.proofs.Regions.{view_length, view_at}
use Rattle.lists.proofs.Bools.{and_left, and_right, is_true}
use Rattle.lists.proofs.Counts.{keep_same}
use Rattle.lists.proofs.Mapped.{of_each}
use Rattle.lists.proofs.Places.{of_up}
use Rattle.lists.proofs.Sequences.{flat_map_lem, flat_same, at_map}
use Rattle.geometry.specs.declared.point.Point.{Point}
use Rattle.geometry.specs.Points.{origin}
use Rattle.geometry.specs.Meshes.{vertex, vertex_of}
use Rattle.chains.specs.Chains.{Filed}
use Rattle.chains.specs.Hash.{bucket_at}
use Rattle.lists.proofs.First.{first_keep, first_same}
use Rattle.chains.proofs.Walking.{filed_by_key}
use Rattle.mesh_weld.specs.declared.cells.Cell.{Cell}
use Rattle.mesh_weld.specs.Cells.{Key, key_of, near, in_cell, around, same_key, cells}
use Rattle.mesh_weld.specs.Room.{words_of, cell_at, same_cell, kept_points, in_cell_at, found_in, cell_bucket, HashOf, Index, KeyIn, KeysIn, up, block}
use Rattle.mesh_weld.proofs.Words.{same_words, FitKey, key_fits, inner_key, around_fits, corner_of, block_is, from_cell, cell_turn}

-- ---- tests of cells

module _ (a b : Cell) (t : Bool) where
  pub differ_x : (a.x ≡ b.x → ⊥) → false ≡ (same_cell a b && t)
  differ_x h = rw (ne_eqb a.x b.x h)

  pub differ_y : a.x ≡ b.x → (a.y ≡ b.y → ⊥) → false ≡ (same_cell a b && t)
  differ_y ex h = rw (eq-eqb a.x b.x ex, ne_eqb a.y b.y h)

  pub differ_z : a.x ≡ b.x → a.y ≡ b.y → (a.z ≡ b.z → ⊥) → false ≡ (same_cell a b && t)
  differ_z ex ey h = rw (eq-eqb a.x b.x ex, eq-eqb a.y b.y ey, ne_eqb a.z b.z h)

  pub differ_no : a.x ≡ b.x → a.y ≡ b.y → a.z ≡ b.z → t ≡ (same_cell a b && t)
  differ_no ex ey ez = rw (eq-eqb a.x b.x ex, eq-eqb a.y b.y ey, eq-eqb a.z b.z ez)

cell_eq : (a b : Cell) → a.x ≡ b.x → a.y ≡ b.y → a.z ≡ b.z → a ≡ b
cell_eq a b ex ey ez = λ i. record { x = ex i; y = ey i; z = ez i }

same_cell_lem : (a b : Cell) → same_cell a b ≡ true → a ≡ b
same_cell_lem a b e =
    let r = and_right (eqb a.x b.x) (eqb a.y b.y && eqb a.z b.z) e in
    cell_eq a b (eqb-true a.x b.x (and_left (eqb a.x b.x) (eqb a.y b.y && eqb a.z b.z) e))
    (eqb-true a.y b.y (and_left (eqb a.y b.y) (eqb a.z b.z) r))
    (eqb-true a.z b.z (and_right (eqb a.y b.y) (eqb a.z b.z) r))

-- ---- the walk

-- the kept vertex at k is in the cell c and near p, as the room has it
abbrev pub meets_at : List Float → Float → ℕ → List ℕ → Cell → Point → ℕ → Bool
meets_at vs eps n m c p k = same_cell (cell_at m (11 * n + 3 * k)) c && near eps p (vertex_of vs (get_or m (9 * n + k) 0))

first_append : (t : ℕ → Bool) (l r : List ℕ) → first t (l ++ r) ≡ option_or (first t l) (first t r)
first_append t [] r = refl
first_append t (x ∷ l) r = go (t x) (first_append t l r)
  where
    go : (b : Bool) → first t (l ++ r) ≡ option_or (first t l) (first t r)
        → cond b (Some x) (first t (l ++ r)) ≡ option_or (cond b (Some x) (first t l)) (first t r)
    go true e = refl
    go false e = e

module _ (vs : List Float) (eps : Float) (n count : ℕ) (m : List ℕ) (I : Index vs eps n count m) where
  pub kept_long : length (view m (9 * n) count) ≡ count
  kept_long = view_length m (9 * n) count (omega (arith, I.room, I.few))

  -- the point of the kept vertex at k
  kept_at : (k : ℕ) → k < count → vertex_of vs (get_or m (9 * n + k) 0) ≡ vertex (kept_points vs n count m) k
  kept_at k h =
      ap (vertex_of vs) (sym (view_at m (9 * n) count k h))
      ∙ sym (at_map (vertex_of vs) (view m (9 * n) count) k 0 origin (omega (arith, kept_long)))

  pub filed : (c : Cell) (p : Point) (s b : ℕ) → HashOf c s → b ≡ bucket_at s (4 * n) → Filed m 0 (4 * n) count b (meets_at vs eps n m c p)
  filed c p s b e eb =
      filed_by_key (cell_bucket n) (λ k. cell_at m (11 * n + 3 * k)) m 0 (4 * n) count c b (meets_at vs eps n m c p) I.linked
      (eb ∙ ap (λ (r : ℕ). r * (4 * n) / 4294967296) e)
      (λ k h x. same_cell_lem (cell_at m (11 * n + 3 * k)) c
      (and_left (same_cell (cell_at m (11 * n + 3 * k)) c) (near eps p (vertex_of vs (get_or m (9 * n + k) 0))) (is_true (meets_at vs eps n m c p k) x)))

  -- what a walk tells of the cell
  pub met : (c : Cell) (p : Point) (r : Option ℕ) → r ≡ first (meets_at vs eps n m c p) (up_to count) → r ≡ found_in vs eps n count m p (c ∷ [])
  unfolding found_in flat_map
  met c p r e =
      let inside : ℕ → Bool = λ k. same_cell (cell_at m (11 * n + 3 * k)) c in
      let near_at : ℕ → Bool = λ k. near eps p (vertex (kept_points vs n count m) k) in
      e
      ∙ first_same (meets_at vs eps n m c p) (λ k. inside k && near_at k) (up_to count)
      (λ k x. ap (λ (q : Point). inside k && near eps p q) (kept_at k (omega (arith, (of_up 0 count x).1))))
      ∙ sym (first_keep near_at inside (up_to count))
      ∙ ap (first near_at) (sym (append-nil (in_cell_at n count m c)))

  -- ---- cell after cell

  found_next : (p : Point) (c : Cell) (ds : List Cell) → found_in vs eps n count m p (c ∷ ds) ≡ option_or (found_in vs eps n count m p (c ∷ [])) (found_in vs eps n count m p ds)
  unfolding found_in flat_map
  found_next p c ds =
      let t : ℕ → Bool = λ k. near eps p (vertex (kept_points vs n count m) k) in
      first_append t (in_cell_at n count m c) (flat_map (in_cell_at n count m) ds)
      ∙ ap (λ (l : List ℕ). option_or (first t l) (found_in vs eps n count m p ds)) (sym (append-nil (in_cell_at n count m c)))

  -- what is found from the i-th cell of a block on, where the search of that cell is known
  module _ (p : Point) (c : Cell) (x y z : ℕ) (hx : x < 3) (hy : y < 3) (hz : z < 3) where
    pub found_hit : (k : ℕ) → Some k ≡ found_in vs eps n count m p (up c x y z ∷ []) → Some k ≡ found_in vs eps n count m p (from_cell c (9 * x + 3 * y + z))
    found_hit k e =
        ap (λ (o : Option ℕ). option_or o (found_in vs eps n count m p (from_cell c (9 * x + 3 * y + z + 1)))) e
        ∙ sym (found_next p (up c x y z) (from_cell c (9 * x + 3 * y + z + 1)))
        ∙ ap (found_in vs eps n count m p) (sym (cell_turn c x y z hx hy hz))

    pub found_miss : None ≡ found_in vs eps n count m p (up c x y z ∷ [])
        → found_in vs eps n count m p (from_cell c (9 * x + 3 * y + z)) ≡ found_in vs eps n count m p (from_cell c (9 * x + 3 * y + z + 1))
    found_miss e =
        ap (found_in vs eps n count m p) (cell_turn c x y z hx hy hz)
        ∙ found_next p (up c x y z) (from_cell c (9 * x + 3 * y + z + 1))
        ∙ ap (λ (o : Option ℕ). option_or o (found_in vs eps n count m p (from_cell c (9 * x + 3 * y + z + 1)))) (sym e)

  -- nothing before the i-th cell: the same place otherwise written, and the end
  pub found_from : (p : Point) (c : Cell) (i j : ℕ) → i ≡ j → found_in vs eps n count m p (block c) ≡ found_in vs eps n count m p (from_cell c i)
      → found_in vs eps n count m p (block c) ≡ found_in vs eps n count m p (from_cell c j)
  found_from p c i j e h = h ∙ ap (λ (k : ℕ). found_in vs eps n count m p (from_cell c k)) e

  pub found_end : (p : Point) (c : Cell) (i : ℕ) → i ≡ 27 → found_in vs eps n count m p (block c) ≡ found_in vs eps n count m p (from_cell c i)
      → None ≡ found_in vs eps n count m p (block c)
  unfolding found_in block flat_map
  found_end p c i e h = sym (found_from p c i 27 e h)

  -- ---- from words to keys

  -- the kept vertices of a cell, by its words and by its key
  same_entries : KeysIn vs eps n → (c : Key) → FitKey c → in_cell_at n count m (words_of c) ≡ in_cell eps (kept_points vs n count m) c
  same_entries K c r =
      keep_same (λ k. same_cell (cell_at m (11 * n + 3 * k)) (words_of c)) (λ k. same_key (key_of eps (vertex (kept_points vs n count m) k)) c) (up_to count)
      (λ k x. let h : k < count = omega (arith, (of_up 0 count x).1) in agree k h)
      ∙ ap (λ (j : ℕ). keep (λ k. same_key (key_of eps (vertex (kept_points vs n count m) k)) c) (up_to j))
      (sym (length-map (view m (9 * n) count) (vertex_of vs) ∙ kept_long))
    where
      agree : (k : ℕ) → k < count → same_cell (cell_at m (11 * n + 3 * k)) (words_of c) ≡ same_key (key_of eps (vertex (kept_points vs n count m) k)) c
      agree k h =
          ap (λ (d : Cell). same_cell d (words_of c)) (I.stands k h)
          ∙ sym (same_words (key_of eps (vertex_of vs (get_or m (9 * n + k) 0))) c (key_fits eps (vertex_of vs (get_or m (9 * n + k) 0)) (K (get_or m (9 * n + k) 0) (I.low k h))) r)
          ∙ ap (λ (q : Point). same_key (key_of eps q) c) (kept_at k h)

  found_is : (p : Point) → KeysIn vs eps n → KeyIn eps p
      → found_in vs eps n count m p (block (corner_of (words_of (key_of eps p)))) ≡ (cells eps).find p (kept_points vs n count m)
  unfolding cells found_in
  found_is p K h =
      let i = inner_key eps p h in
      ap (first (λ k. near eps p (vertex (kept_points vs n count m) k)))
      (ap (flat_map (in_cell_at n count m)) (block_is (key_of eps p) (omega (arith, i.x.low)) (omega (arith, i.y.low)) (omega (arith, i.z.low)))
      ∙ flat_map_lem (in_cell_at n count m) words_of (around (key_of eps p))
      ∙ flat_same (λ c. in_cell_at n count m (words_of c)) (in_cell eps (kept_points vs n count m)) (around (key_of eps p))
      (λ c x. same_entries K c (of_each FitKey x (around_fits (key_of eps p) i))))

  pub found_cell : (c : Cell) (p : Point) → KeysIn vs eps n → KeyIn eps p → c ≡ words_of (key_of eps p)
      → found_in vs eps n count m p (block (corner_of c)) ≡ (cells eps).find p (kept_points vs n count m)
  found_cell c p K h e = ap (λ (d : Cell). found_in vs eps n count m p (block (corner_of d))) e ∙ found_is p K h
