-- One vertex more: it is taken for a kept one, or kept; the first vertex and the last. Assumes nothing.
use Prim.Native.Nat.{ℕ, ◌+◌, ◌*◌, ◌≤◌, ◌<◌}
use native.Mathlib.Decide.{dec_lt}
use native.Mathlib.Numerals.{add-one}
use native.Mathlib.Omega.{arith}
use mathlib.Core.Path.{◌≡◌, refl, sym, ap, subst, ◌∙◌}
use mathlib.Core.List.{List, [], ◌∷◌, ◌++◌, map}
use Rattle.std.specs.Prelude.{Option, Some, None}
use lib.ListN.{length, get_or, set, length-set}
use lib.Seq.{get_or-set_same, get_or-set_other}
use lib.Ieee.{Float}
use Rattle.lists.specs.Regions.{PartZeroed}
use Rattle.lists.proofs.Regions.{view_same, view_more}
use Rattle.chains.specs.Chains.{Linked, linked_in}
use Rattle.chains.specs.Hash.{mixed, InBucket}
use Rattle.chains.proofs.Entering.{linked_none, linked_cong, linked_same, linked_more, tail_le, entered_length, entered_rest}
use Rattle.mesh_weld.specs.declared.cells.Cell.{Cell}
use Rattle.mesh_weld.specs.Weld.{Welded, welding, weld_next, weld}
use Rattle.mesh_weld.specs.Cells.{key_of, cells}
use Rattle.geometry.specs.Meshes.{vertex_of}
use Rattle.mesh_weld.specs.Room.{words_of, cell_at, kept_points, cell_bucket, Index, WeldedSoFar, Welds}
use Rattle.mesh_weld.proofs.Searching.{kept_long}

pub cell_same : (m v : List ℕ) (o : ℕ) → get_or v o 0 ≡ get_or m o 0 → get_or v (o + 1) 0 ≡ get_or m (o + 1) 0 → get_or v (o + 2) 0 ≡ get_or m (o + 2) 0 → cell_at v o ≡ cell_at m o
cell_same m v o a b c = λ i. record { x = a i; y = b i; z = c i }

module _ (vs : List Float) (eps : Float) (n i count : ℕ) (m : List ℕ) (G : WeldedSoFar vs eps n i count m) (h : i < n) where
  abbrev I : Index vs eps n count m
  I = G.index

  -- what the search found
  abbrev pub Answers : Option ℕ → Type 0
  Answers r = r ≡ (cells eps).find (vertex_of vs i) (kept_points vs n count m)

  step_is : (r : Option ℕ) → (cells eps).find (vertex_of vs i) (kept_points vs n count m) ≡ r
      → weld (cells eps) (vertex_of vs) (i + 1) ≡ welding r i (weld (cells eps) (vertex_of vs) i)
  unfolding weld weld_next
  step_is r e =
      ap (weld (cells eps) (vertex_of vs)) (add-one i)
      ∙ ap (λ (f : Option ℕ). welding f i (weld (cells eps) (vertex_of vs) i))
      (ap (λ (l : List ℕ). (cells eps).find (vertex_of vs i) (map (vertex_of vs) l)) (sym G.kept) ∙ e)

  few : count < n
  few = omega (arith, G.within)

  -- ---- the vertex is taken for a kept one

  pub taken : (r : ℕ) → Answers (Some r) → WeldedSoFar vs eps n (i + 1) count (set m (10 * n + i) r)
  taken r e =
      record {
        index =
            record {
              size = I.size;
              small = I.small;
              room = omega (arith, I.room, len);
              few = I.few;
              low = λ k lt. rw (off (9 * n + k) (λ q. omega (arith, few))) (I.low k lt);
              linked = linked_cong (λ k. cell_bucket n (cell_at m (11 * n + 3 * k))) (λ k. cell_bucket n (cell_at v (11 * n + 3 * k))) v 0 (4 * n) count
                  (λ k lt. ap (cell_bucket n) (sym (cell k)))
                  (linked_same (λ k. cell_bucket n (cell_at m (11 * n + 3 * k))) m v 0 (4 * n) count len (λ x lt. off (0 + x) (λ q. omega (arith, few))) I.linked);
              stands = λ k lt. cell k ∙ I.stands k lt ∙ ap (λ (x : ℕ). words_of (key_of eps (vertex_of vs x))) (sym (off (9 * n + k) (λ q. omega (arith, few))));
            };
        done = omega arith;
        within = omega (arith, G.within);
        kept = view_same m v (9 * n) count (omega (arith, I.room, few)) len (λ k lt. off (9 * n + k) (λ q. omega (arith, few)))
            ∙ G.kept ∙ sym (ap (λ (w : Welded). w.kept) step);
        old_to_new = view_more m v (10 * n) i r (omega (arith, I.room)) len (λ k lt. off (10 * n + k) (λ q. omega arith))
            (get_or-set_same m (10 * n + i) r 0 (omega (arith, I.room)))
            ∙ ap (λ (l : List ℕ). l ++ (r ∷ [])) G.old_to_new ∙ sym (ap (λ (w : Welded). w.old_to_new) step);
      }
    where
      v : List ℕ
      v = set m (10 * n + i) r

      len : length v ≡ length m
      len = length-set m (10 * n + i) r

      off : (x : ℕ) → (x ≡ 10 * n + i → ⊥) → get_or v x 0 ≡ get_or m x 0
      off x ne = get_or-set_other m (10 * n + i) x r 0 ne

      cell : (k : ℕ) → cell_at v (11 * n + 3 * k) ≡ cell_at m (11 * n + 3 * k)
      cell k = cell_same m v (11 * n + 3 * k) (off (11 * n + 3 * k) (λ q. omega arith)) (off (11 * n + 3 * k + 1) (λ q. omega arith)) (off (11 * n + 3 * k + 2) (λ q. omega arith))

      step : weld (cells eps) (vertex_of vs) (i + 1) ≡ welding (Some r) i (weld (cells eps) (vertex_of vs) i)
      step = step_is (Some r) (sym e)

  -- ---- the vertex is kept

  -- what `enter` asks of the tail
  pub tail_low : (b : ℕ) → b < 4 * n → get_or m (0 + 4 * n + b) 0 ≤ count
  tail_low b q = tail_le (λ k. cell_bucket n (cell_at m (11 * n + 3 * k))) m 0 (4 * n) count b I.linked q

  -- what the stores after `enter` write: the id, its cell, the new number
  abbrev pub stored : List ℕ → Cell → List ℕ
  stored m₁ c = set (set (set (set (set m₁ (9 * n + count) i) (11 * n + 3 * count) c.x) (11 * n + 3 * count + 1) c.y) (11 * n + 3 * count + 2) c.z) (10 * n + i) count

  module _ (b : ℕ) (c : Cell) (C : c ≡ words_of (key_of eps (vertex_of vs i))) (B : InBucket (mixed c.x c.y c.z) (4 * n) b) where
    m₁ : List ℕ
    m₁ = linked_in m 0 (4 * n) count b

    s₁ : List ℕ
    unfolding m₁
    s₁ = set m₁ (9 * n + count) i

    s₂ : List ℕ
    unfolding s₁
    s₂ = set s₁ (11 * n + 3 * count) c.x

    s₃ : List ℕ
    unfolding s₂
    s₃ = set s₂ (11 * n + 3 * count + 1) c.y

    s₄ : List ℕ
    unfolding s₃
    s₄ = set s₃ (11 * n + 3 * count + 2) c.z

    v : List ℕ
    unfolding s₄
    v = set s₄ (10 * n + i) count

    len₁ : length m₁ ≡ length m
    unfolding m₁
    len₁ = entered_length m 0 (4 * n) count b

    l₁ : length s₁ ≡ length m
    unfolding s₁
    l₁ = length-set m₁ (9 * n + count) i ∙ len₁

    l₂ : length s₂ ≡ length m
    unfolding s₂
    l₂ = length-set s₁ (11 * n + 3 * count) c.x ∙ l₁

    l₃ : length s₃ ≡ length m
    unfolding s₃
    l₃ = length-set s₂ (11 * n + 3 * count + 1) c.y ∙ l₂

    l₄ : length s₄ ≡ length m
    unfolding s₄
    l₄ = length-set s₃ (11 * n + 3 * count + 2) c.z ∙ l₃

    len : length v ≡ length m
    unfolding v
    len = length-set s₄ (10 * n + i) count ∙ l₄

    -- a place that no store names
    other : (x : ℕ) → (x ≡ 9 * n + count → ⊥) → (x ≡ 11 * n + 3 * count → ⊥) → (x ≡ 11 * n + 3 * count + 1 → ⊥) →
        (x ≡ 11 * n + 3 * count + 2 → ⊥) → (x ≡ 10 * n + i → ⊥)
        → get_or v x 0 ≡ get_or m₁ x 0
    unfolding v s₄ s₃ s₂ s₁
    other x na nb nc nd ne =
        get_or-set_other s₄ (10 * n + i) x count 0 ne ∙ get_or-set_other s₃ (11 * n + 3 * count + 2) x c.z 0 nd
        ∙ get_or-set_other s₂ (11 * n + 3 * count + 1) x c.y 0 nc ∙ get_or-set_other s₁ (11 * n + 3 * count) x c.x 0 nb
        ∙ get_or-set_other m₁ (9 * n + count) x i 0 na

    rest₁ : (x : ℕ) → 8 * n + count < x → get_or m₁ x 0 ≡ get_or m x 0
    unfolding m₁
    rest₁ x q = entered_rest m 0 (4 * n) count b B.low (tail_low b B.low) x (λ j l d. omega arith)

    id_new : get_or v (9 * n + count) 0 ≡ i
    unfolding v s₄ s₃ s₂ s₁
    id_new =
        get_or-set_other s₄ (10 * n + i) (9 * n + count) count 0 (λ q. omega (arith, few)) ∙ get_or-set_other s₃ (11 * n + 3 * count + 2) (9 * n + count) c.z 0
        (λ q. omega (arith, few))
        ∙ get_or-set_other s₂ (11 * n + 3 * count + 1) (9 * n + count) c.y 0 (λ q. omega (arith, few)) ∙ get_or-set_other s₁ (11 * n + 3 * count) (9 * n + count) c.x 0
        (λ q. omega (arith, few))
        ∙ get_or-set_same m₁ (9 * n + count) i 0 (omega (arith, I.room, len₁, few))

    cell_new : cell_at v (11 * n + 3 * count) ≡ c
    unfolding v s₄ s₃ s₂
    cell_new = λ j. record { x = ex j; y = ey j; z = ez j }
      where
        ex : get_or v (11 * n + 3 * count) 0 ≡ c.x
        ex =
            get_or-set_other s₄ (10 * n + i) (11 * n + 3 * count) count 0 (λ q. omega arith) ∙ get_or-set_other s₃ (11 * n + 3 * count + 2) (11 * n + 3 * count) c.z 0
            (λ q. omega arith)
            ∙ get_or-set_other s₂ (11 * n + 3 * count + 1) (11 * n + 3 * count) c.y 0 (λ q. omega arith)
            ∙ get_or-set_same s₁ (11 * n + 3 * count) c.x 0 (omega (arith, I.room, l₁, few))

        ey : get_or v (11 * n + 3 * count + 1) 0 ≡ c.y
        ey =
            get_or-set_other s₄ (10 * n + i) (11 * n + 3 * count + 1) count 0 (λ q. omega arith) ∙ get_or-set_other s₃ (11 * n + 3 * count + 2) (11 * n + 3 * count + 1) c.z 0
            (λ q. omega arith)
            ∙ get_or-set_same s₂ (11 * n + 3 * count + 1) c.y 0 (omega (arith, I.room, l₂, few))

        ez : get_or v (11 * n + 3 * count + 2) 0 ≡ c.z
        ez =
            get_or-set_other s₄ (10 * n + i) (11 * n + 3 * count + 2) count 0 (λ q. omega arith)
            ∙ get_or-set_same s₃ (11 * n + 3 * count + 2) c.z 0 (omega (arith, I.room, l₃, few))

    number_new : get_or v (10 * n + i) 0 ≡ count
    unfolding v
    number_new = get_or-set_same s₄ (10 * n + i) count 0 (omega (arith, I.room, l₄))

    id_old : (k : ℕ) → k < count → get_or v (9 * n + k) 0 ≡ get_or m (9 * n + k) 0
    id_old k lt =
        other (9 * n + k) (λ q. omega arith) (λ q. omega (arith, few)) (λ q. omega (arith, few)) (λ q. omega (arith, few)) (λ q. omega (arith, few)) ∙ rest₁ (9 * n + k)
        (omega (arith, few))

    word_old : (k d : ℕ) → k < count → d < 3 → get_or v (11 * n + 3 * k + d) 0 ≡ get_or m (11 * n + 3 * k + d) 0
    word_old k d lt ld =
        other (11 * n + 3 * k + d) (λ q. omega (arith, few)) (λ q. omega arith) (λ q. omega arith) (λ q. omega arith) (λ q. omega arith) ∙ rest₁ (11 * n + 3 * k + d)
        (omega (arith, few))

    cell_old : (k : ℕ) → k < count → cell_at v (11 * n + 3 * k) ≡ cell_at m (11 * n + 3 * k)
    cell_old k lt =
        cell_same m v (11 * n + 3 * k)
        (let z : 11 * n + 3 * k ≡ 11 * n + 3 * k + 0 = omega arith in subst (λ (o : ℕ). get_or v o 0 ≡ get_or m o 0) (sym z) (word_old k 0 lt (omega arith)))
        (word_old k 1 lt (omega arith)) (word_old k 2 lt (omega arith))

    abbrev hash : ℕ → ℕ
    hash k = cell_bucket n (cell_at v (11 * n + 3 * k))

    linked_new : Linked hash v 0 (4 * n) (count + 1)
    unfolding m₁
    linked_new =
        linked_same hash m₁ v 0 (4 * n) (count + 1) (len ∙ sym len₁)
        (λ x lt. other (0 + x) (λ q. omega (arith, few)) (λ q. omega (arith, few)) (λ q. omega (arith, few)) (λ q. omega (arith, few)) (λ q. omega (arith, few)))
        more
      where
        more : Linked hash m₁ 0 (4 * n) (count + 1)
        more =
            linked_more hash m 0 (4 * n) count b (B.is ∙ ap (cell_bucket n) (sym cell_new)) B.low (omega (arith, I.room, few))
            (linked_cong (λ k. cell_bucket n (cell_at m (11 * n + 3 * k))) hash m 0 (4 * n) count (λ k lt. ap (cell_bucket n) (sym (cell_old k lt))) I.linked)

    pub kept_new : Answers None → WeldedSoFar vs eps n (i + 1) (count + 1) (stored (linked_in m 0 (4 * n) count b) c)
    unfolding v s₄ s₃ s₂ s₁ m₁
    kept_new e =
        record {
          index =
              record {
                size = I.size;
                small = I.small;
                room = omega (arith, I.room, len);
                few = omega (arith, few);
                low = λ k lt. low k lt (dec_lt k count);
                linked = linked_new;
                stands = λ k lt. stands k lt (dec_lt k count);
              };
          done = omega arith;
          within = omega (arith, G.within);
          kept = view_more m v (9 * n) count i (omega (arith, I.room, few)) len id_old id_new
              ∙ ap (λ (l : List ℕ). l ++ (i ∷ [])) G.kept ∙ sym (ap (λ (w : Welded). w.kept) step);
          old_to_new = view_more m v (10 * n) i count (omega (arith, I.room)) len
              (λ k lt. other (10 * n + k) (λ q. omega (arith, few)) (λ q. omega arith) (λ q. omega arith) (λ q. omega arith) (λ q. omega arith) ∙ rest₁ (10 * n + k)
              (omega (arith, few)))
              number_new
              ∙ ap (λ (l : List ℕ). l ++ (count ∷ [])) G.old_to_new
              ∙ ap (λ (k : ℕ). (weld (cells eps) (vertex_of vs) i).old_to_new ++ (k ∷ [])) (sym (kept_long vs eps n count m I) ∙ ap length G.kept)
              ∙ sym (ap (λ (w : Welded). w.old_to_new) step);
        }
      where
        step : weld (cells eps) (vertex_of vs) (i + 1) ≡ welding None i (weld (cells eps) (vertex_of vs) i)
        step = step_is None (sym e)

        low : (k : ℕ) → k < count + 1 → Dec (k < count) → get_or v (9 * n + k) 0 < n
        low k lt (yes g) = rw (id_old k g) (I.low k g)
        low k lt (no g) = let t : k ≡ count = omega arith in subst (λ (j : ℕ). get_or v (9 * n + j) 0 < n) (sym t) (rw id_new h)

        stands : (k : ℕ) → k < count + 1 → Dec (k < count) → cell_at v (11 * n + 3 * k) ≡ words_of (key_of eps (vertex_of vs (get_or v (9 * n + k) 0)))
        stands k lt (yes g) = cell_old k g ∙ I.stands k g ∙ ap (λ (x : ℕ). words_of (key_of eps (vertex_of vs x))) (sym (id_old k g))
        stands k lt (no g) =
            let t : k ≡ count = omega arith in
            subst (λ (j : ℕ). cell_at v (11 * n + 3 * j) ≡ words_of (key_of eps (vertex_of vs (get_or v (9 * n + j) 0)))) (sym t)
            (cell_new ∙ C ∙ ap (λ (x : ℕ). words_of (key_of eps (vertex_of vs x))) (sym id_new))

-- ---- the first vertex and the last

pub going_start : (vs : List Float) (eps : Float) (n : ℕ) (m v : List ℕ) → n < 268435456 → 3 * n ≤ length vs → 14 * n ≤ length m → PartZeroed m v 0 (8 * n)
    → WeldedSoFar vs eps n 0 0 v
unfolding weld
going_start vs eps n m v small size room z =
    record {
      index =
          record {
            size = size;
            small = small;
            room = omega (arith, z.long);
            few = omega arith;
            low = λ k h. absurd (omega arith);
            linked = linked_none (λ k. cell_bucket n (cell_at v (11 * n + 3 * k))) v 0 (4 * n) (omega (arith, z.long)) (λ i h. z.zero i (omega arith));
            stands = λ k h. absurd (omega arith);
          };
      done = omega arith;
      within = omega arith;
      kept = refl;
      old_to_new = refl;
    }

pub going_end : (vs : List Float) (eps : Float) (n i count : ℕ) (m : List ℕ) → WeldedSoFar vs eps n i count m → n ≤ i → Welds vs eps n m count
going_end vs eps n i count m G h =
    let e : i ≡ n = omega (arith, G.done) in
    let g = subst (λ (k : ℕ). WeldedSoFar vs eps n k count m) e G in
    record { few = g.within; kept = g.kept; old_to_new = g.old_to_new }

pub none_welds : (vs : List Float) (eps : Float) (n : ℕ) (m : List ℕ) → n ≡ 0 → Welds vs eps n m 0
unfolding weld
none_welds vs eps n m e = subst (λ (k : ℕ). Welds vs eps k m 0) (sym e) (record { few = omega arith; kept = refl; old_to_new = refl })
