-- What `enter_edge` leaves. Assumes nothing.
--   edge_entered   one open edge: its two ends inserted, and its three words stored
--   edge_done      the same, by the side that its record names
use Prim.Native.Nat.{ℕ, ◌+◌, ◌*◌, ◌/◌, ◌≤◌, ◌<◌}
use mathlib.Core.Path.{◌≡◌, refl, sym, ap, ◌∙◌, subst}
use mathlib.Core.Bool.{Bool, true, false, cond}
use mathlib.Core.List.{List, [], ◌++◌, map}
use native.Mathlib.Omega.{arith}
use lib.Dec.{eqb}
use lib.ListN.{length, get_or, set, length-append, length-map, length-set}
use lib.Seq.{get_or-set_same, get_or-set_other}
use lib.Ieee.{Float}
use Rattle.lists.specs.Lists.{has}
use Rattle.lists.proofs.Orders.{never}
use Rattle.geometry.specs.declared.aabb.AABB.{AABB}
use Rattle.geometry.specs.Triangles.{threes}
use Rattle.geometry.specs.Meshes.{vertex, points_of, mesh_of}
use Rattle.box_faces.specs.Faces.{face_bits, has_bit, bit_count}
use Rattle.edges.specs.Edges.{sides, open_edges}
use Rattle.candidate_pool.specs.OpenEdges.{OpenEdge, open_edge}
use Rattle.candidate_pool.specs.Offsets.{joined_at, pool_end, open_edges_at, edge_table_at}
use Rattle.candidate_pool.specs.Pool.{Pool, face_list, by_key, number_for, insert}
use Rattle.candidate_pool.specs.Standing.{faces_in, joined_in, pool_at, edge_at, edges_at, EdgesHeld}
use Rattle.candidate_pool.proofs.Growing.{grows, number_listed}
use Rattle.candidate_pool.proofs.Masking.{no_faces, no_bit, has_faces, few_faces}
use Rattle.candidate_pool.proofs.Frames.{pool_same, holds_same}
use Rattle.candidate_pool.proofs.Edges.{edges_more, edges_same, held_kept, held_more}
use Rattle.geometry.proofs.Meshes.{length_points_of}
use Rattle.candidate_edges.proofs.Sources.{sourced_same}
use Rattle.candidate_edges.specs.Surface.{edge_faces, mesh_candidate, enter_edge}
use Rattle.candidate_edges.specs.Steps.{TableAt, MeshFits, SourcesReady, VertexEntered, surface_at, EdgesEntering, EdgeEntered}
use Rattle.candidate_edges.proofs.Faces.{mask_faces, mask_small}

-- ---- three words stored one behind the other

module _ (w : List ℕ) (at a b m : ℕ) (room : at + 2 < length w) where
  abbrev three : List ℕ
  three = set (set (set w at a) (at + 1) b) (at + 2) m

  three_long : length three ≡ length w
  three_long = length-set (set (set w at a) (at + 1) b) (at + 2) m ∙ length-set (set w at a) (at + 1) b ∙ length-set w at a

  three_other : (x : ℕ) → (x ≡ at → ⊥) → (x ≡ at + 1 → ⊥) → (x ≡ at + 2 → ⊥) → get_or three x 0 ≡ get_or w x 0
  three_other x f g h =
      get_or-set_other (set (set w at a) (at + 1) b) (at + 2) x m 0 h ∙ get_or-set_other (set w at a) (at + 1) x b 0 g ∙ get_or-set_other w at x a 0 f

  first_word : get_or three at 0 ≡ a
  first_word =
      get_or-set_other (set (set w at a) (at + 1) b) (at + 2) at m 0 (λ e. omega arith)
      ∙ get_or-set_other (set w at a) (at + 1) at b 0 (λ e. omega arith)
      ∙ get_or-set_same w at a 0 (omega arith)

  second_word : get_or three (at + 1) 0 ≡ b
  second_word =
      get_or-set_other (set (set w at a) (at + 1) b) (at + 2) (at + 1) m 0 (λ e. omega arith)
      ∙ get_or-set_same (set w at a) (at + 1) b 0 (omega (arith, length-set w at a))

  third_word : get_or three (at + 2) 0 ≡ m
  third_word = get_or-set_same (set (set w at a) (at + 1) b) (at + 2) m 0 (omega (arith, length-set (set w at a) (at + 1) b, length-set w at a))

-- ---- an edge whose ends fell together has no face

edge_is : (a b mask : ℕ) (t : Bool) → map (λ f. open_edge f a b) (faces_in (cond t 0 mask)) ≡ cond t [] (map (λ f. open_edge f a b) (faces_in mask))
edge_is a b mask true = ap (map (λ f. open_edge f a b)) no_faces
edge_is a b mask false = refl

edge_long : (a b mask : ℕ) (t : Bool) → length (cond t [] (map (λ f. open_edge f a b) (faces_in mask))) ≡ cond t 0 (bit_count mask)
unfolding bit_count
edge_long a b mask true = refl
edge_long a b mask false = length-map (faces_in mask) (λ f. open_edge f a b)

edge_few : (mask : ℕ) (t : Bool) → cond t 0 (bit_count mask) ≤ 6
unfolding bit_count
edge_few mask true = omega arith
edge_few mask false = few_faces mask

edge_bit : (mask f : ℕ) (t : Bool) → f < 6 → has_bit (cond t 0 mask) f ≡ true → has_bit mask f ≡ true
edge_bit mask f true h e = absurd (never (has_bit 0 f) e (no_bit f h))
edge_bit mask f false h e = e

edge_small : (mask : ℕ) (t : Bool) → mask < 64 → cond t 0 mask < 64
edge_small mask true h = omega arith
edge_small mask false h = h

-- ---- one turn

module _ (vs : List Float) (fs : List ℕ) (box : AABB) (eps : Float) (n i mask a b r : ℕ) (w w1 w2 w3 : List ℕ)
    (entering : EdgesEntering vs fs eps n i w)
    (h : i < length (open_edges (threes fs)))
    (is : mask ≡ face_bits (edge_faces box eps (mesh_of vs fs) (get_or (open_edges (threes fs)) i (0, 0))))
    (first : VertexEntered vs eps n (get_or (open_edges (threes fs)) i (0, 0)).0 mask a w w1)
    (second : VertexEntered vs eps n (get_or (open_edges (threes fs)) i (0, 0)).1 mask b w1 w2)
    (stored : w3 ≡ set (set (set w2 (open_edges_at n (length fs / 3) + 3 * i) a) (open_edges_at n (length fs / 3) + 3 * i + 1) b) (open_edges_at n (length fs / 3) + 3 * i + 2)
    (cond (eqb a b) 0 mask))
    (result : r ≡ cond (eqb a b) 0 (bit_count mask)) where
  abbrev side : ℕ × ℕ
  side = get_or (open_edges (threes fs)) i (0, 0)

  abbrev at : ℕ
  at = open_edges_at n (length fs / 3)

  abbrev on : List ℕ
  on = edge_faces box eps (mesh_of vs fs) side

  room : at + 3 * i + 2 < length w2
  room =
      let f = entering.fits in
      let k = entering.table.within in
      let s = f.size in
      let t = f.threes in
      omega (arith, first.inserted.long, second.inserted.long)

  long : length w3 ≡ length w
  long = ap (length {A = ℕ}) stored ∙ three_long w2 (at + 3 * i) a b (cond (eqb a b) 0 mask) room ∙ second.inserted.long ∙ first.inserted.long

  word : (x : ℕ) → (x ≡ at + 3 * i → ⊥) → (x ≡ at + 3 * i + 1 → ⊥) → (x ≡ at + 3 * i + 2 → ⊥) → get_or w3 x 0 ≡ get_or w2 x 0
  word x f g k = ap (λ (l : List ℕ). get_or l x 0) stored ∙ three_other w2 (at + 3 * i) a b (cond (eqb a b) 0 mask) room x f g k

  same : (x : ℕ) → pool_end n ≤ x → (x ≡ at + 3 * i → ⊥) → (x ≡ at + 3 * i + 1 → ⊥) → (x ≡ at + 3 * i + 2 → ⊥) → get_or w3 x 0 ≡ get_or w x 0
  same x l f g k = word x f g k ∙ second.rest x l ∙ first.rest x l

  same_edges : (x : ℕ) → at ≤ x → x < at + 3 * i → get_or w3 x 0 ≡ get_or w x 0
  same_edges x l k = same x (omega arith) (λ e. omega arith) (λ e. omega arith) (λ e. omega arith)

  same_below : (x : ℕ) → x < pool_end n → get_or w3 x 0 ≡ get_or w2 x 0
  same_below x l = word x (λ e. omega arith) (λ e. omega arith) (λ e. omega arith)

  from_word : get_or w3 (at + 3 * i) 0 ≡ a
  from_word = ap (λ (l : List ℕ). get_or l (at + 3 * i) 0) stored ∙ first_word w2 (at + 3 * i) a b (cond (eqb a b) 0 mask) room

  to_word : get_or w3 (at + 3 * i + 1) 0 ≡ b
  to_word = ap (λ (l : List ℕ). get_or l (at + 3 * i + 1) 0) stored ∙ second_word w2 (at + 3 * i) a b (cond (eqb a b) 0 mask) room

  face_word : get_or w3 (at + 3 * i + 2) 0 ≡ cond (eqb a b) 0 mask
  face_word = ap (λ (l : List ℕ). get_or l (at + 3 * i + 2) 0) stored ∙ third_word w2 (at + 3 * i) a b (cond (eqb a b) 0 mask) room

  -- ---- the pool

  long3 : length w3 ≡ length w2
  long3 = ap (length {A = ℕ}) stored ∙ three_long w2 (at + 3 * i) a b (cond (eqb a b) 0 mask) room

  pool3 : pool_at n w3 ≡ pool_at n w2
  pool3 = pool_same eps n w2 w3 second.inserted.holds long3 (λ x l. same_below x (omega arith))

  on_is : faces_in mask ≡ on
  on_is = ap faces_in is ∙ mask_faces box eps (vertex (points_of vs) side.0) (vertex (points_of vs) side.1)

  mask_low : mask < 64
  mask_low = subst (λ (m : ℕ). m < 64) (sym is) (mask_small box eps (vertex (points_of vs) side.0) (vertex (points_of vs) side.1))

  abbrev pool1 : List ℕ → Pool
  pool1 o = insert (by_key eps) (pool_at n w) (mesh_candidate (mesh_of vs fs) side.0 o)

  pool_is : pool_at n w3 ≡ insert (by_key eps) (pool1 on) (mesh_candidate (mesh_of vs fs) side.1 on)
  pool_is =
      pool3 ∙ second.inserted.pool
      ∙ ap (λ (p : Pool). insert (by_key eps) p (mesh_candidate (mesh_of vs fs) side.1 (faces_in mask))) first.inserted.pool
      ∙ ap (λ (o : List ℕ). insert (by_key eps) (pool1 o) (mesh_candidate (mesh_of vs fs) side.1 o)) on_is

  from_is : a ≡ number_for (by_key eps) (pool_at n w) (mesh_candidate (mesh_of vs fs) side.0 on)
  from_is = first.number ∙ ap (λ (o : List ℕ). number_for (by_key eps) (pool_at n w) (mesh_candidate (mesh_of vs fs) side.0 o)) on_is

  to_is : b ≡ number_for (by_key eps) (pool1 on) (mesh_candidate (mesh_of vs fs) side.1 on)
  to_is =
      second.number
      ∙ ap (λ (p : Pool). number_for (by_key eps) p (mesh_candidate (mesh_of vs fs) side.1 (faces_in mask))) first.inserted.pool
      ∙ ap (λ (o : List ℕ). number_for (by_key eps) (pool1 o) (mesh_candidate (mesh_of vs fs) side.1 o)) on_is

  -- ---- the list of open edges

  new_edge : edge_at w3 (at + 3 * i) ≡ cond (eqb a b) [] (map (λ f. open_edge f a b) (faces_in mask))
  new_edge = (λ t. map (λ f. open_edge f (from_word t) (to_word t)) (faces_in (face_word t))) ∙ edge_is a b mask (eqb a b)

  all_edges : edges_at w3 at (i + 1) ≡ edges_at w at i ++ cond (eqb a b) [] (map (λ f. open_edge f a b) (faces_in mask))
  all_edges = edges_more w3 at i ∙ (λ t. edges_same w w3 at i same_edges t ++ new_edge t)

  surface : surface_at n w3 at (i + 1) ≡ enter_edge box eps (by_key eps) (mesh_of vs fs) (surface_at n w at i) side
  unfolding enter_edge
  surface =
      let p = pool_is in
      let e = all_edges ∙ (λ t. edges_at w at i ++ cond (eqb (from_is t) (to_is t)) [] (map (λ f. open_edge f (from_is t) (to_is t)) (on_is t))) in
      λ t. record { pool = p t; edges = e t }

  listed : length (edges_at w3 at (i + 1)) ≡ length (edges_at w at i) + r
  listed =
      ap (length {A = OpenEdge}) all_edges
      ∙ length-append (edges_at w at i) (cond (eqb a b) [] (map (λ f. open_edge f a b) (faces_in mask)))
      ∙ ap (λ (k : ℕ). length (edges_at w at i) + k) (edge_long a b mask (eqb a b) ∙ sym result)

  few : r ≤ 6
  few = subst (λ (k : ℕ). k ≤ 6) (sym result) (edge_few mask (eqb a b))

  -- ---- what is kept

  fits : MeshFits vs fs n w3
  fits =
      let f = entering.fits in
      record {
        threes = f.threes;
        numbers = f.numbers;
        vertices = f.vertices;
        small = f.small;
        few = f.few;
        size = (let s = f.size in let l = long in omega arith);
      }

  table_word : (j : ℕ) → get_or w3 (edge_table_at n (length fs / 3) + 2 * j + 1) 0 ≡ get_or w (edge_table_at n (length fs / 3) + 2 * j + 1) 0
  table_word j =
      let t = entering.fits.threes in
      let k = entering.table.within in
      same (edge_table_at n (length fs / 3) + 2 * j + 1) (omega arith) (λ e. omega arith) (λ e. omega arith) (λ e. omega arith)

  table : TableAt fs w3 (edge_table_at n (length fs / 3)) (length (open_edges (threes fs)))
  table =
      let t = entering.table in
      record {
        count = t.count;
        within = t.within;
        number = λ j l. subst (λ (x : ℕ). x < length fs) (sym (table_word j)) (t.number j l);
        side = λ j l. ap (λ (x : ℕ). get_or (sides (threes fs)) x (0, 0)) (table_word j) ∙ t.side j l;
      }

  ready : SourcesReady vs eps n w3
  ready =
      record {
        holds = holds_same eps n w2 w3 second.inserted.holds long3 (λ x l. same_below x (omega arith));
        vertices = entering.ready.vertices;
        within = entering.ready.within;
        sourced = sourced_same (points_of vs) eps (pool_at n w2) (pool_at n w3) (joined_in n w2) (joined_in n w3) pool3
            (λ v l. same_below (joined_at n + v) (omega (arith, length_points_of vs, entering.ready.vertices))) second.sourced;
      }

  held_old : EdgesHeld (pool_at n w3) w3 at i
  held_old =
      held_kept w w3 at i same_edges (pool_at n w) (pool_at n w3)
      (λ f c l e.
      ap (λ (p : Pool). has (face_list p f) c) pool_is
      ∙ grows (by_key eps) (pool1 on) (mesh_candidate (mesh_of vs fs) side.1 on) f c l (grows (by_key eps) (pool_at n w) (mesh_candidate (mesh_of vs fs) side.0 on) f c l e))
      entering.held

  on_face_lem : (f : ℕ) → f < 6 → has_bit (get_or w3 (at + 3 * i + 2) 0) f ≡ true → has on f ≡ true
  on_face_lem f l e =
      ap (λ (o : List ℕ). has o f) (sym on_is) ∙ has_faces mask f l
      ∙ edge_bit mask f (eqb a b) l (ap (λ (m : ℕ). has_bit m f) (sym face_word) ∙ e)

  from_held : (f : ℕ) → f < 6 → has_bit (get_or w3 (at + 3 * i + 2) 0) f ≡ true → has (face_list (pool_at n w3) f) (get_or w3 (at + 3 * i) 0) ≡ true
  from_held f l e =
      (λ t. has (face_list (pool_is t) f) ((from_word ∙ from_is) t))
      ∙ grows (by_key eps) (pool1 on) (mesh_candidate (mesh_of vs fs) side.1 on) f (number_for (by_key eps) (pool_at n w) (mesh_candidate (mesh_of vs fs) side.0 on)) l
      (number_listed (by_key eps) (pool_at n w) (mesh_candidate (mesh_of vs fs) side.0 on) f l (on_face_lem f l e))

  to_held : (f : ℕ) → f < 6 → has_bit (get_or w3 (at + 3 * i + 2) 0) f ≡ true → has (face_list (pool_at n w3) f) (get_or w3 (at + 3 * i + 1) 0) ≡ true
  to_held f l e =
      (λ t. has (face_list (pool_is t) f) ((to_word ∙ to_is) t))
      ∙ number_listed (by_key eps) (pool1 on) (mesh_candidate (mesh_of vs fs) side.1 on) f l (on_face_lem f l e)

  held : EdgesHeld (pool_at n w3) w3 at (i + 1)
  held =
      held_more (pool_at n w3) w3 at i held_old
      (subst (λ (m : ℕ). m < 64) (sym face_word) (edge_small mask (eqb a b) mask_low)) from_held to_held

  pub edge_entered : EdgeEntered vs fs box eps n i r w w3
  edge_entered =
      record {
        surface = surface;
        listed = listed;
        few = few;
        entering = record { fits = fits; table = table; ready = ready; held = held };
        long = long;
      }

pub edge_done : (vs : List Float) (fs : List ℕ) (box : AABB) (eps : Float) (n i s at v u mask a b r : ℕ) (w w1 w2 w3 : List ℕ)
    → EdgesEntering vs fs eps n i w
    → i < length (open_edges (threes fs))
    → get_or (sides (threes fs)) s (0, 0) ≡ get_or (open_edges (threes fs)) i (0, 0)
    → at ≡ open_edges_at n (length fs / 3)
    → mask ≡ face_bits (edge_faces box eps (mesh_of vs fs) (get_or (sides (threes fs)) s (0, 0)))
    → v ≡ (get_or (sides (threes fs)) s (0, 0)).0
    → u ≡ (get_or (sides (threes fs)) s (0, 0)).1
    → VertexEntered vs eps n v mask a w w1
    → VertexEntered vs eps n u mask b w1 w2
    → (w3 ≡ set (set (set w2 (at + 3 * i) a) (at + 3 * i + 1) b) (at + 3 * i + 2) (cond (eqb a b) 0 mask)) × (r ≡ cond (eqb a b) 0 (bit_count mask))
    → EdgeEntered vs fs box eps n i r w w3
edge_done vs fs box eps n i s at v u mask a b r w w1 w2 w3 entering h side place is from to first second stored =
    edge_entered vs fs box eps n i mask a b r w w1 w2 w3 entering h
    (is ∙ ap (λ (e : ℕ × ℕ). face_bits (edge_faces box eps (mesh_of vs fs) e)) side)
    (subst (λ (x : ℕ). VertexEntered vs eps n x mask a w w1) (from ∙ ap (λ (e : ℕ × ℕ). e.0) side) first)
    (subst (λ (x : ℕ). VertexEntered vs eps n x mask b w1 w2) (to ∙ ap (λ (e : ℕ × ℕ). e.1) side) second)
    (stored.0 ∙ ap (λ (x : ℕ). set (set (set w2 (x + 3 * i) a) (x + 3 * i + 1) b) (x + 3 * i + 2) (cond (eqb a b) 0 mask)) place)
    stored.1
