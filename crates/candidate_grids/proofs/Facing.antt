-- A face's grid: its rows as the code walks them are the definition's. Assumes nothing.
--   point_is          a point of a row is the grid's point
--   u_low, v_low      a face's axes
--   parts_some, parts_few     an axis has 1 to 256 segments      parts_is, parts_in    and so has it by the lesser of their number and 257
--   parts_cut                 and so has it by the counts of a cut
--   face_room         there is room for a face's grid
--   face_is           the rows of a face, one after another, are its grid
--   near_ready        the gathered segments stand in the room
--   rows_same, row_is     a row by the segments as they stood before the first row
--   row_ready         what entering a row asks
--   gathered_pool, gathered_holds, gathered_count, gathered_grown    gathering leaves the pool
--   turn_size         one row more
--   face_line_in      a face's own line is bounded
--   face_end          the grid of a face was entered
use Prim.Native.Nat.{ℕ, zero, suc, ◌+◌, ◌*◌, ◌^◌, ◌≤◌, ◌<◌, min}
use native.Mathlib.Omega.{arith}
use native.Mathlib.Nat.{add-mul, one-mul, mul-le-mul_right}
use mathlib.Core.Path.{◌≡◌, refl, sym, ap, ◌∙◌}
use mathlib.Core.Bool.{Bool, true, false, cond, ◌&&◌}
use mathlib.Core.List.{List, [], ◌∷◌, flat_map, foldl}
use lib.ListN.{length, get_or}
use lib.Ieee.{Float}
use Rattle.lists.specs.Lists.{some, has, up_to}
use Rattle.lists.proofs.Sequences.{flat_below}
use Rattle.root.specs.Bounds.{Within}
use Rattle.root.specs.Doubles.{larger, ◌⊖◌}
use Rattle.rounding.proofs.Segments.{segments_some}
use Rattle.geometry.specs.declared.point.Point.{Point}
use Rattle.geometry.specs.declared.aabb.AABB.{AABB}
use Rattle.geometry.specs.Boxes.{lowest, highest, axis, is_min}
use Rattle.geometry.specs.Axes.{segments, grid_line}
use Rattle.input_tests.specs.Front.{box_in_range, by_axis, grid_too_fine, CutsOf}
use Rattle.input_tests.proofs.Grids.{not_too_fine, cut_is}
use Rattle.box_faces.specs.declared.uv.Uv.{Uv}
use Rattle.box_faces.specs.Faces.{u_axis, v_axis, project}
use Rattle.box_faces.specs.Lines.{line_at, point_on_face}
use Rattle.candidate_pool.specs.OpenEdges.{OpenEdge}
use Rattle.candidate_pool.specs.Offsets.{joined_at, open_edges_at, segments_at, room_end}
use Rattle.candidate_pool.specs.Pool.{Pool, point_of, face_list, by_key, insert}
use Rattle.candidate_pool.specs.Standing.{candidate, count_at, pool_at, Holds, edges_at}
use Rattle.candidate_pool.proofs.Frames.{pool_same, holds_same}
use Rattle.candidate_grids.specs.declared.grids.Near.{Near}
use Rattle.candidate_grids.specs.declared.grids.Row.{Row}
use Rattle.candidate_grids.specs.Grid.{grid_point, skipped, grid_at, face_grid}
use Rattle.candidate_grids.specs.Steps.{
  by_axes,
  skips_at,
  skips_near,
  edge_hit,
  Gathered,
  NearReady,
  is_inner,
  grid_cell,
  row_cell,
  face_line,
  row_at,
  Grown,
  PointsEntered,
  RowReady,
  face_size,
  FaceReady,
  FaceEntered,
}
use Rattle.candidate_grids.proofs.Frames.{skips_same, near_same}
use Rattle.candidate_grids.proofs.Entries.{grown_more}
use Rattle.candidate_grids.proofs.Bounded.{line_in}
use Rattle.candidate_grids.proofs.Edged.{edges_some}

pub u_low : (f : ℕ) → f < 6 → u_axis f < 3
u_low zero h = omega arith
u_low (suc zero) h = omega arith
u_low (suc (suc zero)) h = omega arith
u_low (suc (suc (suc zero))) h = omega arith
u_low (suc (suc (suc (suc zero)))) h = omega arith
u_low (suc (suc (suc (suc (suc zero))))) h = omega arith
u_low (suc (suc (suc (suc (suc (suc f)))))) h = absurd (omega arith)

pub v_low : (f : ℕ) → f < 6 → v_axis f < 3
v_low zero h = omega arith
v_low (suc zero) h = omega arith
v_low (suc (suc zero)) h = omega arith
v_low (suc (suc (suc zero))) h = omega arith
v_low (suc (suc (suc (suc zero)))) h = omega arith
v_low (suc (suc (suc (suc (suc zero))))) h = omega arith
v_low (suc (suc (suc (suc (suc (suc f)))))) h = absurd (omega arith)

and_both : (a b c : Bool) → ((a && b) && c) ≡ (a && (b && c))
and_both true b c = refl
and_both false b c = refl

module _ (box : AABB) (eps : Float) (resolution : List Float) where
  abbrev segs : ℕ → ℕ
  segs k = segments box eps (by_axis resolution) k

  pub parts_some : (k : ℕ) → 1 ≤ segs k
  unfolding segments
  parts_some k = segments_some (highest box k ⊖ lowest box k) (larger (by_axis resolution k) eps)

  pub parts_cut : (l : List ℕ) → CutsOf box eps (by_axis resolution) l → (k : ℕ) → k < 3 → segs k ≤ 256
  parts_cut l c k h =
      let e = c.counts k h in
      let m = c.few k h in
      omega arith

  pub parts_few : (k : ℕ) → k < 3 → grid_too_fine box eps (by_axis resolution) ≡ false → segs k ≤ 256
  parts_few zero h e = (not_too_fine box eps (by_axis resolution) e).x
  parts_few (suc zero) h e = (not_too_fine box eps (by_axis resolution) e).y
  parts_few (suc (suc zero)) h e = (not_too_fine box eps (by_axis resolution) e).z
  parts_few (suc (suc (suc k))) h e = absurd (omega arith)

  pub parts_is : (k n : ℕ) → k < 3 → grid_too_fine box eps (by_axis resolution) ≡ false → n ≡ min (segs k) 257 → n ≡ segs k
  parts_is k n h e q = cut_is n (segs k) q (parts_few k h e)

  pub parts_in : (k n : ℕ) → k < 3 → grid_too_fine box eps (by_axis resolution) ≡ false → n ≡ min (segs k) 257 → (1 ≤ n) × (n ≤ 256)
  parts_in k n h e q =
      let a = parts_some k in
      let b = parts_few k h e in
      let c = parts_is k n h e q in
      (omega arith, omega arith)

  pub face_room : (n f last last-v : ℕ) (w v : List ℕ) → last ≡ segs (u_axis f) → last-v ≡ segs (v_axis f) → count_at v ≡ count_at w
      → count_at w + face_size box eps resolution f ≤ n
      → count_at v + (last + 1) * (last-v + 1) ≤ n
  face_room n f last last-v w v eu ev e h =
      let q : (last + 1) * (last-v + 1) ≡ face_size box eps resolution f = ap (λ (x : ℕ). (x + 1) * (last-v + 1)) eu ∙ ap (λ (x : ℕ). (segs (u_axis f) + 1) * (x + 1)) ev in
      omega arith

module _ (box : AABB) (eps : Float) (resolution skip : List Float) where
  abbrev segs' : ℕ → ℕ
  segs' k = segments box eps (by_axis resolution) k

  pub point_is : (f i j : ℕ) → f < 6
      → point_on_face f (face_line box f (segs' (axis f))) (line_at (lowest box (u_axis f)) (highest box (u_axis f)) (segs' (u_axis f)) i)
      (line_at (lowest box (v_axis f)) (highest box (v_axis f)) (segs' (v_axis f)) j)
      ≡ grid_point (by_axes box eps resolution skip) f i j
  unfolding grid_point grid_line line_at point_on_face
  point_is zero i j h = refl
  point_is (suc zero) i j h = refl
  point_is (suc (suc zero)) i j h = refl
  point_is (suc (suc (suc zero))) i j h = refl
  point_is (suc (suc (suc (suc zero)))) i j h = refl
  point_is (suc (suc (suc (suc (suc zero))))) i j h = refl
  point_is (suc (suc (suc (suc (suc (suc f)))))) i j h = absurd (omega arith)

  module _ (edges : List OpenEdge) (pool : Pool) (f : ℕ) (f-in : f < 6) (skips : Uv → Bool) (same : (p : Uv) → skips p ≡ skipped (by_axes box eps resolution skip) edges pool f p)
    where
      cell_is : (i j : ℕ) → row_cell skips box f (row_at box f (face_line box f (segs' (axis f))) (segs' (u_axis f)) i) (segs' (v_axis f)) j ≡ grid_at (by_axes box eps resolution skip)
          edges pool f i j
      unfolding row_cell grid_cell grid_at
      cell_is i j =
          ap (λ (p : Point). cond ((is_inner i (segs' (u_axis f)) && is_inner j (segs' (v_axis f))) && skips (project f p)) [] (candidate p 0 (f ∷ []) ∷ [])) (point_is f i j f-in)
          ∙ ap (λ (b : Bool). cond b [] (candidate (grid_point (by_axes box eps resolution skip) f i j) 0 (f ∷ []) ∷ []))
          (and_both (is_inner i (segs' (u_axis f))) (is_inner j (segs' (v_axis f))) (skips (project f (grid_point (by_axes box eps resolution skip) f i j)))
          ∙ ap (λ (b : Bool). is_inner i (segs' (u_axis f)) && (is_inner j (segs' (v_axis f)) && b)) (same (project f (grid_point (by_axes box eps resolution skip) f i j))))

      pub face_is : (at : Float) (last last-v parts : ℕ) → last ≡ segs' (u_axis f) → last-v ≡ segs' (v_axis f) → parts ≡ segs' (axis f) → at ≡ face_line box f parts
          → flat_map (λ i. flat_map (row_cell skips box f (row_at box f at last i) last-v) (up_to (last-v + 1))) (up_to (last + 1)) ≡ face_grid (by_axes box eps resolution skip) edges pool f
      unfolding face_grid
      face_is at last last-v parts eu ev ep ea =
          ap (λ (x : ℕ). flat_map (λ i. flat_map (row_cell skips box f (row_at box f at x i) last-v) (up_to (last-v + 1))) (up_to (x + 1))) eu
          ∙ ap (λ (x : ℕ). flat_map (λ i. flat_map (row_cell skips box f (row_at box f at (segs' (u_axis f)) i) x) (up_to (x + 1))) (up_to (segs' (u_axis f) + 1))) ev
          ∙ ap (λ (x : Float). flat_map (λ i. flat_map (row_cell skips box f (row_at box f x (segs' (u_axis f)) i) (segs' (v_axis f))) (up_to (segs' (v_axis f) + 1)))
          (up_to (segs' (u_axis f) + 1)))
          (ea ∙ ap (face_line box f) ep)
          ∙ flat_below (λ i. flat_map (row_cell skips box f (row_at box f (face_line box f (segs' (axis f))) (segs' (u_axis f)) i) (segs' (v_axis f))) (up_to (segs' (v_axis f) + 1)))
          (λ i. flat_map (λ j. grid_at (by_axes box eps resolution skip) edges pool f i j) (up_to (segs' (v_axis f) + 1))) (segs' (u_axis f) + 1)
          (λ i l. flat_below (row_cell skips box f (row_at box f (face_line box f (segs' (axis f))) (segs' (u_axis f)) i) (segs' (v_axis f)))
          (λ j. grid_at (by_axes box eps resolution skip) edges pool f i j)
          (segs' (v_axis f) + 1) (λ j m. cell_is i j))

-- ---- rows

pub near_ready : (n nf k f : ℕ) (tolerance : Float) (w v : List ℕ) (count at : ℕ) (t : Float) → Gathered n nf k f tolerance w v count → at ≡ segments_at n nf → k ≤ 3 * nf → room_end
    n nf ≤ length w
    → NearReady n (record { at = at; count = count; tolerance = t }) v
near_ready n nf k f tolerance w v count at t G e edges size =
    record {
      above = omega arith;
      size = let l = G.long in let c = G.few in omega arith;
      segments = λ i h. rw e (G.segments i h);
    }

pub rows_same : (skips skips' : Uv → Bool) → ((p : Uv) → skips p ≡ skips' p) → (box : AABB) (f : ℕ) (row : Row) (last m : ℕ)
    → flat_map (row_cell skips box f row last) (up_to m) ≡ flat_map (row_cell skips' box f row last) (up_to m)
unfolding row_cell grid_cell
rows_same skips skips' same box f row last m =
    flat_below (row_cell skips box f row last) (row_cell skips' box f row last) m
    (λ j h.
    let p = point_on_face f row.at row.u (line_at (lowest box (v_axis f)) (highest box (v_axis f)) last j) in
    ap (λ (b : Bool). cond ((row.inner && is_inner j last) && b) [] (candidate p 0 (f ∷ []) ∷ [])) (same (project f p)))

module _ (eps : Float) (n : ℕ) (near : Near) (f : ℕ) (box : AABB) (at : Float) (last last-v : ℕ) (w v : List ℕ) (N : NearReady n near w) (i : ℕ)
    (E : PointsEntered eps n (flat_map (λ x. flat_map (row_cell (skips_near w near) box f (row_at box f at last x) last-v) (up_to (last-v + 1))) (up_to i)) (i * (last-v + 1)) w v) where
  pub row_ready : (u : Float) (inner : Bool) → f < 6 → box_in_range box ≡ true → i ≤ last → last ≤ 256 → 1 ≤ last → last-v ≤ 256 → 1 ≤ last-v
      → count_at w + (last + 1) * (last-v + 1) ≤ n → Within (2 ^ 48) at → u ≡ line_at (lowest box (u_axis f)) (highest box (u_axis f)) last i
      → RowReady eps n near (record { at = at; u = u; inner = inner }) box last-v v
  row_ready u inner f-in box_in le lu su lv sv room at_in eu =
      record {
        holds = E.holds;
        room =
            let a = E.few in
            let b : (i + 1) * (last-v + 1) ≤ (last + 1) * (last-v + 1) = mul-le-mul_right (last-v + 1) (omega arith) in
            let c = add-mul i 1 (last-v + 1) in
            omega (arith, one-mul (last-v + 1));
        near_in = near_same n near w v E.long E.rest N;
        some_parts = sv;
        few_parts = lv;
        box_in = box_in;
        at_in = at_in;
        u_in = rw eu (line_in box (u_axis f) last i box_in (u_low f f-in) su lu (omega arith));
      }

  pub row_is : (u : Float) (inner : Bool) → u ≡ line_at (lowest box (u_axis f)) (highest box (u_axis f)) last i → inner ≡ is_inner i last
      → flat_map (row_cell (skips_near v near) box f (record { at = at; u = u; inner = inner }) last-v) (up_to (last-v + 1))
      ≡ flat_map (row_cell (skips_near w near) box f (row_at box f at last i) last-v) (up_to (last-v + 1))
  row_is u inner eu ei =
      rows_same (skips_near v near) (skips_near w near) (skips_same w v near.at near.count (λ x a b. E.rest x (let q = N.above in omega arith)) near.tolerance) box f
      (record { at = at; u = u; inner = inner }) last-v (last-v + 1)
      ∙ ap (λ (x : Float). flat_map (row_cell (skips_near w near) box f (record { at = at; u = x; inner = inner }) last-v) (up_to (last-v + 1))) eu
      ∙ ap (λ (b : Bool). flat_map (row_cell (skips_near w near) box f (record { at = at; u = line_at (lowest box (u_axis f)) (highest box (u_axis f)) last i; inner = b }) last-v)
      (up_to (last-v + 1))) ei

pub turn_size : (i m : ℕ) → i * m + m ≡ (i + 1) * m
turn_size i m = sym (add-mul i 1 m ∙ ap (λ (x : ℕ). i * m + x) (one-mul m))

pub face_line_in : (box : AABB) (f parts : ℕ) → box_in_range box ≡ true → f < 6 → 1 ≤ parts → parts ≤ 256 → Within (2 ^ 48) (face_line box f parts)
face_line_in box f parts e h a b = line_in box (axis f) parts (cond (is_min f) 0 parts) e (omega arith) a b (go (is_min f))
  where
    go : (m : Bool) → cond m 0 parts ≤ 256
    go true = omega arith
    go false = b

-- ---- the face

module _ (eps : Float) (n nf k f : ℕ) (tolerance : Float) (w v : List ℕ) (H : Holds eps n w) (count : ℕ) (G : Gathered n nf k f tolerance w v count) where
  below : (x : ℕ) → x < joined_at n → get_or v x 0 ≡ get_or w x 0
  below x h = G.rest x (omega arith)

  pub gathered_pool : pool_at n v ≡ pool_at n w
  gathered_pool = pool_same eps n w v H G.long below

  pub gathered_holds : Holds eps n v
  gathered_holds = holds_same eps n w v H G.long below

  pub gathered_count : count_at v ≡ count_at w
  gathered_count = below 6 (omega arith)

  gathered_grown : Grown n w v
  gathered_grown =
      record {
        more = let e = gathered_count in omega arith;
        points = λ c h. ap (λ (p : Pool). point_of p c) gathered_pool;
        lists = λ g c h e. ap (λ (p : Pool). has (face_list p g) c) gathered_pool ∙ e;
      }

module _ (box : AABB) (eps : Float) (resolution skip : List Float) (n nf k f : ℕ) (f-in : f < 6) (w v u : List ℕ) (R : FaceReady box eps resolution skip n nf k f w) (count : ℕ)
    (tolerance : Float) (t-is : tolerance ≡ by_axis skip (axis f)) (G : Gathered n nf k f tolerance w v count) where
  segments_say : (place : ℕ) → place ≡ segments_at n nf → (p : Uv)
      → skips_at v place count tolerance p ≡ skipped (by_axes box eps resolution skip) (edges_at w (open_edges_at n nf) k) (pool_at n w) f p
  unfolding skipped
  segments_say place es p =
      ap (λ (x : ℕ). skips_at v x count tolerance p) es ∙ G.skips p ∙ ap (λ (t : Float). some (edge_hit (pool_at n w) w (open_edges_at n nf) f t p) (up_to k)) t-is
      ∙ sym (edges_some (pool_at n w) w (open_edges_at n nf) k f (by_axis skip (axis f)) p f-in)

  pub face_end : (place : ℕ) (at : Float) (last last-v parts i : ℕ) → place ≡ segments_at n nf → last ≡ segments box eps (by_axis resolution) (u_axis f) → last-v ≡ segments box eps
      (by_axis resolution) (v_axis f)
      → parts ≡ segments box eps (by_axis resolution) (axis f) → at ≡ face_line box f parts → i ≡ last + 1
      → PointsEntered eps n (flat_map (λ x. flat_map (row_cell (skips_near v (record { at = place; count = count; tolerance = tolerance })) box f (row_at box f at last x) last-v)
      (up_to (last-v + 1))) (up_to i)) (i * (last-v + 1)) v u
      → FaceEntered box eps resolution skip n nf k f w u
  face_end place at last last-v parts i es eu ev ep ea ei E =
      record {
        pool =
            E.pool
            ∙ ap (λ (x : ℕ). foldl (insert (by_key eps)) (pool_at n v) (flat_map
            (λ y. flat_map (row_cell (skips_at v place count tolerance) box f (row_at box f at last y) last-v) (up_to (last-v + 1))) (up_to x))) ei
            ∙ ap (foldl (insert (by_key eps)) (pool_at n v)) (face_is box eps resolution skip (edges_at w (open_edges_at n nf) k) (pool_at n w) f f-in
            (skips_at v place count tolerance) (segments_say place es) at last last-v parts eu ev ep ea)
            ∙ ap (λ (p : Pool). foldl (insert (by_key eps)) p (face_grid (by_axes box eps resolution skip) (edges_at w (open_edges_at n nf) k) (pool_at n w) f))
            (gathered_pool eps n nf k f tolerance w v R.holds count G);
        holds = E.holds;
        few =
            let a = E.few in
            let b = gathered_count eps n nf k f tolerance w v R.holds count G in
            let c : i * (last-v + 1) ≡ face_size box eps resolution f = ap (λ (x : ℕ). x * (last-v + 1)) ei ∙ ap (λ (x : ℕ). (x + 1) * (last-v + 1)) eu ∙ ap
            (λ (x : ℕ). (segments box eps (by_axis resolution) (u_axis f) + 1) * (x + 1)) ev in
            omega arith;
        grown = grown_more n w v u (gathered_grown eps n nf k f tolerance w v R.holds count G) E.grown;
        long = E.long ∙ G.long;
        rest = λ x a b. E.rest x a ∙ G.rest x b;
      }
