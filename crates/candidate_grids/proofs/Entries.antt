-- What is entered into the pool: a point, and in a loop one list after another. Assumes nothing.
--   grown_none, grown_more, grown_inserted   what stays as it was
--   cell_left, cell_in           a point was left out; it was inserted
--   entered_none, entered_more   of no list; of one list more
--   row_line_in, row_point_ready   a row's j-th line is bounded; what entering a point there asks
--   row_cell_lem                     what it enters, by the segments as they stood before the row
use Prim.Native.Nat.{ℕ, ◌+◌, ◌^◌, ◌≤◌, ◌<◌}
use native.Mathlib.Omega.{arith}
use mathlib.Core.Path.{◌≡◌, refl, sym, ap, ◌∙◌}
use mathlib.Core.Bool.{Bool, true, false, cond, ◌&&◌}
use mathlib.Core.List.{List, [], ◌∷◌, flat_map, foldl}
use lib.ListN.{length}
use lib.Ieee.{Float}
use Rattle.lists.specs.Lists.{has, up_from, up_to}
use Rattle.lists.proofs.Bools.{cond_true, cond_false}
use Rattle.lists.proofs.Sequences.{fold_flat}
use Rattle.root.specs.Bounds.{Within}
use Rattle.geometry.specs.declared.point.Point.{Point}
use Rattle.geometry.specs.declared.aabb.AABB.{AABB}
use Rattle.geometry.specs.Boxes.{lowest, highest}
use Rattle.box_faces.specs.declared.uv.Uv.{Uv}
use Rattle.box_faces.specs.Faces.{v_axis, project}
use Rattle.box_faces.specs.Lines.{line_at, point_on_face}
use Rattle.candidate_pool.specs.Pool.{Candidate, Pool, point_of, face_list, by_key, insert}
use Rattle.candidate_pool.specs.Standing.{candidate, pool_at, PointIn, Holds, Inserted}
use Rattle.candidate_pool.proofs.Growing.{count_grows, count_most, grows, points_kept}
use Rattle.candidate_pool.proofs.Reading.{pool_count}
use Rattle.candidate_grids.specs.declared.grids.Near.{Near}
use Rattle.candidate_grids.specs.declared.grids.Row.{Row}
use Rattle.candidate_grids.specs.Steps.{skips_near, is_inner, grid_cell, row_cell, PointReady, Grown, PointsEntered, RowReady}
use Rattle.candidate_grids.proofs.Frames.{skips_same, near_same}
use Rattle.candidate_grids.proofs.Bounded.{line_in}

pub grown_none : (n : ℕ) (w : List ℕ) → Grown n w w
grown_none n w = record { more = omega arith; points = λ c h. refl; lists = λ f c h e. e }

pub grown_more : (n : ℕ) (w v u : List ℕ) → Grown n w v → Grown n v u → Grown n w u
grown_more n w v u a b =
    record {
      more = let x = a.more in let y = b.more in omega arith;
      points = λ c h. b.points c (let x = a.more in omega arith) ∙ a.points c h;
      lists = λ f c h e. b.lists f c h (a.lists f c h e);
    }

pub grown_inserted : (eps : Float) (n : ℕ) (e : Candidate) (w v : List ℕ) → e.mesh ≡ 0 → Inserted eps n e w v → Grown n w v
grown_inserted eps n e w v z I =
    record {
      more =
          let a = count_grows (by_key eps) (pool_at n w) e in
          let b = pool_count n w in
          let c = sym (pool_count n v) ∙ ap (λ (q : Pool). length q.all) I.pool in
          omega arith;
      points = λ c h. ap (λ (q : Pool). point_of q c) I.pool ∙ points_kept (by_key eps) (pool_at n w) e z c (let k = pool_count n w in omega arith);
      lists = λ f c h t. ap (λ (q : Pool). has (face_list q f) c) I.pool ∙ grows (by_key eps) (pool_at n w) e f c h t;
    }

module _ (eps : Float) (n : ℕ) (skips : Uv → Bool) (inner : Bool) (f : ℕ) (p : Point) (w : List ℕ) where
  pub cell_left : (inner && skips (project f p)) ≡ true → Holds eps n w → PointsEntered eps n (grid_cell skips inner f p) 1 w w
  unfolding grid_cell
  cell_left e H =
      record {
        pool = sym (ap (foldl (insert (by_key eps)) (pool_at n w)) (cond_true (inner && skips (project f p)) [] (candidate p 0 (f ∷ []) ∷ []) [] e refl));
        holds = H;
        few = omega arith;
        grown = grown_none n w;
        long = refl;
        rest = λ x h. refl;
      }

  pub cell_in : (inner && skips (project f p)) ≡ false → (v : List ℕ) → Inserted eps n (candidate p 0 (f ∷ [])) w v → PointsEntered eps n (grid_cell skips inner f p) 1 w v
  unfolding grid_cell
  cell_in e v I =
      record {
        pool =
            I.pool ∙ sym (ap (foldl (insert (by_key eps)) (pool_at n w))
            (cond_false (inner && skips (project f p)) [] (candidate p 0 (f ∷ []) ∷ []) (candidate p 0 (f ∷ []) ∷ []) e refl));
        holds = I.holds;
        few =
            let a = count_most (by_key eps) (pool_at n w) (candidate p 0 (f ∷ [])) in
            let b = pool_count n w in
            let c = sym (pool_count n v) ∙ ap (λ (q : Pool). length q.all) I.pool in
            omega arith;
        grown = grown_inserted eps n (candidate p 0 (f ∷ [])) w v refl I;
        long = I.long;
        rest = I.rest;
      }

module _ (eps : Float) (n : ℕ) (g : ℕ → List Candidate) (w : List ℕ) where
  pub entered_none : (most : ℕ) → Holds eps n w → PointsEntered eps n (flat_map g (up_to 0)) most w w
  unfolding flat_map up_from
  entered_none most H = record { pool = refl; holds = H; few = omega arith; grown = grown_none n w; long = refl; rest = λ x h. refl }

  -- l is what the turn with i entered
  pub entered_more : (v u : List ℕ) (l : List Candidate) (i most more total : ℕ) → PointsEntered eps n (flat_map g (up_to i)) most w v → l ≡ g i
      → PointsEntered eps n l more v u → most + more ≡ total → PointsEntered eps n (flat_map g (up_to (i + 1))) total w u
  entered_more v u l i most more total a e b q =
      record {
        pool = fold_flat (insert (by_key eps)) (pool_at n w) (pool_at n v) (pool_at n u) g i a.pool (b.pool ∙ ap (foldl (insert (by_key eps)) (pool_at n v)) e);
        holds = b.holds;
        few = let x = a.few in let y = b.few in omega arith;
        grown = grown_more n w v u a.grown b.grown;
        long = b.long ∙ a.long;
        rest = λ x h. b.rest x h ∙ a.rest x h;
      }

-- ---- a row

module _ (eps : Float) (n : ℕ) (near : Near) (f : ℕ) (row : Row) (box : AABB) (last : ℕ) (w v : List ℕ) (R : RowReady eps n near row box last w) (j : ℕ)
    (E : PointsEntered eps n (flat_map (row_cell (skips_near w near) box f row last) (up_to j)) j w v) (lt : j ≤ last) where
  pub row_line_in : (line : Float) → v_axis f < 3 → line ≡ line_at (lowest box (v_axis f)) (highest box (v_axis f)) last j → Within (2 ^ 48) line
  row_line_in line h el = rw el (line_in box (v_axis f) last j R.box_in h R.some_parts R.few_parts (let a = R.few_parts in omega arith))

  pub row_point_ready : (p : Point) → PointIn p → PointReady eps n near p v
  row_point_ready p h =
      record {
        holds = E.holds;
        room = let a = E.few in let b = R.room in omega arith;
        near_in = near_same n near w v E.long E.rest R.near_in;
        point_in = h;
      }

  pub row_cell_lem : (line : Float) (p : Point) (inner : Bool) → line ≡ line_at (lowest box (v_axis f)) (highest box (v_axis f)) last j → p ≡ point_on_face f row.at row.u line → inner ≡
      (row.inner && is_inner j last)
      → grid_cell (skips_near v near) inner f p ≡ row_cell (skips_near w near) box f row last j
  unfolding grid_cell row_cell
  row_cell_lem line p inner el ep ei =
      let same : skips_near v near (project f p) ≡ skips_near w near (project f p)
      = skips_same w v near.at near.count (λ x a b. E.rest x (let q = R.near_in.above in omega arith)) near.tolerance (project f p) in
      let q : p ≡ point_on_face f row.at row.u (line_at (lowest box (v_axis f)) (highest box (v_axis f)) last j) = ep ∙ ap (point_on_face f row.at row.u) el in
      ap (λ (b : Bool). cond (inner && b) [] (candidate p 0 (f ∷ []) ∷ [])) same
      ∙ ap (λ (b : Bool). cond (b && skips_near w near (project f p)) [] (candidate p 0 (f ∷ []) ∷ [])) ei
      ∙ ap (λ (z : Point). cond ((row.inner && is_inner j last) && skips_near w near (project f z)) [] (candidate z 0 (f ∷ []) ∷ [])) q
