-- The loop over the six faces. Assumes nothing.
--   sum_to, size_to, size_more, size_room      how many points the grids of the first faces have: with the next one's, no more than all six have
--   grid_same              a face's grid by another room and pool that say the same of its points
--   Gridding               the invariant
--   gridding_start, gridding_ready, gridding_turn, gridding_end   its start, what a turn asks, a turn, the end
use Prim.Native.Nat.{ℕ, zero, suc, ◌+◌, ◌*◌, ◌≤◌, ◌<◌}
use native.Mathlib.Omega.{arith}
use native.Mathlib.Numerals.{add-one}
use mathlib.Core.Path.{◌≡◌, refl, ap, ◌∙◌}
use mathlib.Core.Bool.{Bool, cond, ◌&&◌}
use mathlib.Core.List.{List, [], ◌∷◌, flat_map, foldl}
use lib.ListN.{length, get_or}
use lib.Ieee.{Float}
use Rattle.lists.specs.Lists.{up_from, up_to}
use Rattle.lists.proofs.Sequences.{flat_below, fold_flat}
use Rattle.geometry.specs.declared.aabb.AABB.{AABB}
use Rattle.geometry.specs.Axes.{segments, grid_size}
use Rattle.input_tests.specs.Front.{by_axis}
use Rattle.box_faces.specs.declared.uv.Uv.{Uv}
use Rattle.box_faces.specs.Faces.{u_axis, v_axis, project}
use Rattle.candidate_pool.specs.OpenEdges.{OpenEdge}
use Rattle.candidate_pool.specs.Offsets.{joined_at, open_edges_at, segments_at}
use Rattle.candidate_pool.specs.Pool.{Pool, by_key, insert}
use Rattle.candidate_pool.specs.Setting.{Setting}
use Rattle.candidate_pool.specs.Standing.{candidate, count_at, pool_at, Holds, edges_at, EdgesHeld}
use Rattle.candidate_pool.proofs.Edges.{edges_same, held_kept}
use Rattle.candidate_grids.specs.Grid.{interior, grid_point, skipped, grid_at, face_grid, grid}
use Rattle.candidate_grids.specs.Steps.{by_axes, GridReady, Gridded, Grown, face_size, FaceReady, FaceEntered}
use Rattle.candidate_grids.proofs.Edged.{skipped_same}
use Rattle.candidate_grids.proofs.Entries.{grown_none, grown_more}

-- F 0 + .. + F (f - 1)
abbrev pub sum_to : (ℕ → ℕ) → ℕ → ℕ
sum_to F zero = 0
sum_to F (suc f) = sum_to F f + F f

six_faces : (F : ℕ → ℕ) (f : ℕ) → f < 6 → F 1 ≡ F 0 → F 3 ≡ F 2 → F 5 ≡ F 4 → sum_to F f + F f ≤ 2 * (F 4 + F 2 + F 0)
six_faces F zero h a b c = omega arith
six_faces F (suc zero) h a b c = omega arith
six_faces F (suc (suc zero)) h a b c = omega arith
six_faces F (suc (suc (suc zero))) h a b c = omega arith
six_faces F (suc (suc (suc (suc zero)))) h a b c = omega arith
six_faces F (suc (suc (suc (suc (suc zero))))) h a b c = omega arith
six_faces F (suc (suc (suc (suc (suc (suc f)))))) h a b c = absurd (omega arith)

module _ (box : AABB) (eps : Float) (resolution : List Float) where
  abbrev pub size_to : ℕ → ℕ
  size_to f = sum_to (face_size box eps resolution) f

  pub size_more : (f : ℕ) → size_to (f + 1) ≡ size_to f + face_size box eps resolution f
  size_more f = ap size_to (add-one f)

  pub size_room : (f : ℕ) → f < 6 → size_to f + face_size box eps resolution f ≤ grid_size box eps (by_axis resolution)
  unfolding grid_size
  size_room f h = six_faces (face_size box eps resolution) f h refl refl refl

pub grid_same : (s : Setting) (l m : List OpenEdge) (p q : Pool) (f : ℕ) → ((z : Uv) → skipped s l p f z ≡ skipped s m q f z) → face_grid s l p f ≡ face_grid s m q f
unfolding face_grid grid_at
grid_same s l m p q f same =
    flat_below (λ i. flat_map (λ j. grid_at s l p f i j) (up_to (segments s.box s.eps s.resolution (v_axis f) + 1)))
    (λ i. flat_map (λ j. grid_at s m q f i j) (up_to (segments s.box s.eps s.resolution (v_axis f) + 1))) (segments s.box s.eps s.resolution (u_axis f) + 1)
    (λ i h. flat_below (λ j. grid_at s l p f i j) (λ j. grid_at s m q f i j) (segments s.box s.eps s.resolution (v_axis f) + 1)
    (λ j k.
    ap (λ (b : Bool). cond (interior s (u_axis f) i && (interior s (v_axis f) j && b)) [] (candidate (grid_point s f i j) 0 (f ∷ []) ∷ [])) (same (project f (grid_point s f i j)))))

pub record Gridding (box : AABB) (eps : Float) (resolution skip : List Float) (n nf k : ℕ) (w v : List ℕ) (face : ℕ) : Type 0 where
  pub most : face ≤ 6
  pub pool : pool_at n v ≡ foldl (insert (by_key eps)) (pool_at n w) (flat_map (face_grid (by_axes box eps resolution skip) (edges_at w (open_edges_at n nf) k) (pool_at n w)) (up_to face))
  pub holds : Holds eps n v
  pub few : count_at v ≤ count_at w + size_to box eps resolution face
  pub grown : Grown n w v
  pub long : length v ≡ length w
  pub rest : (x : ℕ) → joined_at n ≤ x → x < segments_at n nf → get_or v x 0 ≡ get_or w x 0

module _ (box : AABB) (eps : Float) (resolution skip : List Float) (n nf k : ℕ) (w : List ℕ) (R : GridReady box eps resolution skip n nf k w) where
  abbrev E : ℕ
  E = open_edges_at n nf

  abbrev s : Setting
  s = by_axes box eps resolution skip

  pub gridding_start : Gridding box eps resolution skip n nf k w w 0
  unfolding flat_map up_from
  gridding_start = record { most = omega arith; pool = refl; holds = R.holds; few = omega arith; grown = grown_none n w; long = refl; rest = λ x a b. refl }

  module _ (v : List ℕ) (face : ℕ) (G : Gridding box eps resolution skip n nf k w v face) where
    edge_words : (x : ℕ) → E ≤ x → x < E + 3 * k → get_or v x 0 ≡ get_or w x 0
    edge_words x a b = G.rest x (omega arith) (let e = R.edges in omega arith)

    held_now : EdgesHeld (pool_at n v) v E k
    held_now = held_kept w v E k edge_words (pool_at n w) (pool_at n v) G.grown.lists R.held

    pub gridding_ready : face < 6 → FaceReady box eps resolution skip n nf k face v
    gridding_ready h =
        record {
          holds = G.holds;
          held = held_now;
          few = let a = G.few in let b = R.few in let c = size_room box eps resolution face h in omega arith;
          size = let a = R.size in let b = G.long in omega arith;
          small = R.small;
          edges = R.edges;
          box_in = R.box_in;
          skips = R.skips;
        }

    pub gridding_turn : face < 6 → (u : List ℕ) → FaceEntered box eps resolution skip n nf k face v u → Gridding box eps resolution skip n nf k w u (face + 1)
    gridding_turn h u F =
        record {
          most = omega arith;
          pool =
              fold_flat (insert (by_key eps)) (pool_at n w) (pool_at n v) (pool_at n u) (face_grid s (edges_at w E k) (pool_at n w)) face G.pool
              (F.pool ∙ ap (foldl (insert (by_key eps)) (pool_at n v))
              (grid_same s (edges_at v E k) (edges_at w E k) (pool_at n v) (pool_at n w) face
              (skipped_same eps n nf k face w h R.holds R.held s v (pool_at n v) (edges_same w v E k edge_words) G.grown.points)));
          holds = F.holds;
          few = let a = G.few in let b = F.few in let c = size_more box eps resolution face in omega arith;
          grown = grown_more n w v u G.grown F.grown;
          long = F.long ∙ G.long;
          rest = λ x a b. F.rest x a b ∙ G.rest x a b;
        }

    pub gridding_end : 6 ≤ face → Gridded box eps resolution skip n nf k w v
    unfolding grid flat_map up_from
    gridding_end h =
        let m = G.most in
        let e : face ≡ 6 = omega arith in
        record {
          pool = G.pool ∙ ap (λ (x : ℕ). foldl (insert (by_key eps)) (pool_at n w) (flat_map (face_grid s (edges_at w E k) (pool_at n w)) (up_to x))) e;
          holds = G.holds;
          held = held_now;
          long = G.long;
          rest = G.rest;
        }
