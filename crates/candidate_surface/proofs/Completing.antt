-- Laws of the steps that fill the pool: what one leaves is what the next asks for. Assumes nothing.
--   fits_same               a room of the same length serves a mesh as well
--   table_left              the table of open edges is left by the clearing of the pool
--   surfaced                what stands in the room once the ends of open edges are in     entered   the same, of the box that is asked
--   grids_ready, completed  grids, once the corner vertices are in too
use Prim.Native.Nat.{ℕ, ◌*◌, ◌/◌, ◌≤◌, ◌^◌}
use native.Mathlib.Omega.{arith}
use mathlib.Core.Path.{◌≡◌, sym, ap, subst, ◌∙◌}
use mathlib.Core.List.{List, [], ◌∷◌, foldl}
use lib.ListN.{length}
use lib.Ieee.{Float}
use Rattle.lists.specs.Lists.{has}
use Rattle.root.specs.Doubles.{◌⊗◌, 1e-9}
use Rattle.root.specs.Bounds.{Within}
use Rattle.geometry.specs.declared.aabb.AABB.{AABB}
use Rattle.geometry.specs.Meshes.{mesh_of}
use Rattle.aabb_planes.specs.declared.clip.Clip.{Clip}
use Rattle.input_tests.specs.declared.grid.Grid.{Grid}
use Rattle.candidate_pool.specs.Offsets.{open_edges_at, edge_table_at}
use Rattle.candidate_pool.specs.Pool.{Pool, face_list, by_key, insert}
use Rattle.candidate_pool.specs.Standing.{pool_at, Cleared, edges_at, EdgesHeld}
use Rattle.candidate_pool.proofs.Edges.{edges_same, held_kept}
use Rattle.candidate_edges.specs.Surface.{edge_surface, corner_vertices, mesh_pool}
use Rattle.candidate_edges.specs.Steps.{TableAt, MeshFits, EdgesEntered, CornersEntered}
use Rattle.candidate_grids.specs.Grid.{grid}
use Rattle.candidate_grids.specs.Steps.{by_axes, GridReady, Gridded}
use Rattle.candidate_surface.specs.declared.asked.Asked.{Asked}
use Rattle.candidate_surface.specs.Asked.{asked, clip_of, grid_of}
use Rattle.candidate_surface.specs.Steps.{Sound, most_candidates, Tabled, Surfaced, Completed}
use Rattle.candidate_surface.proofs.Fitting.{each_within, of_clip}
use Rattle.candidate_surface.proofs.Frames.{table_kept, all_grown}

pub fits_same : (vs : List Float) (fs : List ℕ) (n : ℕ) (w w' : List ℕ) → length w' ≡ length w → MeshFits vs fs n w → MeshFits vs fs n w'
fits_same vs fs n w w' e M =
    record {
      threes = M.threes;
      numbers = M.numbers;
      vertices = M.vertices;
      small = M.small;
      few = M.few;
      size = let s = M.size in omega (arith, e, s);
    }

module _ (vs : List Float) (fs : List ℕ) (box : AABB) (eps : Float) (n k : ℕ) where
  abbrev edges_from : ℕ
  edges_from = open_edges_at n (length fs / 3)

  pub table_left : (w w' : List ℕ) → Cleared eps n w w' → Tabled fs n k w → TableAt fs w' (edge_table_at n (length fs / 3)) k
  table_left w w' C B = table_kept fs w w' (edge_table_at n (length fs / 3)) k (λ x h. C.rest x (omega arith)) B.table

  pub surfaced : (r : ℕ) (w w' : List ℕ) → EdgesEntered vs fs box eps n k r w w' → Surfaced vs fs box eps n k w'
  surfaced r w w' E = record { pool = E.pool; edges = E.edges; holds = E.holds; held = E.held; sourced = E.sourced }

  module _ (resolution : Float) (S : Sound vs fs (asked box eps resolution)) (w w' : List ℕ) (M : MeshFits vs fs n w) (en : n ≡ most_candidates vs (asked box eps resolution))
      (few : k ≤ length fs)
      (F : Surfaced vs fs box eps n k w) (long : length w' ≡ length w) (C : CornersEntered vs box eps n w w') where
    edges_here : k ≤ 3 * (length fs / 3)
    edges_here = let t = M.threes in omega arith

    corner_edges : edges_at w' edges_from k ≡ (edge_surface box eps (by_key eps) (mesh_of vs fs)).edges
    corner_edges = edges_same w w' edges_from k (λ x h l. C.rest x (omega arith)) ∙ F.edges

    -- corner vertices are those of a mesh's points, whatever its facets
    corner_pool : pool_at n w' ≡ mesh_pool box eps (by_key eps) (mesh_of vs fs)
    unfolding mesh_pool corner_vertices
    corner_pool = C.pool ∙ ap (λ (p : Pool). foldl (insert (by_key eps)) p (corner_vertices box eps (mesh_of vs fs))) F.pool

    corner_held : EdgesHeld (pool_at n w') w' edges_from k
    corner_held =
        held_kept w w' edges_from k (λ x h l. C.rest x (omega arith)) (pool_at n w) (pool_at n w')
        (λ f c l h. ap (λ (p : Pool). has (face_list p f) c) C.pool ∙ all_grown (by_key eps) (corner_vertices box eps (mesh_of vs [])) (pool_at n w) f c l h) F.held

    abbrev each : Float → List Float
    each x = x ∷ x ∷ x ∷ []

    -- the grids can be entered with any tolerance in range ..
    pub grids_ready : (g : Grid) → g ≡ grid_of (asked box eps resolution) → (skip : Float) → Within (2 ^ 48) skip
        → GridReady g.extents g.eps g.resolution (each skip) n (length fs / 3) k w'
    grids_ready g is skip skip-in =
        subst (λ (x : Grid). GridReady x.extents x.eps x.resolution (each skip) n (length fs / 3) k w') (sym is)
        (record {
          holds = C.holds;
          held = corner_held;
          few = let a = C.few in omega (arith, a, en);
          size = let s = M.size in omega (arith, s, long);
          small = M.few;
          edges = edges_here;
          box_in = S.box_in;
          box_good = S.box_good;
          skips = each_within skip skip-in;
        })

    -- .. and are document 01's with its own
    pub completed : (g : Grid) → g ≡ grid_of (asked box eps resolution) → (skip : Float) → skip ≡ resolution ⊗ 1e-9 → (w'' : List ℕ)
        → Gridded g.extents g.eps g.resolution (each skip) n (length fs / 3) k w' w'' → Completed vs fs (asked box eps resolution) n k w''
    completed g is skip e w'' H =
        let G = subst (λ (x : Grid). Gridded x.extents x.eps x.resolution (each skip) n (length fs / 3) k w' w'') is H in
        record {
          pool = G.pool
              ∙ (λ t. foldl (insert (by_key eps)) (corner_pool t) (grid (by_axes box eps (each resolution) (each (e t))) (corner_edges t) (corner_pool t)));
          edges = edges_same w' w'' edges_from k (λ x h l. G.rest x (omega arith) (let e = edges_here in omega arith)) ∙ corner_edges;
          holds = G.holds;
          held = G.held;
        }

module _ (vs : List Float) (fs : List ℕ) where
  abbrev pub Entered : AABB → Float → ℕ → ℕ → ℕ → List ℕ → Type 0
  Entered box eps n k r w = Surfaced vs fs box eps n k w × (r ≡ length (edge_surface box eps (by_key eps) (mesh_of vs fs)).edges)

  pub entered : (q : Asked) (l : Clip) (n k r : ℕ) (w : List ℕ) → l ≡ clip_of q → Entered l.extents l.eps n k r w → Entered q.extents q.eps n k r w
  entered q l n k r w = of_clip q l (λ box eps. Entered box eps n k r w)
