-- The passes over open edges and over vertices, each by its start, one turn and its end. Assumes nothing.
--   stray, stray_test                         an edge on no face, told by its word of faces
--   EdgesGoing, edges_start, -turn, -end      the ends of open edges inserted one edge after the other
--   CornersGoing, corners_start, -turn, -end  the vertices on two or more faces
--   corner_in, corner_out                     one vertex, with two faces or fewer
use Prim.Native.Nat.{ℕ, ◌+◌, ◌*◌, ◌/◌, ◌≤◌, ◌<◌}
use mathlib.Core.Path.{◌≡◌, refl, sym, ap, ◌∙◌, subst}
use mathlib.Core.Bool.{Bool, true, false, cond}
use mathlib.Core.List.{List, [], ◌∷◌, ◌++◌, map, map-append, foldl, foldl-append}
use native.Mathlib.Omega.{arith}
use borrow.Author.Tests.{le-leb, lt-leb}
use lib.Dec.{eqb, leb}
use lib.ListN.{length, get_or, take}
use lib.Ieee.{Float}
use Rattle.lists.specs.Lists.{keep, up_from, up_to}
use Rattle.lists.proofs.Counts.{keep_append}
use Rattle.lists.proofs.Sequences.{fold_more, fold_all, up_snoc}
use Rattle.geometry.specs.declared.point.Point.{Point}
use Rattle.geometry.specs.declared.aabb.AABB.{AABB}
use Rattle.geometry.specs.Triangles.{threes}
use Rattle.geometry.specs.Meshes.{vertex, points_of, mesh_of}
use Rattle.geometry.proofs.Meshes.{length_points_of}
use Rattle.box_faces.specs.Faces.{face_bits, bit_count, faces_of}
use Rattle.edges.specs.Edges.{open_edges}
use Rattle.candidate_pool.specs.OpenEdges.{OpenEdge}
use Rattle.candidate_pool.specs.Offsets.{pool_end, open_edges_at, edge_table_at}
use Rattle.candidate_pool.specs.Pool.{Candidate, Pool, no_pool, by_key, insert}
use Rattle.candidate_pool.specs.Standing.{faces_in, joined_in, pool_at, Holds, edges_at, EdgesHeld}
use Rattle.candidate_pool.proofs.Reading.{pool_count}
use Rattle.candidate_pool.proofs.Edges.{edges_none, held_none}
use Rattle.candidate_edges.specs.Surface.{Surface, edge_faces, mesh_candidate, enter_edge, edge_surface, corner_vertices}
use Rattle.candidate_edges.specs.Steps.{TableAt, MeshFits, VerticesIn, Sourced, SourcesReady, VertexEntered, surface_at, EdgesEntering, EdgeEntered, EdgesEntered, CornerEntered, CornersEntered}
use Rattle.candidate_edges.proofs.Faces.{stray_word, mask_faces, mask_count}
use Rattle.candidate_edges.proofs.Sources.{sourced_none, sourced_few}
use Rattle.candidate_edges.proofs.Ends.{ready_next}

-- ---- edges on no face

abbrev pub stray : List Float → List ℕ → AABB → Float → ℕ × ℕ → Bool
stray vs fs box eps e = eqb (length (edge_faces box eps (mesh_of vs fs) e)) 0

pub stray_test : (vs : List Float) (fs : List ℕ) (box : AABB) (eps : Float) (mask : ℕ) (e s : ℕ × ℕ) → s ≡ e → mask ≡ face_bits (edge_faces box eps (mesh_of vs fs) s)
    → stray vs fs box eps e ≡ eqb mask 0
stray_test vs fs box eps mask e s side is =
    sym (stray_word (edge_faces box eps (mesh_of vs fs) e))
    ∙ ap (λ (m : ℕ). eqb m 0) (ap (λ (d : ℕ × ℕ). face_bits (edge_faces box eps (mesh_of vs fs) d)) (sym side) ∙ sym is)

-- ---- open edges

pub record EdgesGoing (vs : List Float) (fs : List ℕ) (box : AABB) (eps : Float) (n i listed : ℕ) (w₀ w : List ℕ) : Type 0 where
  pub low : i ≤ length (open_edges (threes fs))
  pub surface : surface_at n w (open_edges_at n (length fs / 3)) i
      ≡ foldl (enter_edge box eps (by_key eps) (mesh_of vs fs)) (record { pool = no_pool; edges = [] }) (take i (open_edges (threes fs)))
  pub entries : listed ≡ length (edges_at w (open_edges_at n (length fs / 3)) i)
  pub few : listed ≤ 6 * i
  pub entering : EdgesEntering vs fs eps n i w
  pub long : length w ≡ length w₀

module _ (vs : List Float) (fs : List ℕ) (box : AABB) (eps : Float) (n : ℕ) where
  abbrev at : ℕ
  at = open_edges_at n (length fs / 3)

  abbrev none : Surface
  none = record { pool = no_pool; edges = [] }

  pub edges_start : (k : ℕ) (w : List ℕ) → MeshFits vs fs n w → TableAt fs w (edge_table_at n (length fs / 3)) k → VerticesIn vs → Holds eps n w × (pool_at n w ≡ no_pool) ×
      ((v : ℕ) → v < n → joined_in n w v ≡ 0)
      → EdgesGoing vs fs box eps n 0 0 w w
  edges_start k w fits table within pool =
      record {
        low = omega arith;
        surface = (let e = edges_none w at in λ t. record { pool = pool.1 t; edges = e t });
        entries = sym (ap (length {A = OpenEdge}) (edges_none w at));
        few = omega arith;
        entering =
            record {
              fits = fits;
              table = subst (TableAt fs w (edge_table_at n (length fs / 3))) table.count table;
              ready =
                  record {
                    holds = pool.0;
                    vertices = fits.vertices;
                    within = within;
                    sourced = subst (λ (p : Pool). Sourced (points_of vs) eps p (joined_in n w)) (sym pool.1)
                        (sourced_none (points_of vs) eps (joined_in n w) (λ v l. pool.2 v (omega (arith, length_points_of vs, fits.vertices))));
                  };
              held = held_none (pool_at n w) w at;
            };
        long = refl;
      }

  pub edges_turn : (i listed r : ℕ) (w₀ w w' : List ℕ) → i < length (open_edges (threes fs)) → EdgesGoing vs fs box eps n i listed w₀ w → EdgeEntered vs fs box eps n i r w w'
      → EdgesGoing vs fs box eps n (i + 1) (listed + r) w₀ w'
  edges_turn i listed r w₀ w w' h g e =
      record {
        low = omega arith;
        surface =
            e.surface
            ∙ ap (λ (t : Surface). enter_edge box eps (by_key eps) (mesh_of vs fs) t (get_or (open_edges (threes fs)) i (0, 0))) g.surface
            ∙ sym (fold_more (enter_edge box eps (by_key eps) (mesh_of vs fs)) none (open_edges (threes fs)) i (0, 0) h);
        entries = ap (λ (k : ℕ). k + r) g.entries ∙ sym e.listed;
        few = (let f = g.few in let m = e.few in omega arith);
        entering = e.entering;
        long = e.long ∙ g.long;
      }

  pub edges_end : (i k listed : ℕ) (w₀ w : List ℕ) → k ≡ length (open_edges (threes fs)) → k ≤ i → EdgesGoing vs fs box eps n i listed w₀ w
      → EdgesEntered vs fs box eps n k listed w₀ w
  unfolding edge_surface
  edges_end i k listed w₀ w count h g =
      let same : i ≡ k = (let l = g.low in omega arith) in
      let all : surface_at n w at i ≡ edge_surface box eps (by_key eps) (mesh_of vs fs) = g.surface ∙ fold_all (enter_edge box eps (by_key eps) (mesh_of vs fs)) none
      (open_edges (threes fs)) i (omega arith) in
      record {
        pool = ap (λ (s : Surface). s.pool) all;
        edges = ap (edges_at w at) (sym same) ∙ ap (λ (s : Surface). s.edges) all;
        listed = g.entries ∙ ap (λ (s : Surface). length s.edges) all;
        holds = g.entering.ready.holds;
        held = subst (EdgesHeld (pool_at n w) w at) same g.entering.held;
        sourced = g.entering.ready.sourced;
        long = g.long;
      }

-- ---- vertices on two or more faces

module _ (vs : List Float) (box : AABB) (eps : Float) where
  abbrev corner : ℕ → Candidate
  corner v = mesh_candidate (mesh_of vs []) v (edge_faces box eps (mesh_of vs []) (v, v))

  abbrev twice : Candidate → Bool
  twice c = leb 2 (length c.on)

pub record CornersGoing (vs : List Float) (box : AABB) (eps : Float) (n v : ℕ) (w₀ w : List ℕ) : Type 0 where
  pub low : v ≤ length vs / 3
  pub pool : pool_at n w ≡ foldl (insert (by_key eps)) (pool_at n w₀) (keep (twice vs box eps) (map (corner vs box eps) (up_to v)))
  pub ready : SourcesReady vs eps n w
  pub long : length w ≡ length w₀
  pub rest : (x : ℕ) → pool_end n ≤ x → get_or w x 0 ≡ get_or w₀ x 0

module _ (vs : List Float) (box : AABB) (eps : Float) (n : ℕ) where
  kept : (v : ℕ) (b : Bool) → twice vs box eps (corner vs box eps v) ≡ b → keep (twice vs box eps) (corner vs box eps v ∷ []) ≡ cond b (corner vs box eps v ∷ []) []
  kept v b e = ap (λ (t : Bool). cond t (corner vs box eps v ∷ []) []) e

  module _ (v mask : ℕ) (p : Point) (w : List ℕ) (ready : SourcesReady vs eps n w) (at : p ≡ vertex (points_of vs) v) (is : mask ≡ face_bits (faces_of box eps p p)) where
    own : mask ≡ face_bits (edge_faces box eps (mesh_of vs []) (v, v))
    own = is ∙ ap (λ (q : Point). face_bits (faces_of box eps q q)) at

    faces_are : faces_in mask ≡ edge_faces box eps (mesh_of vs []) (v, v)
    faces_are = ap faces_in own ∙ mask_faces box eps (vertex (points_of vs) v) (vertex (points_of vs) v)

    count_are : bit_count mask ≡ length (edge_faces box eps (mesh_of vs []) (v, v))
    count_are = ap bit_count own ∙ mask_count box eps (vertex (points_of vs) v) (vertex (points_of vs) v)

    pub corner_in : (r : ℕ) (w' : List ℕ) → 2 ≤ bit_count mask → VertexEntered vs eps n v mask r w w' → CornerEntered vs box eps n v w w'
    corner_in r w' two e =
        record {
          pool =
              e.inserted.pool
              ∙ ap (λ (o : List ℕ). insert (by_key eps) (pool_at n w) (mesh_candidate (mesh_of vs []) v o)) faces_are
              ∙ sym (ap (foldl (insert (by_key eps)) (pool_at n w)) (kept v true (le-leb 2 (length (corner vs box eps v).on) (omega (arith, count_are)))));
          ready = ready_next vs eps n v mask r w w' ready e;
          long = e.inserted.long;
          rest = e.rest;
        }

    pub corner_out : bit_count mask < 2 → CornerEntered vs box eps n v w w
    corner_out few =
        record {
          pool = sym (ap (foldl (insert (by_key eps)) (pool_at n w)) (kept v false (lt-leb 2 (length (corner vs box eps v).on) (omega (arith, count_are)))));
          ready = ready;
          long = refl;
          rest = λ x l. refl;
        }

  pub corners_start : (w : List ℕ) → Holds eps n w × (length vs / 3 ≤ n) → VerticesIn vs → Sourced (points_of vs) eps (pool_at n w) (joined_in n w) → CornersGoing vs box eps n 0 w w
  unfolding up_from
  corners_start w holds within sourced =
      record {
        low = omega arith;
        pool = refl;
        ready = record { holds = holds.0; vertices = holds.1; within = within; sourced = sourced };
        long = refl;
        rest = λ x l. refl;
      }

  pub corners_turn : (v : ℕ) (w₀ w w' : List ℕ) → v < length vs / 3 → CornersGoing vs box eps n v w₀ w → CornerEntered vs box eps n v w w' → CornersGoing vs box eps n (v + 1) w₀ w'
  corners_turn v w₀ w w' h g e =
      record {
        low = omega arith;
        pool =
            e.pool
            ∙ ap (λ (p : Pool). foldl (insert (by_key eps)) p (keep (twice vs box eps) (corner vs box eps v ∷ []))) g.pool
            ∙ sym (foldl-append (insert (by_key eps)) (pool_at n w₀) (keep (twice vs box eps) (map (corner vs box eps) (up_to v)))
            (keep (twice vs box eps) (corner vs box eps v ∷ [])))
            ∙ ap (foldl (insert (by_key eps)) (pool_at n w₀)) (sym more);
        ready = e.ready;
        long = e.long ∙ g.long;
        rest = λ x l. e.rest x l ∙ g.rest x l;
      }
    where
      more : keep (twice vs box eps) (map (corner vs box eps) (up_to (v + 1))) ≡ keep (twice vs box eps) (map (corner vs box eps) (up_to v)) ++ keep (twice vs box eps)
          (corner vs box eps v ∷ [])
      more =
          ap (λ (l : List ℕ). keep (twice vs box eps) (map (corner vs box eps) l)) (up_snoc v)
          ∙ ap (keep (twice vs box eps)) (map-append (corner vs box eps) (up_to v) (v ∷ []))
          ∙ keep_append (twice vs box eps) (map (corner vs box eps) (up_to v)) (corner vs box eps v ∷ [])

  pub corners_end : (v : ℕ) (w₀ w : List ℕ) → length vs / 3 ≤ v → CornersGoing vs box eps n v w₀ w → CornersEntered vs box eps n w₀ w
  unfolding corner_vertices
  corners_end v w₀ w h g =
      let same : v ≡ length (points_of vs) = (let l = g.low in omega (arith, length_points_of vs)) in
      record {
        pool = g.pool ∙ ap (λ (k : ℕ). foldl (insert (by_key eps)) (pool_at n w₀) (keep (twice vs box eps) (map (corner vs box eps) (up_to k)))) same;
        holds = g.ready.holds;
        few = omega (arith, sourced_few (points_of vs) eps (pool_at n w) (joined_in n w) g.ready.sourced, pool_count n w, length_points_of vs);
        long = g.long;
        rest = g.rest;
      }
