-- One mesh vertex inserted, and the ends of a side. Assumes nothing.
--   from_low, to_low  both ends of a side are vertices of the mesh
--   side_is, side_low the side that a record of the edge table names
--   vertex_in         a vertex is a point of no NaN and no infinity
--   vertex_room       there is room for a vertex
--   vertex_entered    what inserting it leaves
--   ready_next        the room is ready for the next vertex then
use Prim.Native.Nat.{ℕ, ◌+◌, ◌*◌, ◌/◌, ◌%◌, ◌<◌}
use mathlib.Core.Path.{◌≡◌, sym, ap, ◌∙◌, subst}
use mathlib.Core.List.{List}
use native.Mathlib.Omega.{arith}
use lib.ListN.{length, get_or}
use lib.Ieee.{Float}
use Rattle.geometry.specs.declared.point.Point.{Point}
use Rattle.geometry.specs.Triangles.{threes}
use Rattle.geometry.specs.Meshes.{vertex, points_of}
use Rattle.geometry.proofs.Meshes.{length_points_of}
use Rattle.edges.specs.Edges.{sides, open_edges}
use Rattle.edges.specs.Table.{next_side}
use Rattle.edges.proofs.Sides.{next_in, side_at_lem}
use Rattle.candidate_pool.specs.Offsets.{joined_at}
use Rattle.candidate_pool.specs.Pool.{Pool, by_key, number_for}
use Rattle.candidate_pool.specs.Standing.{faces_in, candidate, joined_in, pool_at, PointIn, RoomFor, VertexInserted}
use Rattle.candidate_pool.proofs.Reading.{pool_count}
use Rattle.candidate_edges.specs.Steps.{TableAt, Sourced, SourcesReady, VertexEntered}
use Rattle.candidate_edges.proofs.Sources.{sourced_kept, sourced_room}

module _ (fs : List ℕ) (many s : ℕ) (whole : length fs % 3 ≡ 0) (numbers : (i : ℕ) → i < length fs → get_or fs i 0 < many) (h : s < length fs) where
  pub from_low : (get_or (sides (threes fs)) s (0, 0)).0 < many
  from_low = subst (λ (v : ℕ). v < many) (ap (λ (e : ℕ × ℕ). e.0) (sym (side_at_lem fs s whole h))) (numbers s h)

  pub to_low : (get_or (sides (threes fs)) s (0, 0)).1 < many
  to_low = subst (λ (v : ℕ). v < many) (ap (λ (e : ℕ × ℕ). e.1) (sym (side_at_lem fs s whole h))) (numbers (next_side s) (next_in (length fs) s whole h))

module _ (fs w : List ℕ) (at t k i : ℕ) (table : TableAt fs w at k) (is : t ≡ at) (h : i < k) where
  pub side_is : get_or (sides (threes fs)) (get_or w (t + 2 * i + 1) 0) (0, 0) ≡ get_or (open_edges (threes fs)) i (0, 0)
  side_is = ap (λ (x : ℕ). get_or (sides (threes fs)) (get_or w (x + 2 * i + 1) 0) (0, 0)) is ∙ table.side i h

  pub side_low : get_or w (t + 2 * i + 1) 0 < length fs
  side_low = subst (λ (x : ℕ). get_or w (x + 2 * i + 1) 0 < length fs) (sym is) (table.number i h)

module _ (vs : List Float) (eps : Float) (n : ℕ) (w : List ℕ) (v : ℕ) (p : Point) (ready : SourcesReady vs eps n w) (h : v < length vs / 3) (is : p ≡ vertex (points_of vs) v) where
  pub vertex_in : PointIn p
  vertex_in = subst PointIn (sym is) (ready.within v h)

  low : v < length (points_of vs)
  low = omega (arith, length_points_of vs)

  pub vertex_room : (on : List ℕ) → RoomFor eps n w (candidate p (v + 1) on)
  vertex_room on =
      subst (λ (q : Point). RoomFor eps n w (candidate q (v + 1) on)) (sym is)
      (λ z.
      let r = sourced_room (points_of vs) eps (pool_at n w) (joined_in n w) ready.sourced v on low z in
      let k = ready.vertices in
      omega (arith, pool_count n w, length_points_of vs))

  pub vertex_entered : (mask r : ℕ) (w' : List ℕ) → VertexInserted eps n v (candidate p (v + 1) (faces_in mask)) w w'
      → r ≡ number_for (by_key eps) (pool_at n w) (candidate p (v + 1) (faces_in mask)) → VertexEntered vs eps n v mask r w w'
  vertex_entered mask r w' inserted number =
      let done : VertexInserted eps n v (candidate (vertex (points_of vs) v) (v + 1) (faces_in mask)) w w' = subst
      (λ (q : Point). VertexInserted eps n v (candidate q (v + 1) (faces_in mask)) w w') is inserted in
      record {
        inserted = done;
        number = number ∙ ap (λ (q : Point). number_for (by_key eps) (pool_at n w) (candidate q (v + 1) (faces_in mask))) is;
        sourced = subst (λ (p : Pool). Sourced (points_of vs) eps p (joined_in n w')) (sym done.pool)
            (sourced_kept (points_of vs) eps (pool_at n w) v (faces_in mask) (joined_in n w) (joined_in n w') ready.sourced low done.joined
            (λ u d. done.rest (joined_at n + u) (omega arith) (λ q. d (omega arith))));
        rest = λ x l. done.rest x (omega arith) (λ q. omega (arith, ready.vertices));
      }

pub ready_next : (vs : List Float) (eps : Float) (n v mask r : ℕ) (w w' : List ℕ) → SourcesReady vs eps n w → VertexEntered vs eps n v mask r w w' → SourcesReady vs eps n w'
ready_next vs eps n v mask r w w' ready e = record { holds = e.inserted.holds; vertices = ready.vertices; within = ready.within; sourced = e.sourced }
