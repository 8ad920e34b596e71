-- Every candidate names a vertex of the mesh, or none: what is inserted does. Assumes nothing.
--   Low            no candidate of the pool names a vertex beyond m
--   low_insert, low_fold   kept by what is inserted
--   full_low       of the candidates of a mesh      words_low     as they stand in the room      words_kept    and stay
use Prim.Native.Nat.{ℕ, zero, suc, ◌+◌, ◌/◌, ◌≤◌, ◌<◌}
use native.Mathlib.Omega.{arith}
use mathlib.Core.Bool.{Bool, true, false, cond, ◌&&◌}
use mathlib.Core.Path.{◌≡◌, ap, ◌∙◌}
use mathlib.Core.List.{List, [], ◌∷◌, ◌++◌, map, flat_map, foldl}
use Rattle.std.specs.Prelude.{Option, None, Some}
use lib.Dec.{eqb, leb}
use lib.ListN.{length, get_or, set, length-map}
use lib.Ieee.{Float}
use Rattle.lists.specs.Lists.{up_to}
use Rattle.lists.specs.Regions.{Above}
use Rattle.lists.proofs.Mapped.{Each, each_places, each_keep}
use Rattle.lists.proofs.Places.{length_up, at_map_up}
use Rattle.lists.proofs.Sequences.{each_flat}
use Rattle.geometry.specs.declared.point.Point.{Point}
use Rattle.geometry.specs.declared.aabb.AABB.{AABB}
use Rattle.geometry.specs.Boxes.{faces}
use Rattle.geometry.specs.Meshes.{Mesh, mesh_of, points_of}
use Rattle.geometry.proofs.Meshes.{length_points_of}
use Rattle.mesh_weld.specs.Joining.{Joining}
use Rattle.box_faces.specs.Faces.{u_axis, v_axis, project}
use Rattle.candidate_pool.specs.OpenEdges.{OpenEdge}
use Rattle.candidate_pool.specs.Offsets.{entry_at, pool_end}
use Rattle.candidate_pool.specs.Pool.{Candidate, Pool, no_candidate, by_key, renewed, entered_as, place_for, insert}
use Rattle.candidate_pool.specs.Setting.{Setting}
use Rattle.candidate_pool.specs.Standing.{count_at, candidate_at, pool_at}
use Rattle.candidate_edges.specs.Surface.{mesh_candidate, edge_faces, corner_vertices, edge_surface, mesh_pool}
use Rattle.candidate_grids.specs.Grid.{grid_point, interior, skipped, grid_at, face_grid, grid, segments_of}
use Rattle.candidate_surface.specs.declared.asked.Asked.{Asked}
use Rattle.candidate_surface.specs.Asked.{setting}
use Rattle.candidate_surface.specs.Steps.{full_pool}
use Rattle.cap_closing.specs.Entering.{MeshWords}

abbrev pub LowAll : ℕ → List Candidate → Type 0
LowAll m l = (c : ℕ) → (get_or l c no_candidate).mesh ≤ m

abbrev pub Low : ℕ → Pool → Type 0
Low m p = LowAll m p.all

abbrev Names : ℕ → Candidate → Type 0
Names m e = e.mesh ≤ m

-- beyond its end a list has no candidate, which names none
low_all : (m : ℕ) (l : List Candidate) → ((c : ℕ) → c < length l → (get_or l c no_candidate).mesh ≤ m) → LowAll m l
low_all m [] h c = omega arith
low_all m (x ∷ l) h zero = h 0 (omega arith)
low_all m (x ∷ l) h (suc c) = low_all m l (λ i k. h (suc i) (omega arith)) c

low_append : (m : ℕ) (l : List Candidate) (e : Candidate) → LowAll m l → Names m e → LowAll m (l ++ (e ∷ []))
low_append m [] e h k zero = k
low_append m [] e h k (suc c) = omega arith
low_append m (x ∷ l) e h k zero = h 0
low_append m (x ∷ l) e h k (suc c) = low_append m l e (λ i. h (suc i)) k c

low_set : (m : ℕ) (l : List Candidate) (i : ℕ) (e : Candidate) → LowAll m l → Names m e → LowAll m (set l i e)
low_set m [] i e h k c = h c
low_set m (x ∷ l) zero e h k zero = k
low_set m (x ∷ l) zero e h k (suc c) = h (suc c)
low_set m (x ∷ l) (suc i) e h k zero = h 0
low_set m (x ∷ l) (suc i) e h k (suc c) = low_set m l i e (λ j. h (suc j)) k c

renewed_low : (m : ℕ) (c e : Candidate) → Names m c → Names m e → Names m (renewed c e)
unfolding renewed
renewed_low m c e h k = go (eqb e.mesh 0)
  where
    go : (b : Bool) → cond b c.mesh e.mesh ≤ m
    go true = h
    go false = k

module _ (J : Joining Point) (m : ℕ) where
  entered_low : (l : List Candidate) (e : Candidate) (place : Option ℕ) → LowAll m l → Names m e → LowAll m (entered_as l e place)
  entered_low l e None h k = low_append m l e h k
  entered_low l e (Some i) h k = low_set m l i (renewed (get_or l i no_candidate) e) h (renewed_low m (get_or l i no_candidate) e (h i) k)

  pub low_insert : (p : Pool) (e : Candidate) → Low m p → Names m e → Low m (insert J p e)
  unfolding insert
  low_insert p e h k = entered_low p.all e (place_for J p e) h k

  pub low_fold : (p : Pool) (l : List Candidate) → Low m p → Each (Names m) l → Low m (foldl (insert J) p l)
  low_fold p [] h k = h
  low_fold p (e ∷ l) h k = low_fold (insert J p e) l (low_insert p e h k.0) k.1

-- ---- what is inserted

corners_low : (box : AABB) (eps : Float) (mesh : Mesh) → Each (Names (length mesh.points)) (corner_vertices box eps mesh)
unfolding corner_vertices
corners_low box eps mesh =
    let at : ℕ → Candidate = λ v. mesh_candidate mesh v (edge_faces box eps mesh (v, v)) in
    let l = length mesh.points in
    each_keep (λ c. leb 2 (length c.on)) (Names l) (map at (up_to l))
    (each_places (Names l) no_candidate (map at (up_to l))
    (λ i h.
    let k : i < l = let a = length-map (up_to l) at in let b = length_up 0 l in omega (arith, a, b) in
    let e = ap (λ (c : Candidate). c.mesh) (at_map_up at no_candidate 0 l i k) in
    omega (arith, e, k)))

-- a grid point names none
grid_low : (s : Setting) (edges : List OpenEdge) (p : Pool) (m : ℕ) → Each (Names m) (grid s edges p)
unfolding grid face_grid grid_at
grid_low s edges p m =
    each_flat (Names m) (face_grid s edges p) faces
    (λ f.
    each_flat (Names m) (λ i. flat_map (λ j. grid_at s edges p f i j) (up_to (segments_of s (v_axis f) + 1))) (up_to (segments_of s (u_axis f) + 1))
    (λ i. each_flat (Names m) (λ j. grid_at s edges p f i j) (up_to (segments_of s (v_axis f) + 1)) (λ j. point_low f i j)))
  where
    one : (b : Bool) (x : Point) (on : List ℕ) → Each (Names m) (cond b [] (record { point = x; mesh = 0; on = on } ∷ []))
    one true x on = tt
    one false x on = (omega arith, tt)

    point_low : (f i j : ℕ) → Each (Names m) (grid_at s edges p f i j)
    point_low f i j =
        one (interior s (u_axis f) i && (interior s (v_axis f) j && skipped s edges p f (project f (grid_point s f i j)))) (grid_point s f i j) (f ∷ [])

pub full_low : (vs : List Float) (fs : List ℕ) (q : Asked)
    → ((c : ℕ) → c < length (edge_surface q.extents q.eps (by_key q.eps) (mesh_of vs fs)).pool.all
    → (get_or (edge_surface q.extents q.eps (by_key q.eps) (mesh_of vs fs)).pool.all c no_candidate).mesh ≤ length (points_of vs))
    → Low (length vs / 3) (full_pool (setting q) (mesh_of vs fs))
unfolding mesh_pool
full_low vs fs q S =
    let mesh = mesh_of vs fs in
    let first = (edge_surface q.extents q.eps (by_key q.eps) mesh).pool in
    let m = length (points_of vs) in
    let a : Low m first = low_all m first.all S in
    let b = low_fold (by_key q.eps) m first (corner_vertices q.extents q.eps mesh) a (corners_low q.extents q.eps mesh) in
    let c = low_fold (by_key q.eps) m (mesh_pool q.extents q.eps (by_key q.eps) mesh)
    (grid (setting q) (edge_surface q.extents q.eps (by_key q.eps) mesh).edges (mesh_pool q.extents q.eps (by_key q.eps) mesh)) b
    (grid_low (setting q) (edge_surface q.extents q.eps (by_key q.eps) mesh).edges (mesh_pool q.extents q.eps (by_key q.eps) mesh) m) in
    λ i. let h = c i in let l = length_points_of vs in omega (arith, h, l)

-- ---- in the room

pub words_low : (n m : ℕ) (w : List ℕ) (p : Pool) → pool_at n w ≡ p → Low m p → MeshWords m w
unfolding pool_at
words_low n m w p e h c k =
    let a = ap (λ (q : Pool). (get_or q.all c no_candidate).mesh) e in
    let z : 0 + c ≡ c = omega arith in
    let b : (get_or (pool_at n w).all c no_candidate).mesh ≡ get_or w (entry_at c + 3) 0 = ap (λ (x : Candidate). x.mesh) (at_map_up (candidate_at w) no_candidate 0 (count_at w) c k) ∙ ap
    (λ (x : ℕ). get_or w (entry_at x + 3) 0) z in
    let d = h c in
    omega (arith, a, b, d)

pub words_kept : (b n m : ℕ) (w w' : List ℕ) → Above b w w' → pool_end n ≤ b → count_at w ≤ n → MeshWords m w → MeshWords m w'
words_kept b n m w w' r h few k c l =
    let e = r.below 6 (omega arith) in
    let q = r.below (entry_at c + 3) (omega (arith, e, l, few)) in
    let d = k c (omega (arith, e, l)) in
    omega (arith, q, d)
