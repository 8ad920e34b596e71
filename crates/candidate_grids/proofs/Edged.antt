-- Open edges as a list of face and two candidates, and as they stand in the room. Assumes nothing.
--   edges_some       a point lies on an edge of the list for a face, exactly if on one of the room's with the face's bit
--   held_low         the ends of the edges of a face are candidates
--   edges_ready      what gathering asks
--   skipped_same     a pool in which the edges' ends have the same points says the same of a point
use Prim.Native.Nat.{ℕ, ◌+◌, ◌*◌, ◌^◌, ◌≤◌, ◌<◌}
use native.Mathlib.Omega.{arith}
use native.Mathlib.Decide.{ℕ_discrete}
use mathlib.Core.Path.{◌≡◌, refl, sym, ap, ◌∙◌}
use mathlib.Core.Bool.{Bool, true, false, cond, ◌&&◌, ◌||◌, and-false}
use mathlib.Core.List.{List, [], ◌∷◌, map}
use borrow.Author.Tests.{eq-eqb, ne_eqb}
use lib.Dec.{eqb}
use lib.ListN.{length, get_or}
use lib.Ieee.{Float}
use Rattle.lists.specs.Lists.{some, keep, has, up_to}
use Rattle.lists.proofs.Sequences.{some_flat, some_below}
use Rattle.root.specs.Bounds.{Within}
use Rattle.geometry.specs.declared.point.Point.{Point}
use Rattle.geometry.specs.Boxes.{faces}
use Rattle.box_faces.specs.declared.uv.Uv.{Uv}
use Rattle.box_faces.specs.Faces.{project, has_bit}
use Rattle.box_faces.specs.Segments.{on_segment}
use Rattle.candidate_pool.specs.OpenEdges.{OpenEdge, open_edge}
use Rattle.candidate_pool.specs.Offsets.{open_edges_at, room_end}
use Rattle.candidate_pool.specs.Pool.{Pool, point_of, face_list}
use Rattle.candidate_pool.specs.Setting.{Setting}
use Rattle.candidate_pool.specs.Standing.{count_at, pool_at, Tidy, Holds, edge_at, edges_at, EdgesHeld}
use Rattle.candidate_pool.proofs.Listing.{is_face}
use Rattle.candidate_pool.proofs.Tidying.{has_low}
use Rattle.candidate_pool.proofs.Reading.{pool_count}
use Rattle.candidate_grids.specs.Grid.{skipped}
use Rattle.candidate_grids.specs.Steps.{edge_hit, EdgesReady}

-- ---- one edge, for each of its faces an entry

pass_through : (b g d : Bool) → d ≡ (b && g) → (g || d) ≡ g
pass_through b true d e = refl
pass_through true false d e = e
pass_through false false d e = e

module _ (f x y : ℕ) (G : ℕ → ℕ → Bool) (h : ℕ → Bool) where
  abbrev test : OpenEdge → Bool
  test e = eqb e.face f && G e.from e.to

  abbrev entries : List ℕ → List OpenEdge
  entries l = map (λ k. open_edge k x y) l

  step : (k : ℕ) (l : List ℕ) → some test (entries (keep h l)) ≡ (has l f && (h f && G x y)) → Dec (k ≡ f) → (b : Bool) → h k ≡ b
      → some test (entries (cond b (k ∷ keep h l) (keep h l))) ≡ ((eqb f k || has l f) && (h f && G x y))
  step k l r (yes e) true t =
      let hf : h f ≡ true = ap h (sym e) ∙ t in
      ap (λ (c : Bool). (c && G x y) || some test (entries (keep h l))) (eq-eqb k f e)
      ∙ pass_through (has l f) (G x y) (some test (entries (keep h l))) (r ∙ ap (λ (c : Bool). has l f && (c && G x y)) hf)
      ∙ sym (ap (λ (c : Bool). (c || has l f) && (h f && G x y)) (eq-eqb f k (sym e)) ∙ ap (λ (c : Bool). c && G x y) hf)
  step k l r (yes e) false t =
      let hf : h f ≡ false = ap h (sym e) ∙ t in
      r ∙ ap (λ (c : Bool). has l f && (c && G x y)) hf ∙ and-false (has l f)
      ∙ sym (ap (λ (c : Bool). (c || has l f) && (h f && G x y)) (eq-eqb f k (sym e)) ∙ ap (λ (c : Bool). c && G x y) hf)
  step k l r (no d) true t =
      ap (λ (c : Bool). (c && G x y) || some test (entries (keep h l))) (ne_eqb k f d) ∙ r ∙ sym (ap (λ (c : Bool). (c || has l f) && (h f && G x y)) (ne_eqb f k (λ e. d (sym e))))
  step k l r (no d) false t = r ∙ sym (ap (λ (c : Bool). (c || has l f) && (h f && G x y)) (ne_eqb f k (λ e. d (sym e))))

  one_face : (l : List ℕ) → some test (entries (keep h l)) ≡ (has l f && (h f && G x y))
  one_face [] = refl
  one_face (k ∷ l) = step k l (one_face l) (ℕ_discrete k f) (h k) refl

pub edges_some : (pool : Pool) (w : List ℕ) (at k f : ℕ) (tolerance : Float) (p : Uv) → f < 6
    → some (λ e. eqb e.face f && on_segment tolerance p (project f (point_of pool e.from)) (project f (point_of pool e.to))) (edges_at w at k) ≡ some
    (edge_hit pool w at f tolerance p) (up_to k)
unfolding edges_at edge_hit
edges_some pool w at k f tolerance p h =
    some_flat t (λ i. edge_at w (at + 3 * i)) (up_to k) ∙ some_below (λ i. some t (edge_at w (at + 3 * i))) (edge_hit pool w at f tolerance p) k (λ i l. one i)
  where
    t : OpenEdge → Bool
    t e = eqb e.face f && on_segment tolerance p (project f (point_of pool e.from)) (project f (point_of pool e.to))

    one : (i : ℕ) → some t (edge_at w (at + 3 * i)) ≡ edge_hit pool w at f tolerance p i
    one i =
        one_face f (get_or w (at + 3 * i) 0) (get_or w (at + 3 * i + 1) 0) (λ b c. on_segment tolerance p (project f (point_of pool b)) (project f (point_of pool c)))
        (has_bit (get_or w (at + 3 * i + 2) 0)) faces
        ∙ ap (λ (b : Bool). b && (has_bit (get_or w (at + 3 * i + 2) 0) f && on_segment tolerance p (project f (point_of pool (get_or w (at + 3 * i) 0)))
        (project f (point_of pool (get_or w (at + 3 * i + 1) 0))))) (is_face f h)

-- ---- the ends of edges are candidates

pub held_low : (n : ℕ) (w : List ℕ) (f c : ℕ) → f < 6 → Tidy (pool_at n w) → has (face_list (pool_at n w) f) c ≡ true → c < count_at w
held_low n w f c h t e =
    let l = has_low (pool_at n w) t f c h e in
    let k = pool_count n w in
    omega arith

module _ (eps : Float) (n nf k f : ℕ) (w : List ℕ) (h : f < 6) (H : Holds eps n w) (D : EdgesHeld (pool_at n w) w (open_edges_at n nf) k) where
  abbrev E : ℕ
  E = open_edges_at n nf

  pub edges_ready : (tolerance : Float) → room_end n nf ≤ length w → nf < 268435456 → k ≤ 3 * nf → Within (2 ^ 48) tolerance → EdgesReady n nf k f tolerance w
  edges_ready tolerance size small edges tol =
      record {
        size = size;
        small_n = H.table.small;
        small = small;
        edges = edges;
        few = H.table.few;
        stored = H.stored;
        from = λ i l b. held_low n w f (get_or w (E + 3 * i) 0) h H.tidy (D.from i f l h b);
        to = λ i l b. held_low n w f (get_or w (E + 3 * i + 1) 0) h H.tidy (D.to i f l h b);
        tolerance_in = tol;
      }

  -- ---- a pool in which the candidates have the same points
  pub skipped_same : (s : Setting) (v : List ℕ) (pool : Pool) → edges_at v E k ≡ edges_at w E k → ((c : ℕ) → c < count_at w → point_of pool c ≡ point_of (pool_at n w) c) → (p : Uv)
      → skipped s (edges_at v E k) pool f p ≡ skipped s (edges_at w E k) (pool_at n w) f p
  unfolding skipped edge_hit
  skipped_same s v pool e same p =
      ap (λ (l : List OpenEdge). skipped s l pool f p) e
      ∙ edges_some pool w E k f (s.skip f) p h
      ∙ some_below (edge_hit pool w E f (s.skip f) p) (edge_hit (pool_at n w) w E f (s.skip f) p) k
      (λ i l. at i (has_bit (get_or w (E + 3 * i + 2) 0) f) (λ b. held_low n w f (get_or w (E + 3 * i) 0) h H.tidy (D.from i f l h b))
      (λ b. held_low n w f (get_or w (E + 3 * i + 1) 0) h H.tidy (D.to i f l h b)))
      ∙ sym (edges_some (pool_at n w) w E k f (s.skip f) p h)
    where
      at : (i : ℕ) (b : Bool) → (b ≡ true → get_or w (E + 3 * i) 0 < count_at w) → (b ≡ true → get_or w (E + 3 * i + 1) 0 < count_at w)
          → (b && on_segment (s.skip f) p (project f (point_of pool (get_or w (E + 3 * i) 0))) (project f (point_of pool (get_or w (E + 3 * i + 1) 0))))
          ≡ (b && on_segment (s.skip f) p (project f (point_of (pool_at n w) (get_or w (E + 3 * i) 0))) (project f (point_of (pool_at n w) (get_or w (E + 3 * i + 1) 0))))
      at i false x y = refl
      at i true x y =
          ap (λ (z : Point). on_segment (s.skip f) p (project f z) (project f (point_of pool (get_or w (E + 3 * i + 1) 0)))) (same (get_or w (E + 3 * i) 0) (x refl))
          ∙ ap (λ (z : Point). on_segment (s.skip f) p (project f (point_of (pool_at n w) (get_or w (E + 3 * i) 0))) (project f z)) (same (get_or w (E + 3 * i + 1) 0) (y refl))
