-- Storing a segment, and what of a projected edge is finite. Assumes nothing.
--   segment_put       five stores put a segment there
--   UvIn, project_in  bounded coordinates: a bounded point projects to such
--   end_in            so does a stored candidate
--   edge_in_lem           the extents of a projected edge are bounded
--   bound_in, segment_in   its bound is finite, and so are all five numbers
--   gathered          the edge is stored as the segment that its face's points are tested against
use Prim.Native.Nat.{ℕ, zero, suc, ◌+◌, ◌^◌, ◌≤◌}
use native.Mathlib.Omega.{arith}
use mathlib.Core.Path.{◌≡◌, sym, ap, subst, ◌∙◌}
use mathlib.Core.List.{List}
use lib.Dec.{T, lit≤}
use lib.ListN.{length, get_or, set, length-set}
use lib.Seq.{get_or-set_same, get_or-set_other}
use lib.Ieee.{Float, binary64, of_bits, to_bits, fits}
use lib.Ieee.Bits.{of_bits-to_bits}
use Rattle.lists.specs.Regions.{Outside}
use Rattle.root.specs.Doubles.{◌⊖◌, one_f, finite}
use Rattle.root.specs.Bounds.{Within}
use Rattle.root.proofs.Powers.{within_pow, mul_pow, sub_pow, larger_within}
use Rattle.geometry.specs.declared.point.Point.{Point}
use Rattle.geometry.specs.Points.{along}
use Rattle.box_faces.specs.declared.uv.Uv.{Uv}
use Rattle.box_faces.specs.Faces.{uv, u_axis, v_axis, project}
use Rattle.box_faces.specs.Segments.{segment_length, uv_difference, segment_bound, on_segment_by, on_segment}
use Rattle.box_faces.proofs.Steps.{segment_length_pow}
use Rattle.candidate_pool.specs.Offsets.{entry_at}
use Rattle.candidate_pool.specs.Standing.{point_at, PointIn, PointStored}
use Rattle.candidate_grids.specs.Steps.{double, SegmentIn, start_at, end_at, hit_at, SegmentPut, SegmentGathered}

abbrev bits : Float → ℕ
bits x = to_bits binary64 x

module _ (w : List ℕ) (at : ℕ) (a b : Uv) (bound : Float) (size : at + 5 ≤ length w) where
  abbrev pub put : List ℕ
  put = set (set (set (set (set w at (bits a.u)) (at + 1) (bits a.v)) (at + 2) (bits b.u)) (at + 3) (bits b.v)) (at + 4) (bits bound)

  abbrev w1 : List ℕ
  w1 = set w at (bits a.u)

  abbrev w2 : List ℕ
  w2 = set w1 (at + 1) (bits a.v)

  abbrev w3 : List ℕ
  w3 = set w2 (at + 2) (bits b.u)

  abbrev w4 : List ℕ
  w4 = set w3 (at + 3) (bits b.v)

  word4 : get_or put (at + 4) 0 ≡ bits bound
  word4 = get_or-set_same w4 (at + 4) (bits bound) 0 (simp length-set (omega arith))

  word3 : get_or put (at + 3) 0 ≡ bits b.v
  word3 = get_or-set_other w4 (at + 4) (at + 3) (bits bound) 0 (λ e. omega arith) ∙ get_or-set_same w3 (at + 3) (bits b.v) 0 (simp length-set (omega arith))

  word2 : get_or put (at + 2) 0 ≡ bits b.u
  word2 =
      get_or-set_other w4 (at + 4) (at + 2) (bits bound) 0 (λ e. omega arith)
      ∙ get_or-set_other w3 (at + 3) (at + 2) (bits b.v) 0 (λ e. omega arith)
      ∙ get_or-set_same w2 (at + 2) (bits b.u) 0 (simp length-set (omega arith))

  word1 : get_or put (at + 1) 0 ≡ bits a.v
  word1 =
      get_or-set_other w4 (at + 4) (at + 1) (bits bound) 0 (λ e. omega arith)
      ∙ get_or-set_other w3 (at + 3) (at + 1) (bits b.v) 0 (λ e. omega arith)
      ∙ get_or-set_other w2 (at + 2) (at + 1) (bits b.u) 0 (λ e. omega arith)
      ∙ get_or-set_same w1 (at + 1) (bits a.v) 0 (simp length-set (omega arith))

  word0 : get_or put at 0 ≡ bits a.u
  word0 =
      get_or-set_other w4 (at + 4) at (bits bound) 0 (λ e. omega arith)
      ∙ get_or-set_other w3 (at + 3) at (bits b.v) 0 (λ e. omega arith)
      ∙ get_or-set_other w2 (at + 2) at (bits b.u) 0 (λ e. omega arith)
      ∙ get_or-set_other w1 (at + 1) at (bits a.v) 0 (λ e. omega arith)
      ∙ get_or-set_same w at (bits a.u) 0 (omega arith)

  other : (x : ℕ) → Outside x at 5 → get_or put x 0 ≡ get_or w x 0
  other x h =
      get_or-set_other w4 (at + 4) x (bits bound) 0 (λ e. h 4 (omega arith) e)
      ∙ get_or-set_other w3 (at + 3) x (bits b.v) 0 (λ e. h 3 (omega arith) e)
      ∙ get_or-set_other w2 (at + 2) x (bits b.u) 0 (λ e. h 2 (omega arith) e)
      ∙ get_or-set_other w1 (at + 1) x (bits a.v) 0 (λ e. h 1 (omega arith) e)
      ∙ get_or-set_other w at x (bits a.u) 0 (λ e. h 0 (omega arith) (omega arith))

  back : {x : Float} {k : ℕ} → T (fits binary64 x) → k ≡ bits x → of_bits binary64 k ≡ x
  back {x} {k} f e = ap (of_bits binary64) e ∙ of_bits-to_bits binary64 x f

  pub segment_put : T (fits binary64 a.u) → T (fits binary64 a.v) → T (fits binary64 b.u) → T (fits binary64 b.v) → T (fits binary64 bound) → SegmentPut at a b bound w
      put
  segment_put fau fav fbu fbv fb =
      record {
        start = ap (λ (x : Float). uv x (double put (at + 1))) (back fau word0) ∙ ap (λ (y : Float). uv a.u y) (back fav word1);
        end = ap (λ (x : Float). uv x (double put (at + 3))) (back fbu word2) ∙ ap (λ (y : Float). uv b.u y) (back fbv word3);
        bounded = back fb word4;
        long = simp length-set;
        rest = other;
      }

-- ---- what of an edge is finite

pub record UvIn (p : Uv) : Type 0 where
  pub u : Within (2 ^ 48) p.u
  pub v : Within (2 ^ 48) p.v

along_in : (p : Point) (k : ℕ) → PointIn p → Within (2 ^ 48) (along p k)
unfolding along
along_in p zero h = h.x
along_in p (suc zero) h = h.y
along_in p (suc (suc k)) h = h.z

pub project_in : (f : ℕ) (p : Point) → PointIn p → UvIn (project f p)
unfolding project
project_in f p h = record { u = along_in p (u_axis f) h; v = along_in p (v_axis f) h }

pub end_in : (f : ℕ) (w : List ℕ) (at : ℕ) (p : Point) (a : Uv) → PointStored w at → p ≡ point_at w at → a ≡ project f p → UvIn a
end_in f w at p a s ep ea = subst UvIn (sym (ea ∙ ap (project f) ep)) (project_in f (point_at w at) s.within)

module _ (a b : Uv) (ha : UvIn a) (hb : UvIn b) where
  du : Within (2 ^ 49) (b.u ⊖ a.u)
  du = sub_pow 48 (lit≤ tt) hb.u ha.u

  dv : Within (2 ^ 49) (b.v ⊖ a.v)
  dv = sub_pow 48 (lit≤ tt) hb.v ha.v

  pub edge_in_lem : Within (2 ^ 1021) (b.u ⊖ a.u) × Within (2 ^ 1021) (b.v ⊖ a.v)
  edge_in_lem = (within_pow 49 1021 (lit≤ tt) du, within_pow 49 1021 (lit≤ tt) dv)

  length_in : Within (2 ^ 50) (segment_length (uv_difference b a))
  length_in =
      segment_length_pow (uv_difference b a) 49 (lit≤ tt) du dv

  one_in : Within (2 ^ 50) one_f
  unfolding of_bits
  one_in = record { is_finite = tt; size = lit≤ tt }

  pub bound_in : (tolerance bound : Float) → bound ≡ segment_bound tolerance a b → Within (2 ^ 48) tolerance → T (finite bound)
  unfolding segment_bound
  bound_in tolerance bound e h = subst (λ (x : Float). T (finite x)) (sym e) (mul_pow 48 50 (lit≤ tt) h (larger_within length_in one_in)).is_finite

pub segment_in : (a b : Uv) (bound : Float) → UvIn a → UvIn b → T (finite bound) → SegmentIn a b bound
segment_in a b bound ha hb h = record { au = ha.u.is_finite; av = ha.v.is_finite; bu = hb.u.is_finite; bv = hb.v.is_finite; bound_in = h }

pub gathered : (at edge face : ℕ) (tolerance : Float) (w v : List ℕ) (p q : Point) (a b : Uv) (bound : Float) → p ≡ point_at w (entry_at (get_or w edge 0)) → q ≡ point_at w
    (entry_at (get_or w (edge + 1) 0))
    → a ≡ project face p → b ≡ project face q → bound ≡ segment_bound tolerance a b → SegmentIn a b bound → SegmentPut at a b bound w v → SegmentGathered at edge face tolerance w v
unfolding hit_at on_segment
gathered at edge face tolerance w v p q a b bound ep eq ea eb e inn put =
    record {
      segment =
          subst (λ (x : Uv). SegmentIn x (end_at v at) (double v (at + 4))) (sym put.start)
          (subst (λ (x : Uv). SegmentIn a x (double v (at + 4))) (sym put.end) (subst (λ (x : Float). SegmentIn a b x) (sym put.bounded) inn));
      hits = λ z. hits z;
      long = put.long;
      rest = put.rest;
    }
  where
    hits : (z : Uv) → on_segment_by (double v (at + 4)) tolerance z (start_at v at) (end_at v at)
        ≡ on_segment_by (segment_bound tolerance (project face (point_at w (entry_at (get_or w edge 0)))) (project face (point_at w (entry_at (get_or w (edge + 1) 0))))) tolerance z
        (project face (point_at w (entry_at (get_or w edge 0)))) (project face (point_at w (entry_at (get_or w (edge + 1) 0))))
    hits z =
        let s = put.start in
        let t = put.end in
        let u = put.bounded in
        cc
