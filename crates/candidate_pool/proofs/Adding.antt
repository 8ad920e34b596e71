-- Faces are added one after the other, and so a candidate is inserted with its faces. Assumes nothing.
--   Adding             the loop: the faces of the mask below k were added
--   adding_start, adding_low, adding_turn, adding_skip, adding_end   its laws
--   same_number        mesh vertex and faces do not bear on the number;   number_in   the number that an insertion gives is that of a candidate
--   inserted_faces, inserted_face   an insertion with no face, and faces added, is an insertion with them
--   vertex_inserted    and a mesh vertex, whose word is written
use Prim.Native.Nat.{ℕ, ◌+◌, ◌≤◌, ◌<◌}
use native.Mathlib.Omega.{arith}
use mathlib.Core.Path.{◌≡◌, refl, sym, ap, subst, ◌∙◌}
use mathlib.Core.Bool.{Bool, true, false, cond}
use mathlib.Core.List.{List, [], ◌∷◌, ◌++◌, map, append-nil}
use lib.ListN.{get_or, set, length, length-set}
use lib.Seq.{get_or-set_same, get_or-set_other, set-get_or}
use lib.Ieee.{Float}
use Rattle.lists.specs.Lists.{keep, has, up_from, up_to}
use Rattle.lists.specs.Regions.{view}
use Rattle.lists.proofs.Sequences.{keep_up}
use Rattle.geometry.specs.declared.point.Point.{Point}
use Rattle.geometry.specs.Points.{origin}
use Rattle.geometry.specs.Boxes.{faces}
use Rattle.box_faces.specs.Faces.{has_bit}
use Rattle.mesh_weld.specs.Joining.{Joining}
use Rattle.candidate_pool.specs.Offsets.{entry_at, list_at, joined_at}
use Rattle.candidate_pool.specs.Pool.{Candidate, Pool, no_candidate, by_key, renewed, listed, number_for, insert}
use Rattle.candidate_pool.specs.Standing.{faces_in, candidate, count_at, point_at, candidate_at, pool_at, Holds, Inserted, VertexInserted, FaceAdded}
use Rattle.candidate_pool.specs.Steps.{with_faces, FacesAdded}
use Rattle.candidate_pool.proofs.Listing.{kept_again}
use Rattle.candidate_pool.proofs.Rule.{key_lawful}
use Rattle.candidate_pool.proofs.Growing.{number_low}
use Rattle.candidate_pool.proofs.Inserting.{faces_more, insert_faces, one_face}
use Rattle.candidate_pool.proofs.Reading.{pool_count, pool_at_lem, link_low}
use Rattle.candidate_pool.proofs.Placing.{kept_none}
use Rattle.candidate_pool.proofs.Frames.{pool_same, holds_same}

pub record Adding (eps : Float) (n id mask k : ℕ) (w v : List ℕ) : Type 0 where
  pub pool : pool_at n v ≡ with_faces (pool_at n w) id (keep (has_bit mask) (up_to k))
  pub holds : Holds eps n v
  pub long : length v ≡ length w
  pub rest : (x : ℕ) → joined_at n ≤ x → get_or v x 0 ≡ get_or w x 0

-- adding no face changes nothing, since a candidate's faces are in face order
with_none : (n : ℕ) (w : List ℕ) (id : ℕ) → id < count_at w → pool_at n w ≡ with_faces (pool_at n w) id []
unfolding renewed listed pool_at
with_none n w id low = λ i. record { all = all i; lists = map (λ f. view w (list_at n f) (get_or w f 0)) faces }
  where
    again : renewed (candidate_at w id) (candidate origin 0 []) ≡ candidate_at w id
    again = λ i. record { point = point_at w (entry_at id); mesh = get_or w (entry_at id + 3) 0; on = kept_none (has_bit (get_or w (entry_at id + 4) 0)) i }

    same : renewed (get_or (pool_at n w).all id no_candidate) (candidate origin 0 []) ≡ get_or (pool_at n w).all id no_candidate
    same = ap (λ (x : Candidate). renewed x (candidate origin 0 [])) (pool_at_lem n w id low) ∙ again ∙ sym (pool_at_lem n w id low)

    all : (pool_at n w).all ≡ set (pool_at n w).all id (renewed (get_or (pool_at n w).all id no_candidate) (candidate origin 0 []))
    all = sym (ap (λ (x : Candidate). set (pool_at n w).all id x) same ∙ set-get_or (pool_at n w).all id no_candidate)

module _ (eps : Float) (n id mask : ℕ) (w : List ℕ) (low : id < count_at w) where
  pub adding_start : Holds eps n w → Adding eps n id mask 0 w w
  unfolding up_from
  adding_start h = record { pool = with_none n w id low; holds = h; long = refl; rest = λ x r. refl }

  module _ (k : ℕ) (v : List ℕ) (a : Adding eps n id mask k w v) where
    pub adding_low : id < count_at v
    adding_low =
        omega (
          arith,
          pool_count n v,
          ap (λ (p : Pool). length p.all) a.pool,
          length-set (pool_at n w).all id
              (renewed (get_or (pool_at n w).all id no_candidate) (candidate origin 0 (keep (has_bit mask) (up_to k)))),
          pool_count n w,
        )

    pub adding_turn : (u : List ℕ) → has_bit mask k ≡ true → FaceAdded eps n id k v u → Adding eps n id mask (k + 1) w u
    adding_turn u t f =
        record {
          pool =
              f.pool
              ∙ ap (λ (p : Pool). with_faces p id (k ∷ [])) a.pool
              ∙ faces_more (pool_at n w) id (keep (has_bit mask) (up_to k)) (k ∷ []) (omega (arith, pool_count n w))
              ∙ ap (λ (l : List ℕ). with_faces (pool_at n w) id l)
              (sym (keep_up (has_bit mask) k ∙ ap (λ (b : Bool). keep (has_bit mask) (up_to k) ++ cond b (k ∷ []) []) t));
          holds = f.holds;
          long = f.long ∙ a.long;
          rest = λ x r. f.rest x r ∙ a.rest x r;
        }

    pub adding_skip : has_bit mask k ≡ false → Adding eps n id mask (k + 1) w v
    adding_skip t =
        record {
          pool =
              a.pool
              ∙ ap (λ (l : List ℕ). with_faces (pool_at n w) id l)
              (sym (keep_up (has_bit mask) k ∙ ap (λ (b : Bool). keep (has_bit mask) (up_to k) ++ cond b (k ∷ []) []) t ∙ append-nil (keep (has_bit mask) (up_to k))));
          holds = a.holds;
          long = a.long;
          rest = a.rest;
        }

  pub adding_end : (k : ℕ) (v : List ℕ) → k ≡ 6 → Adding eps n id mask k w v → FacesAdded eps n id mask w v
  unfolding up_from
  adding_end k v e a =
      record {
        pool = a.pool ∙ ap (λ (x : ℕ). with_faces (pool_at n w) id (keep (has_bit mask) (up_to x))) e;
        holds = a.holds;
        long = a.long;
        rest = a.rest;
      }

-- ---- an insertion with its faces

pub number_in : (eps : Float) (n : ℕ) (w u : List ℕ) (e : Candidate) (id : ℕ) → Inserted eps n e w u → id ≡ number_for (by_key eps) (pool_at n w) e → id < count_at u
number_in eps n w u e id i q =
    omega (arith, pool_count n u, ap (λ (p : Pool). length p.all) i.pool, number_low (by_key eps) (pool_at n w) e (key_lawful eps))

pub same_number : (J : Joining Point) (p : Pool) (q : Point) (m m' : ℕ) (on : List ℕ) → number_for J p (candidate q m []) ≡ number_for J p (candidate q m' on)
unfolding number_for
same_number J p q m m' on = refl

module _ (eps : Float) (n : ℕ) (w u v : List ℕ) (p : Point) (m id : ℕ) (h : Holds eps n w)
    (i : Inserted eps n (candidate p m []) w u) (q : id ≡ number_for (by_key eps) (pool_at n w) (candidate p m [])) where
  inserted_with : (on : List ℕ) → keep (λ f. has on f) faces ≡ on → pool_at n v ≡ with_faces (pool_at n u) id on
      → pool_at n v ≡ insert (by_key eps) (pool_at n w) (candidate p m on)
  inserted_with on canonical e =
      e
      ∙ (λ j. with_faces (i.pool j) (q j) on)
      ∙ insert_faces (by_key eps) (pool_at n w) p m on canonical (λ c r. omega (arith, pool_count n w, link_low eps n w h (candidate p m []) c r))

  pub inserted_faces : (mask : ℕ) → FacesAdded eps n id mask u v → Inserted eps n (candidate p m (faces_in mask)) w v
  inserted_faces mask f =
      record {
        pool = inserted_with (faces_in mask) (kept_again (has_bit mask)) f.pool;
        holds = f.holds;
        long = f.long ∙ i.long;
        rest = λ x r. f.rest x r ∙ i.rest x r;
      }

  pub inserted_face : (f : ℕ) → f < 6 → FaceAdded eps n id f u v → Inserted eps n (candidate p m (f ∷ [])) w v
  inserted_face f k a =
      record {
        pool = inserted_with (f ∷ []) (one_face f k) a.pool;
        holds = a.holds;
        long = a.long ∙ i.long;
        rest = λ x r. a.rest x r ∙ i.rest x r;
      }

-- and a mesh vertex has its word then
module _ (eps : Float) (n v id : ℕ) (e : Candidate) (w u : List ℕ) (i : Inserted eps n e w u) (low : v < n) (number : id ≡ number_for (by_key eps) (pool_at n w) e) where
  abbrev worded : List ℕ
  worded = set u (joined_at n + v) (id + 1)

  long : length worded ≡ length u
  long = length-set u (joined_at n + v) (id + 1)

  below : (x : ℕ) → x < joined_at n → get_or worded x 0 ≡ get_or u x 0
  below x h = get_or-set_other u (joined_at n + v) x (id + 1) 0 (λ d. omega arith)

  pub vertex_inserted : (u' : List ℕ) (at : ℕ) → at ≡ joined_at n → u' ≡ set u (at + v) (id + 1) → VertexInserted eps n v e w u'
  vertex_inserted u' at to stored =
      subst (VertexInserted eps n v e w) (sym (stored ∙ ap (λ (x : ℕ). set u (x + v) (id + 1)) to))
      (record {
        pool = pool_same eps n u worded i.holds long below ∙ i.pool;
        holds = holds_same eps n u worded i.holds long below;
        joined = get_or-set_same u (joined_at n + v) (id + 1) 0 (omega (arith, i.holds.size)) ∙ omega arith;
        long = long ∙ i.long;
        rest = λ x h d. get_or-set_other u (joined_at n + v) x (id + 1) 0 d ∙ i.rest x h;
      })
