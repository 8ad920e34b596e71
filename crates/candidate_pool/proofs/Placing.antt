-- Inserting a candidate of no face in the work room: it is new, or found with another point, or found as it stands. Assumes nothing.
--   table_kept       stores before the keys and behind the chains leave the table
--   point_same, stored_same   a point whose three words are the same
--   kept_none        no face more is the same faces
--   push_inserted    a new one
--   put_inserted     a mesh vertex, found: "a later mesh vertex replaces number and point"
--   kept_inserted    no mesh vertex, found
--   placed-..        the same, by what the search answers;   number_miss, number_hit   the number that it gets
use Prim.Native.Nat.{ℕ, ◌+◌, ◌*◌, ◌≤◌, ◌<◌}
use native.Mathlib.Omega.{arith}
use native.Mathlib.Decide.{ℕ_discrete}
use mathlib.Core.Path.{◌≡◌, refl, sym, ap, subst, ◌∙◌}
use mathlib.Core.Bool.{Bool, cond, ◌||◌, or-false}
use mathlib.Core.List.{List, [], ◌∷◌, ◌++◌, map}
use lib.ListN.{get_or, set, length, length-append, length-set, get_or-append}
use lib.Seq.{get_or-set_same, get_or-set_other, get_or-append_seam, set-get_or}
use lib.Ieee.{Float, binary64, of_bits, to_bits}
use borrow.Author.Tests.{eq-eqb, ne_eqb}
use Rattle.std.specs.Prelude.{Option, Some, None}
use Rattle.lists.specs.Lists.{keep, has, first, up_to}
use Rattle.lists.specs.Regions.{view, Outside}
use Rattle.geometry.specs.declared.point.Point.{Point}
use Rattle.geometry.specs.Points.{pt}
use Rattle.geometry.specs.Boxes.{faces}
use Rattle.box_faces.specs.Faces.{has_bit}
use Rattle.chains.specs.Hash.{mixed, InBucket}
use Rattle.chains.proofs.Entering.{linked_cong, linked_same}
use Rattle.mesh_weld.specs.Cells.{key_of}
use Rattle.candidate_pool.specs.Offsets.{entry_at, keys_at, chain_at, lists_at, list_at}
use Rattle.mesh_weld.specs.declared.cells.Cell.{Cell}
use Rattle.candidate_pool.specs.Pool.{Candidate, Pool, no_candidate, by_key, renewed, entered_as, listed, place_for, number_for, insert}
use Rattle.mesh_weld.specs.Room.{words_of, cell_at, same_cell}
use Rattle.candidate_pool.specs.Room.{key_bucket, KeyTable}
use Rattle.candidate_pool.specs.Standing.{faces_in, candidate, count_at, point_at, candidate_at, pool_at, PointIn, PointStored, Tidy, Holds, RoomFor, Inserted}
use Rattle.candidate_pool.specs.Steps.{BitsOf, point_put, candidate_put}
use Rattle.candidate_pool.proofs.Listing.{keep_faces, has_kept}
use Rattle.candidate_pool.proofs.Rule.{key_lawful}
use Rattle.candidate_pool.proofs.Searching.{key_is}
use Rattle.candidate_pool.proofs.Growing.{number_new, number_found}
use Rattle.candidate_pool.proofs.Tidying.{tidy_insert}
use Rattle.candidate_pool.proofs.Reading.{pool_count, pool_at_lem, pool_is, candidate_same, lists_same, first_is, link_low, link_key}
use Rattle.candidate_pool.proofs.Putting.{key_same, four_long, four_rest, four_at0, four_at1, four_at2, four_at3, Pushed, pushed, pushed_linked, tail_room}
use Rattle.candidate_pool.proofs.Masking.{no_faces}

-- ---- what stays

pub table_kept : (n : ℕ) (u w : List ℕ) → KeyTable u n (count_at u) → count_at w ≡ count_at u → length w ≡ length u
    → ((x : ℕ) → keys_at n ≤ x → x < lists_at n → get_or w x 0 ≡ get_or u x 0) → KeyTable w n (count_at w)
table_kept n u w t count long same =
    subst (λ (k : ℕ). KeyTable w n k) (sym count)
    (record {
      small = t.small;
      room = omega (arith, t.room);
      few = t.few;
      linked =
          linked_cong (λ i. key_bucket n (cell_at u (keys_at n + 3 * i))) (λ i. key_bucket n (cell_at w (keys_at n + 3 * i))) w (chain_at n) n (count_at u)
          (λ i h. ap (key_bucket n) (sym (key_same u w (keys_at n + 3 * i) (λ j r. same (keys_at n + 3 * i + j) (omega arith) (omega (arith, t.few))))))
          (linked_same (λ i. key_bucket n (cell_at u (keys_at n + 3 * i))) u w (chain_at n) n (count_at u) long
          (λ i h. same (chain_at n + i) (omega arith) (omega (arith, t.few))) t.linked);
    })

point_at_lem : (w : List ℕ) (at : ℕ) (p : Point) → BitsOf p → get_or w at 0 ≡ to_bits binary64 p.x → get_or w (at + 1) 0 ≡ to_bits binary64 p.y
    → get_or w (at + 2) 0 ≡ to_bits binary64 p.z → point_at w at ≡ p
point_at_lem w at p b x y z =
    λ i. pt ((ap (of_bits binary64) x ∙ b.x) i) ((ap (of_bits binary64) y ∙ b.y) i) ((ap (of_bits binary64) z ∙ b.z) i)

stored_at : (w : List ℕ) (at : ℕ) (p : Point) → BitsOf p → PointIn p → get_or w at 0 ≡ to_bits binary64 p.x → get_or w (at + 1) 0 ≡ to_bits binary64 p.y
    → get_or w (at + 2) 0 ≡ to_bits binary64 p.z → PointStored w at
stored_at w at p b within x y z =
    record {
      x = ap (λ (v : ℕ). to_bits binary64 (of_bits binary64 v)) x ∙ ap (to_bits binary64) b.x ∙ sym x;
      y = ap (λ (v : ℕ). to_bits binary64 (of_bits binary64 v)) y ∙ ap (to_bits binary64) b.y ∙ sym y;
      z = ap (λ (v : ℕ). to_bits binary64 (of_bits binary64 v)) z ∙ ap (to_bits binary64) b.z ∙ sym z;
      within = subst PointIn (sym (point_at_lem w at p b x y z)) within;
    }

pub point_same : (u w : List ℕ) (at : ℕ) → ((i : ℕ) → i < 3 → get_or w (at + i) 0 ≡ get_or u (at + i) 0) → point_at w at ≡ point_at u at
point_same u w at same =
    λ i. pt (of_bits binary64 (start i)) (of_bits binary64 (same 1 (omega arith) i)) (of_bits binary64 (same 2 (omega arith) i))
  where
    start : get_or w at 0 ≡ get_or u at 0
    start = ap (λ (x : ℕ). get_or w x 0) (omega arith) ∙ same 0 (omega arith) ∙ ap (λ (x : ℕ). get_or u x 0) (omega arith)

pub stored_same : (u w : List ℕ) (at : ℕ) → ((i : ℕ) → i < 3 → get_or w (at + i) 0 ≡ get_or u (at + i) 0) → PointStored u at → PointStored w at
stored_same u w at same s =
    record {
      x = ap (λ (v : ℕ). to_bits binary64 (of_bits binary64 v)) start ∙ s.x ∙ sym start;
      y = ap (λ (v : ℕ). to_bits binary64 (of_bits binary64 v)) (same 1 (omega arith)) ∙ s.y ∙ sym (same 1 (omega arith));
      z = ap (λ (v : ℕ). to_bits binary64 (of_bits binary64 v)) (same 2 (omega arith)) ∙ s.z ∙ sym (same 2 (omega arith));
      within = subst PointIn (sym (point_same u w at same)) s.within;
    }
  where
    start : get_or w at 0 ≡ get_or u at 0
    start = ap (λ (x : ℕ). get_or w x 0) (omega arith) ∙ same 0 (omega arith) ∙ ap (λ (x : ℕ). get_or u x 0) (omega arith)

-- ---- a new one

module _ (eps : Float) (n : ℕ) (w : List ℕ) (h : Holds eps n w) (p : Point) (m : ℕ) (within : PointIn p) (bits : BitsOf p)
    (less : count_at w < n) (b : ℕ) (b-is : b ≡ key_bucket n (words_of (key_of eps p))) (b_low : b < n) where
  abbrev id : ℕ
  id = count_at w

  abbrev key : Cell
  key = words_of (key_of eps p)

  abbrev new : List ℕ
  new = candidate_put w n id p m key b

  put : Pushed n id p m key w new
  put = pushed w n id p m key h.size less b b_low (tail_room w n id p m key h.size less (λ i. key_bucket n (cell_at w (keys_at n + 3 * i))) b b_low h.table.linked)

  old_word : (c i : ℕ) → c < id → i < 5 → get_or new (entry_at c + i) 0 ≡ get_or w (entry_at c + i) 0
  old_word c i k r = put.rest (entry_at c + i) (λ e. omega arith) (λ j s e. omega arith) (λ j s e. omega arith) (λ j s e. omega arith)

  old_key : (c : ℕ) → c < id → cell_at new (keys_at n + 3 * c) ≡ cell_at w (keys_at n + 3 * c)
  old_key c k =
      key_same w new (keys_at n + 3 * c)
      (λ i r. put.rest (keys_at n + 3 * c + i) (λ e. omega arith) (λ j s e. omega arith) (λ j s e. omega arith) (λ j s e. omega arith))

  counts : (f : ℕ) → f < 6 → get_or new f 0 ≡ get_or w f 0
  counts f k = put.rest f (λ e. omega arith) (λ j s e. omega arith) (λ j s e. omega arith) (λ j s e. omega arith)

  new_point : point_at new (entry_at id) ≡ p
  new_point = point_at_lem new (entry_at id) p bits put.x put.y put.z

  new_candidate : candidate_at new id ≡ candidate p m []
  new_candidate = λ i. record { point = new_point i; mesh = put.mesh i; on = (ap faces_in put.mask ∙ no_faces) i }

  appended : pool_at n new ≡ record { all = (pool_at n w).all ++ (candidate p m [] ∷ []); lists = map (λ f. view w (list_at n f) (get_or w f 0)) faces }
  appended =
      pool_is n new ((pool_at n w).all ++ (candidate p m [] ∷ [])) (λ f. view w (list_at n f) (get_or w f 0))
      (length-append (pool_at n w).all (candidate p m [] ∷ []) ∙ ap (λ (k : ℕ). k + 1) (pool_count n w) ∙ sym put.count)
      (λ c k. at c (omega (arith, put.count)) (ℕ_discrete c id))
      (lists_same eps n w new h put.long counts
      (λ x r s. put.rest x (λ e. omega arith) (λ j t e. omega arith) (λ j t e. omega arith) (λ j t e. omega arith)))
    where
      at : (c : ℕ) → c < id + 1 → Dec (c ≡ id) → candidate_at new c ≡ get_or ((pool_at n w).all ++ (candidate p m [] ∷ [])) c no_candidate
      at c k (yes e) =
          ap (candidate_at new) e ∙ new_candidate
          ∙ sym (ap (λ (x : ℕ). get_or ((pool_at n w).all ++ (candidate p m [] ∷ [])) x no_candidate) (e ∙ sym (pool_count n w)) ∙ get_or-append_seam (pool_at n w).all (candidate p m [])
          [] no_candidate)
      at c k (no d) =
          let r : c < id = omega arith in
          candidate_same w new c (λ i s. old_word c i r s)
          ∙ sym (get_or-append (pool_at n w).all (candidate p m [] ∷ []) no_candidate c (omega (arith, pool_count n w)) ∙ pool_at_lem n w c r)

  pub push_pool : place_for (by_key eps) (pool_at n w) (candidate p m []) ≡ None → pool_at n new ≡ insert (by_key eps) (pool_at n w) (candidate p m [])
  unfolding insert listed pool_at
  push_pool q =
      appended
      ∙ sym (λ i. record { all = entered_as (pool_at n w).all (candidate p m []) (q i); lists = map (λ f. view w (list_at n f) (get_or w f 0)) faces })

  push_holds : place_for (by_key eps) (pool_at n w) (candidate p m []) ≡ None → Holds eps n new
  push_holds q =
      record {
        size = omega (arith, h.size, put.long);
        table = subst (λ (k : ℕ). KeyTable new n k) (sym put.count) (record {
          small = h.table.small;
          room = omega (arith, h.table.room, put.long);
          few = omega arith;
          linked =
              pushed_linked w n id p m key h.size less b b_low (tail_room w n id p m key h.size less (λ i. key_bucket n (cell_at w (keys_at n + 3 * i))) b b_low
              h.table.linked)
              (λ i. key_bucket n (cell_at new (keys_at n + 3 * i))) (b-is ∙ ap (key_bucket n) (sym put.key))
              (linked_cong (λ i. key_bucket n (cell_at w (keys_at n + 3 * i))) (λ i. key_bucket n (cell_at new (keys_at n + 3 * i))) w (chain_at n) n id
              (λ i k. ap (key_bucket n) (sym (old_key i k))) h.table.linked);
        });
        keys = λ c k. keys c (omega (arith, put.count)) (ℕ_discrete c id);
        stored = λ c k. stored c (omega (arith, put.count)) (ℕ_discrete c id);
        masks = λ c k. masks c (omega (arith, put.count)) (ℕ_discrete c id);
        lengths = λ f k. omega (arith, counts f k, h.lengths f k);
        tidy = subst Tidy (sym (push_pool q)) (tidy_insert (by_key eps) (pool_at n w) (candidate p m []) (key_lawful eps) h.tidy);
      }
    where
      keys : (c : ℕ) → c < id + 1 → Dec (c ≡ id) → cell_at new (keys_at n + 3 * c) ≡ words_of (key_of eps (point_at new (entry_at c)))
      keys c k (yes e) = rw e (put.key ∙ ap (λ (q : Point). words_of (key_of eps q)) (sym new_point))
      keys c k (no d) =
          let r : c < id = omega arith in
          old_key c r ∙ h.keys c r ∙ ap (λ (q : Point). words_of (key_of eps q)) (sym (point_same w new (entry_at c) (λ i s. old_word c i r (omega arith))))

      stored : (c : ℕ) → c < id + 1 → Dec (c ≡ id) → PointStored new (entry_at c)
      stored c k (yes e) = rw e (stored_at new (entry_at id) p bits within put.x put.y put.z)
      stored c k (no d) = let r : c < id = omega arith in stored_same w new (entry_at c) (λ i s. old_word c i r (omega arith)) (h.stored c r)

      masks : (c : ℕ) → c < id + 1 → Dec (c ≡ id) → get_or new (entry_at c + 4) 0 < 64
      masks c k (yes e) = rw e (omega (arith, put.mask))
      masks c k (no d) = let r : c < id = omega arith in omega (arith, old_word c 4 r (omega arith), h.masks c r)

  pub push_inserted : place_for (by_key eps) (pool_at n w) (candidate p m []) ≡ None → Inserted eps n (candidate p m []) w new
  push_inserted q =
      record {
        pool = push_pool q;
        holds = push_holds q;
        long = put.long;
        rest = λ x k. put.rest x (λ e. omega arith) (λ j s e. omega arith) (λ j s e. omega arith) (λ j s e. omega arith);
      }

-- ---- one that is found

pub kept_none : (t : ℕ → Bool) → keep (λ f. has (keep t faces) f || has [] f) faces ≡ keep t faces
kept_none t = keep_faces (λ f. has (keep t faces) f || has [] f) t (λ f h. or-false (has (keep t faces) f) ∙ has_kept t f h)

module _ (eps : Float) (n : ℕ) (w : List ℕ) (h : Holds eps n w) (p : Point) (m id : ℕ)
    (found : place_for (by_key eps) (pool_at n w) (candidate p m []) ≡ Some id) where
  abbrev renewed_pool : Pool
  renewed_pool =
      record {
        all = set (pool_at n w).all id (renewed (get_or (pool_at n w).all id no_candidate) (candidate p m []));
        lists = map (λ f. view w (list_at n f) (get_or w f 0)) faces;
      }

  renewed_pool_lem : renewed_pool ≡ insert (by_key eps) (pool_at n w) (candidate p m [])
  unfolding insert listed pool_at
  renewed_pool_lem =
      sym (λ i. record { all = entered_as (pool_at n w).all (candidate p m []) (found i); lists = map (λ f. view w (list_at n f) (get_or w f 0)) faces })

  id_low : id < count_at w
  id_low = link_low eps n w h (candidate p m []) id found

  -- no mesh vertex: nothing changes
  pub kept_inserted : m ≡ 0 → Inserted eps n (candidate p m []) w w
  unfolding renewed pool_at
  kept_inserted z =
      record {
        pool = unchanged ∙ renewed_pool_lem;
        holds = h;
        long = refl;
        rest = λ x k. refl;
      }
    where
      again : renewed (candidate_at w id) (candidate p m []) ≡ candidate_at w id
      again =
          λ i. record {
            point = ap (λ (b : Bool). cond b (point_at w (entry_at id)) p) (eq-eqb m 0 z) i;
            mesh = ap (λ (b : Bool). cond b (get_or w (entry_at id + 3) 0) m) (eq-eqb m 0 z) i;
            on = kept_none (has_bit (get_or w (entry_at id + 4) 0)) i;
          }

      same : renewed (get_or (pool_at n w).all id no_candidate) (candidate p m []) ≡ get_or (pool_at n w).all id no_candidate
      same = ap (λ (x : Candidate). renewed x (candidate p m [])) (pool_at_lem n w id id_low) ∙ again ∙ sym (pool_at_lem n w id id_low)

      unchanged : pool_at n w ≡ renewed_pool
      unchanged =
          λ i. record {
            all = (sym (ap (λ (x : Candidate). set (pool_at n w).all id x) same ∙ set-get_or (pool_at n w).all id no_candidate)) i;
            lists = map (λ f. view w (list_at n f) (get_or w f 0)) faces;
          }

  module _ (within : PointIn p) (bits : BitsOf p) (vertex : m ≡ 0 → ⊥) where
    abbrev moved : List ℕ
    moved = point_put w id p m

    moved_long : length moved ≡ length w
    moved_long = four_long w (entry_at id) (to_bits binary64 p.x) (to_bits binary64 p.y) (to_bits binary64 p.z) m

    moved_rest : (x : ℕ) → Outside x (entry_at id) 4 → get_or moved x 0 ≡ get_or w x 0
    moved_rest x out = four_rest w (entry_at id) (to_bits binary64 p.x) (to_bits binary64 p.y) (to_bits binary64 p.z) m x out

    room : entry_at id + 3 < length w
    room = omega (arith, id_low, h.table.few, h.size)

    at_x : get_or moved (entry_at id) 0 ≡ to_bits binary64 p.x
    at_x = four_at0 w (entry_at id) (to_bits binary64 p.x) (to_bits binary64 p.y) (to_bits binary64 p.z) m room

    at_y : get_or moved (entry_at id + 1) 0 ≡ to_bits binary64 p.y
    at_y = four_at1 w (entry_at id) (to_bits binary64 p.x) (to_bits binary64 p.y) (to_bits binary64 p.z) m room

    at_z : get_or moved (entry_at id + 2) 0 ≡ to_bits binary64 p.z
    at_z = four_at2 w (entry_at id) (to_bits binary64 p.x) (to_bits binary64 p.y) (to_bits binary64 p.z) m room

    at_mesh : get_or moved (entry_at id + 3) 0 ≡ m
    at_mesh = four_at3 w (entry_at id) (to_bits binary64 p.x) (to_bits binary64 p.y) (to_bits binary64 p.z) m room

    count_same : count_at moved ≡ count_at w
    count_same = moved_rest 6 (λ j s e. omega arith)

    front_same : (f : ℕ) → f < 6 → get_or moved f 0 ≡ get_or w f 0
    front_same f k = moved_rest f (λ j s e. omega arith)

    back_same : (x : ℕ) → keys_at n ≤ x → get_or moved x 0 ≡ get_or w x 0
    back_same x k = moved_rest x (λ j s e. omega (arith, id_low, h.table.few))

    other_word : (c i : ℕ) → (c ≡ id → ⊥) → i < 5 → get_or moved (entry_at c + i) 0 ≡ get_or w (entry_at c + i) 0
    other_word c i d k = moved_rest (entry_at c + i) (λ j s e. omega arith)

    mask_same : (c : ℕ) → get_or moved (entry_at c + 4) 0 ≡ get_or w (entry_at c + 4) 0
    mask_same c = moved_rest (entry_at c + 4) (λ j s e. omega arith)

    point_is : point_at moved (entry_at id) ≡ p
    point_is = point_at_lem moved (entry_at id) p bits at_x at_y at_z

    candidate_is : candidate_at moved id ≡ renewed (candidate_at w id) (candidate p m [])
    unfolding renewed
    candidate_is =
        λ i. record {
          point = (point_is ∙ sym (ap (λ (b : Bool). cond b (point_at w (entry_at id)) p) (ne_eqb m 0 vertex))) i;
          mesh = (at_mesh ∙ sym (ap (λ (b : Bool). cond b (get_or w (entry_at id + 3) 0) m) (ne_eqb m 0 vertex))) i;
          on = (ap faces_in (mask_same id) ∙ sym (kept_none (has_bit (get_or w (entry_at id + 4) 0)))) i;
        }

    moved_pool : pool_at n moved ≡ insert (by_key eps) (pool_at n w) (candidate p m [])
    moved_pool =
        pool_is n moved (set (pool_at n w).all id (renewed (get_or (pool_at n w).all id no_candidate) (candidate p m []))) (λ f. view w (list_at n f) (get_or w f 0))
        (length-set (pool_at n w).all id (renewed (get_or (pool_at n w).all id no_candidate) (candidate p m [])) ∙ pool_count n w ∙ sym count_same)
        (λ c k. at c (omega (arith, count_same)) (ℕ_discrete c id))
        (lists_same eps n w moved h moved_long front_same (λ x k r. back_same x (omega arith)))
        ∙ renewed_pool_lem
      where
        at : (c : ℕ) → c < count_at w → Dec (c ≡ id) → candidate_at moved c ≡ get_or (set (pool_at n w).all id (renewed (get_or (pool_at n w).all id no_candidate) (candidate p m []))) c
            no_candidate
        at c k (yes e) =
            ap (candidate_at moved) e ∙ candidate_is
            ∙ ap (λ (x : Candidate). renewed x (candidate p m [])) (sym (pool_at_lem n w id id_low))
            ∙ sym (ap (λ (x : ℕ). get_or (set (pool_at n w).all id (renewed (get_or (pool_at n w).all id no_candidate) (candidate p m []))) x no_candidate) e
            ∙ get_or-set_same (pool_at n w).all id (renewed (get_or (pool_at n w).all id no_candidate) (candidate p m [])) no_candidate (omega (arith, id_low, pool_count n w)))
        at c k (no d) =
            candidate_same w moved c (λ i s. other_word c i d s)
            ∙ sym (get_or-set_other (pool_at n w).all id c (renewed (get_or (pool_at n w).all id no_candidate) (candidate p m [])) no_candidate d ∙ pool_at_lem n w c k)

    moved_holds : Holds eps n moved
    moved_holds =
        record {
          size = omega (arith, h.size, moved_long);
          table = table_kept n w moved h.table count_same moved_long (λ x k r. back_same x k);
          keys = λ c k. keys c (omega (arith, count_same)) (ℕ_discrete c id);
          stored = λ c k. stored c (omega (arith, count_same)) (ℕ_discrete c id);
          masks = λ c k. omega (arith, mask_same c, h.masks c (omega (arith, count_same)));
          lengths = λ f k. omega (arith, front_same f k, h.lengths f k);
          tidy = subst Tidy (sym moved_pool) (tidy_insert (by_key eps) (pool_at n w) (candidate p m []) (key_lawful eps) h.tidy);
        }
      where
        key_kept : (c : ℕ) → cell_at moved (keys_at n + 3 * c) ≡ cell_at w (keys_at n + 3 * c)
        key_kept c = key_same w moved (keys_at n + 3 * c) (λ i s. back_same (keys_at n + 3 * c + i) (omega arith))

        keys : (c : ℕ) → c < count_at w → Dec (c ≡ id) → cell_at moved (keys_at n + 3 * c) ≡ words_of (key_of eps (point_at moved (entry_at c)))
        keys c k (yes e) = rw e (key_kept id ∙ link_key eps n w h (candidate p m []) id found ∙ ap (λ (q : Point). words_of (key_of eps q)) (sym point_is))
        keys c k (no d) = key_kept c ∙ h.keys c k ∙ ap (λ (q : Point). words_of (key_of eps q)) (sym (point_same w moved (entry_at c) (λ i s. other_word c i d (omega arith))))

        stored : (c : ℕ) → c < count_at w → Dec (c ≡ id) → PointStored moved (entry_at c)
        stored c k (yes e) = rw e (stored_at moved (entry_at id) p bits within at_x at_y at_z)
        stored c k (no d) = stored_same w moved (entry_at c) (λ i s. other_word c i d (omega arith)) (h.stored c k)

    pub put_inserted : Inserted eps n (candidate p m []) w moved
    put_inserted = record { pool = moved_pool; holds = moved_holds; long = moved_long; rest = λ x k. back_same x (omega arith) }

-- ---- as the code has it: the key's words, their bucket, and what the search answers

module _ (eps : Float) (n : ℕ) (w : List ℕ) (h : Holds eps n w) (p : Point) (m : ℕ) (k : Cell) (b : ℕ) (r : Option ℕ)
    (key_is_lem : k ≡ words_of (key_of eps p)) (in-bucket : InBucket (mixed k.x k.y k.z) n b)
    (searched : r ≡ first (λ i. same_cell (cell_at w (keys_at n + 3 * i)) k) (up_to (count_at w))) where
  answer : r ≡ place_for (by_key eps) (pool_at n w) (candidate p m [])
  answer = searched ∙ ap (λ (q : Cell). first (key_is w n q) (up_to (count_at w))) key_is_lem ∙ first_is eps n w h (candidate p m [])

  hit : (i : ℕ) → r ≡ Some i → place_for (by_key eps) (pool_at n w) (candidate p m []) ≡ Some i
  hit i e = sym answer ∙ e

  miss : r ≡ None → place_for (by_key eps) (pool_at n w) (candidate p m []) ≡ None
  miss e = sym answer ∙ e

  pub miss_room : r ≡ None → RoomFor eps n w (candidate p m []) → count_at w < n
  miss_room e room = room (miss e)

  pub hit_room : (i : ℕ) → r ≡ Some i → entry_at i + 3 < length w
  hit_room i e = omega (arith, link_low eps n w h (candidate p m []) i (hit i e), h.table.few, h.size)

  pub placed_new : (v : List ℕ) → r ≡ None → RoomFor eps n w (candidate p m []) → PointIn p → BitsOf p → v ≡ candidate_put w n (count_at w) p m k b
      → Inserted eps n (candidate p m []) w v
  placed_new v z room within bits e =
      subst (λ (u : List ℕ). Inserted eps n (candidate p m []) w u) (sym (e ∙ ap (λ (q : Cell). candidate_put w n (count_at w) p m q b) key_is_lem))
      (push_inserted eps n w h p m within bits (miss_room z room) b (in-bucket.is ∙ ap (key_bucket n) key_is_lem) in-bucket.low (miss z))

  pub placed_moved : (v : List ℕ) (i : ℕ) → r ≡ Some i → (m ≡ 0 → ⊥) → PointIn p → BitsOf p → v ≡ point_put w i p m → Inserted eps n (candidate p m []) w v
  placed_moved v i q vertex within bits e =
      subst (λ (u : List ℕ). Inserted eps n (candidate p m []) w u) (sym e) (put_inserted eps n w h p m i (hit i q) within bits vertex)

  pub placed_kept : (i : ℕ) → r ≡ Some i → m ≡ 0 → Inserted eps n (candidate p m []) w w
  placed_kept i q z = kept_inserted eps n w h p m i (hit i q) z

  pub number_miss : r ≡ None → count_at w ≡ number_for (by_key eps) (pool_at n w) (candidate p m [])
  number_miss z = sym (number_new (by_key eps) (pool_at n w) (candidate p m []) (miss z) ∙ pool_count n w)

  pub number_hit : (i : ℕ) → r ≡ Some i → i ≡ number_for (by_key eps) (pool_at n w) (candidate p m [])
  number_hit i q = sym (number_found (by_key eps) (pool_at n w) (candidate p m []) i (hit i q))
