-- A face is added to a candidate in the work room. Assumes nothing.
--   face_there       the candidate has the face: nothing changes
--   marked, face_put  the stores where it has not
--   list_room, list_end, face_added   their indices, and what they make of the pool
use Prim.Native.Nat.{ℕ, ◌+◌, ◌*◌, ◌≤◌, ◌<◌, ◌^◌}
use native.Mathlib.Omega.{arith}
use native.Mathlib.Decide.{ℕ_discrete, dec_lt}
use mathlib.Core.Path.{◌≡◌, refl, sym, ap, subst, ◌∙◌}
use mathlib.Core.Bool.{Bool, true, false, cond, ◌||◌, or-false, or-true}
use mathlib.Core.List.{List, [], ◌∷◌, ◌++◌}
use lib.Dec.{eqb}
use lib.ListN.{get_or, set, length, length-append, length-set}
use lib.Seq.{get_or-set_same, get_or-set_other}
use lib.Ieee.{Float}
use borrow.Author.Tests.{eq-eqb, ne_eqb, eqb-true}
use Rattle.lists.specs.Lists.{keep, has}
use Rattle.lists.specs.Regions.{view}
use Rattle.lists.proofs.Regions.{view_same, view_more}
use Rattle.lists.proofs.Pigeonhole.{pigeonhole}
use Rattle.geometry.specs.Points.{origin}
use Rattle.geometry.specs.Boxes.{faces}
use Rattle.geometry.specs.declared.point.Point.{Point}
use Rattle.box_faces.specs.Faces.{has_bit}
use Rattle.mesh_weld.specs.Cells.{key_of}
use Rattle.candidate_pool.specs.Offsets.{entry_at, keys_at, lists_at, list_at, joined_at}
use Rattle.candidate_pool.specs.Pool.{Candidate, Pool, no_candidate, face_list, renewed, added, listed}
use Rattle.mesh_weld.specs.Room.{words_of, cell_at}
use Rattle.candidate_pool.specs.Standing.{faces_in, candidate, count_at, point_at, candidate_at, pool_at, PointStored, Tidy, Holds, with_face, FaceAdded}
use Rattle.candidate_pool.proofs.Listing.{keep_faces, has_kept, has_one, listed_at}
use Rattle.candidate_pool.proofs.Tidying.{tidy_faces}
use Rattle.candidate_pool.proofs.Reading.{pool_count, pool_at_lem, pool_list, pool_is, candidate_same, list_in, list_apart, list_long}
use Rattle.candidate_pool.proofs.Putting.{key_same}
use Rattle.candidate_pool.proofs.Placing.{table_kept, point_same, stored_same}
use Rattle.candidate_pool.proofs.Masking.{mask_more, mask_low}

module _ (eps : Float) (n : ℕ) (w : List ℕ) (h : Holds eps n w) (id f : ℕ) (id_low : id < count_at w) (k : f < 6) where
  abbrev mask : ℕ
  mask = get_or w (entry_at id + 4) 0

  abbrev pool : Pool
  pool = pool_at n w

  id_in : id < length pool.all
  id_in = omega (arith, pool_count n w)

  -- the candidate's faces with f
  on_with : (t : ℕ → Bool) → ((g : ℕ) → g < 6 → t g ≡ (has_bit mask g || eqb g f)) → keep t faces ≡ keep (λ g. has (faces_in mask) g || has (f ∷ []) g) faces
  on_with t e =
      keep_faces t (λ g. has (faces_in mask) g || has (f ∷ []) g)
      (λ g r. e g r ∙ sym (ap (λ (b : Bool). b || has (f ∷ []) g) (has_kept (has_bit mask) g r) ∙ ap (λ (b : Bool). has_bit mask g || b) (has_one f g)))

  -- it is listed exactly if its bit is set
  is_listed : has (face_list pool f) id ≡ has_bit mask f
  is_listed =
      h.tidy.on f id k id_in
      ∙ ap (λ (x : Candidate). has x.on f) (pool_at_lem n w id id_low)
      ∙ has_kept (has_bit mask) f k

  abbrev faced : Candidate
  faced = renewed (get_or pool.all id no_candidate) (candidate origin 0 (f ∷ []))

  -- a room that differs so has the pool with the face
  pool_with : (v : List ℕ) → count_at v ≡ count_at w → candidate_at v id ≡ renewed (candidate_at w id) (candidate origin 0 (f ∷ []))
      → ((c : ℕ) → c < count_at w → (c ≡ id → ⊥) → candidate_at v c ≡ candidate_at w c)
      → ((g : ℕ) → g < 6 → view v (list_at n g) (get_or v g 0) ≡ cond (has (f ∷ []) g) (added (face_list pool g) id) (face_list pool g))
      → pool_at n v ≡ with_face pool id f
  unfolding listed
  pool_with v count own others lists =
      pool_is n v (set pool.all id faced) (λ g. cond (has (f ∷ []) g) (added (face_list pool g) id) (face_list pool g))
      (length-set pool.all id faced ∙ pool_count n w ∙ sym count) (λ c r. at c (omega arith) (ℕ_discrete c id)) lists
    where
      at : (c : ℕ) → c < count_at w → Dec (c ≡ id) → candidate_at v c ≡ get_or (set pool.all id faced) c no_candidate
      at c r (yes e) =
          ap (candidate_at v) e ∙ own
          ∙ ap (λ (x : Candidate). renewed x (candidate origin 0 (f ∷ []))) (sym (pool_at_lem n w id id_low))
          ∙ sym (ap (λ (x : ℕ). get_or (set pool.all id faced) x no_candidate) e ∙ get_or-set_same pool.all id faced no_candidate id_in)
      at c r (no d) = others c r d ∙ sym (get_or-set_other pool.all id c faced no_candidate d ∙ pool_at_lem n w c r)

  -- the lists of the other faces are as they were
  other_list : (g : ℕ) (l : List ℕ) → (g ≡ f → ⊥) → l ≡ cond (has (f ∷ []) g) (added l id) l
  other_list g l d = sym (ap (λ (b : Bool). cond b (added l id) l) (has_one f g ∙ ne_eqb g f d))

  own_list : (l : List ℕ) (b : Bool) → has l id ≡ b → cond b l (l ++ (id ∷ [])) ≡ cond (has (f ∷ []) f) (added l id) l
  own_list l b e = sym (ap (λ (t : Bool). cond t (added l id) l) (has_one f f ∙ eq-eqb f f refl) ∙ ap (λ (t : Bool). cond t l (l ++ (id ∷ []))) e)

  -- ---- the face is there

  pub face_there : has_bit mask f ≡ true → FaceAdded eps n id f w w
  unfolding renewed
  face_there t = record { pool = pool_with w refl again (λ c r d. refl) (λ g r. lists g r (ℕ_discrete g f)); holds = h; long = refl; rest = λ x r. refl }
    where
      with_it : (g : ℕ) (b : Bool) → eqb g f ≡ b → has_bit mask g ≡ (has_bit mask g || b)
      with_it g true e = let q = ap (has_bit mask) (eqb-true g f e) ∙ t in q ∙ sym (or-true (has_bit mask g))
      with_it g false e = sym (or-false (has_bit mask g))

      again : candidate_at w id ≡ renewed (candidate_at w id) (candidate origin 0 (f ∷ []))
      again =
          λ i. record {
            point = point_at w (entry_at id);
            mesh = get_or w (entry_at id + 3) 0;
            on = on_with (has_bit mask) (λ g r. with_it g (eqb g f) refl) i;
          }

      lists : (g : ℕ) → g < 6 → Dec (g ≡ f) → view w (list_at n g) (get_or w g 0) ≡ cond (has (f ∷ []) g) (added (face_list pool g) id) (face_list pool g)
      lists g r (yes e) =
          sym (pool_list n w g r)
          ∙ subst (λ (x : ℕ). face_list pool x ≡ cond (has (f ∷ []) x) (added (face_list pool x) id) (face_list pool x)) (sym e) (own_list (face_list pool f) true (is_listed ∙ t))
      lists g r (no d) = sym (pool_list n w g r) ∙ other_list g (face_list pool g) d

  -- ---- it is not

  module _ (off : has_bit mask f ≡ false) where
    -- there is room in the face's list, since no candidate stands in it twice
    pub list_room : get_or w f 0 < n
    list_room =
        let t = tidy_faces pool id (f ∷ []) id_in h.tidy in
        let p = with_face pool id f in
        let most = pigeonhole (length p.all) (face_list p f) (λ i j. t.once f i j k) (λ i. t.low f i k) in
        omega (arith, most, long, length-set pool.all id faced, pool_count n w, h.table.few)
      where
        longer : face_list (with_face pool id f) f ≡ face_list pool f ++ (id ∷ [])
        longer = listed_at pool.lists (f ∷ []) id f k ∙ sym (own_list (face_list pool f) false (is_listed ∙ off))

        long : length (face_list (with_face pool id f) f) ≡ get_or w f 0 + 1
        long = ap (length {A = ℕ}) longer ∙ length-append (face_list pool f) (id ∷ []) ∙ ap (λ (x : ℕ). x + 1) (list_long eps n w f h k)

    -- where the candidate's number goes
    pub list_end : (o : ℕ) → o ≡ list_at n f → o + get_or w f 0 < joined_at n
    list_end o e = omega (arith, list_in n f k, list_room)

    module _ (bit o : ℕ) (bit_is : bit ≡ 2 ^ f) (o_is : o ≡ list_at n f) where
      abbrev pub marked : List ℕ
      marked = set w (entry_at id + 4) (mask + bit)

      abbrev pub face_put : List ℕ
      face_put = set (set marked (o + get_or w f 0) id) f (get_or w f 0 + 1)

      end_low : lists_at n ≤ o + get_or w f 0
      end_low = omega arith

      room_at : entry_at id + 4 < length w
      room_at = omega (arith, h.size, h.table.few)

      put_long : length face_put ≡ length w
      put_long = simp length-set

      put_rest : (x : ℕ) → (x ≡ entry_at id + 4 → ⊥) → (x ≡ o + get_or w f 0 → ⊥) → (x ≡ f → ⊥) → get_or face_put x 0 ≡ get_or w x 0
      put_rest x a b c =
          get_or-set_other (set marked (o + get_or w f 0) id) f x (get_or w f 0 + 1) 0 c
          ∙ get_or-set_other marked (o + get_or w f 0) x id 0 b
          ∙ get_or-set_other w (entry_at id + 4) x (mask + bit) 0 a

      put_count : get_or face_put f 0 ≡ get_or w f 0 + 1
      put_count = get_or-set_same (set marked (o + get_or w f 0) id) f (get_or w f 0 + 1) 0 (simp length-set (omega (arith, h.size)))

      put_end : get_or face_put (o + get_or w f 0) 0 ≡ id
      put_end =
          get_or-set_other (set marked (o + get_or w f 0) id) f (o + get_or w f 0) (get_or w f 0 + 1) 0 (λ e. omega (arith, end_low))
          ∙ get_or-set_same marked (o + get_or w f 0) id 0 (simp length-set (omega (arith, h.size, list_end o o_is)))

      put_mask : get_or face_put (entry_at id + 4) 0 ≡ mask + 2 ^ f
      put_mask =
          get_or-set_other (set marked (o + get_or w f 0) id) f (entry_at id + 4) (get_or w f 0 + 1) 0 (λ e. omega arith)
          ∙ get_or-set_other marked (o + get_or w f 0) (entry_at id + 4) id 0 (λ e. omega (arith, end_low, h.table.few))
          ∙ get_or-set_same w (entry_at id + 4) (mask + bit) 0 room_at
          ∙ ap (λ (x : ℕ). mask + x) bit_is

      six_kept : count_at face_put ≡ count_at w
      six_kept = put_rest 6 (λ e. omega arith) (λ e. omega (arith, end_low)) (λ e. omega arith)

      front_kept : (g : ℕ) → g < 6 → (g ≡ f → ⊥) → get_or face_put g 0 ≡ get_or w g 0
      front_kept g r d = put_rest g (λ e. omega arith) (λ e. omega (arith, end_low)) d

      table_words : (x : ℕ) → keys_at n ≤ x → x < lists_at n → get_or face_put x 0 ≡ get_or w x 0
      table_words x r s = put_rest x (λ e. omega (arith, h.table.few)) (λ e. omega (arith, end_low)) (λ e. omega arith)

      point_word : (c i : ℕ) → c < count_at w → i < 4 → get_or face_put (entry_at c + i) 0 ≡ get_or w (entry_at c + i) 0
      point_word c i r s = put_rest (entry_at c + i) (λ e. omega arith) (λ e. omega (arith, end_low, h.table.few)) (λ e. omega arith)

      mask_kept : (c : ℕ) → c < count_at w → (c ≡ id → ⊥) → get_or face_put (entry_at c + 4) 0 ≡ get_or w (entry_at c + 4) 0
      mask_kept c r d = put_rest (entry_at c + 4) (λ e. d (omega arith)) (λ e. omega (arith, end_low, h.table.few)) (λ e. omega arith)

      list_word : (g i : ℕ) → g < 6 → i < n → (g ≡ f → ⊥) → get_or face_put (list_at n g + i) 0 ≡ get_or w (list_at n g + i) 0
      list_word g i r s d =
          put_rest (list_at n g + i) (λ e. omega (arith, h.table.few))
          (λ e. apart (omega (arith, list_room))) (λ e. omega arith)
        where
          apart : g * n + i ≡ f * n + get_or w f 0 → ⊥
          apart e = go (dec_lt g f)
            where
              go : Dec (g < f) → ⊥
              go (yes q) = omega (arith, list_apart n g f q)
              go (no q) = omega (arith, list_apart n f g (omega arith), list_room)

      own_word : (i : ℕ) → i < get_or w f 0 → get_or face_put (list_at n f + i) 0 ≡ get_or w (list_at n f + i) 0
      own_word i r = put_rest (list_at n f + i) (λ e. omega (arith, h.table.few)) (λ e. omega arith) (λ e. omega arith)

      word_kept : (c : ℕ) → c < count_at w → (c ≡ id → ⊥) → (i : ℕ) → i < 5 → Dec (i ≡ 4) → get_or face_put (entry_at c + i) 0 ≡ get_or w (entry_at c + i) 0
      word_kept c r d i s (yes e) = rw e (mask_kept c r d)
      word_kept c r d i s (no q) = point_word c i r (omega arith)

      marked_candidate : candidate_at face_put id ≡ renewed (candidate_at w id) (candidate origin 0 (f ∷ []))
      unfolding renewed
      marked_candidate =
          λ i. record {
            point = point_same w face_put (entry_at id) (λ j s. point_word id j id_low (omega arith)) i;
            mesh = point_word id 3 id_low (omega arith) i;
            on = (ap faces_in put_mask ∙ on_with (has_bit (mask + 2 ^ f)) (mask_more mask f (h.masks id id_low) k off)) i;
          }

      face_lists : (g : ℕ) → g < 6 → Dec (g ≡ f) → view face_put (list_at n g) (get_or face_put g 0) ≡ cond (has (f ∷ []) g) (added (face_list pool g) id) (face_list pool g)
      face_lists g r (yes e) =
          subst (λ (x : ℕ). view face_put (list_at n x) (get_or face_put x 0) ≡ cond (has (f ∷ []) x) (added (face_list pool x) id) (face_list pool x)) (sym e)
          (ap (λ (x : ℕ). view face_put (list_at n f) x) put_count
          ∙ view_more w face_put (list_at n f) (get_or w f 0) id (omega (arith, h.size, list_in n f k, list_room)) put_long own_word
          (ap (λ (x : ℕ). get_or face_put x 0) end_is ∙ put_end)
          ∙ ap (λ (l : List ℕ). l ++ (id ∷ [])) (sym (pool_list n w f k))
          ∙ own_list (face_list pool f) false (is_listed ∙ off))
        where
          end_is : list_at n f + get_or w f 0 ≡ o + get_or w f 0
          end_is = omega arith
      face_lists g r (no d) =
          ap (λ (x : ℕ). view face_put (list_at n g) x) (front_kept g r d)
          ∙ view_same w face_put (list_at n g) (get_or w g 0) (omega (arith, h.size, list_in n g r, h.lengths g r)) put_long
          (λ i s. list_word g i r (omega (arith, h.lengths g r)) d)
          ∙ sym (pool_list n w g r)
          ∙ other_list g (face_list pool g) d

      face_pool : pool_at n face_put ≡ with_face pool id f
      face_pool =
          pool_with face_put six_kept marked_candidate (λ c r d. candidate_same w face_put c (λ i s. word_kept c r d i s (ℕ_discrete i 4)))
          (λ g r. face_lists g r (ℕ_discrete g f))

      face_holds : Holds eps n face_put
      face_holds =
          record {
            size = omega (arith, h.size, put_long);
            table = table_kept n w face_put h.table six_kept put_long table_words;
            keys = λ c r. keys c (omega (arith, six_kept));
            stored = λ c r. stored c (omega (arith, six_kept));
            masks = λ c r. masks c (omega (arith, six_kept)) (ℕ_discrete c id);
            lengths = λ g r. lengths g r (ℕ_discrete g f);
            tidy = subst Tidy (sym face_pool) (tidy_faces pool id (f ∷ []) id_in h.tidy);
          }
        where
          keys : (c : ℕ) → c < count_at w → cell_at face_put (keys_at n + 3 * c) ≡ words_of (key_of eps (point_at face_put (entry_at c)))
          keys c r =
              key_same w face_put (keys_at n + 3 * c) (λ i s. table_words (keys_at n + 3 * c + i) (omega arith) (omega (arith, h.table.few)))
              ∙ h.keys c r
              ∙ ap (λ (q : Point). words_of (key_of eps q)) (sym (point_same w face_put (entry_at c) (λ i s. point_word c i r (omega arith))))

          stored : (c : ℕ) → c < count_at w → PointStored face_put (entry_at c)
          stored c r = stored_same w face_put (entry_at c) (λ i s. point_word c i r (omega arith)) (h.stored c r)

          masks : (c : ℕ) → c < count_at w → Dec (c ≡ id) → get_or face_put (entry_at c + 4) 0 < 64
          masks c r (yes e) = rw e (omega (arith, put_mask, mask_low mask f (h.masks id id_low) k off))
          masks c r (no d) = omega (arith, mask_kept c r d, h.masks c r)

          lengths : (g : ℕ) → g < 6 → Dec (g ≡ f) → get_or face_put g 0 ≤ n
          lengths g r (yes e) = rw e (omega (arith, put_count, list_room))
          lengths g r (no d) = omega (arith, front_kept g r d, h.lengths g r)

      pub face_added : FaceAdded eps n id f w face_put
      face_added =
          record {
            pool = face_pool;
            holds = face_holds;
            long = put_long;
            rest = λ x r. put_rest x (λ e. omega (arith, h.table.few)) (λ e. omega (arith, list_end o o_is)) (λ e. omega arith);
          }
