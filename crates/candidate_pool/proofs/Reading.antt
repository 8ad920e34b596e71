-- What the work room says of its pool. Assumes nothing.
--   pool_count, pool_at_lem, pool_point, pool_list   the pool's candidates, their points and the lists, by the room's words
--   all_is, pool_is        a pool is the room's if it has the room's candidates and lists
--   candidate_same         a candidate whose five words are the same
--   list_in, list_apart    the places of the face lists
--   list_at_lem                what stands in a list
--   list_length, list_long a list has the length that stands in the room
--   list_few               it has at most n candidates
--   lists_same             stores elsewhere leave the lists
--   link_is, first_is      what the search by words finds is what the definition finds
--   link_low, link_key     what is found is a candidate, and has the key
--   some_room              there is room for a candidate at all
use Prim.Native.Nat.{ℕ, suc, ◌+◌, ◌*◌, ◌≤◌, ◌<◌}
use native.Mathlib.Omega.{arith}
use native.Mathlib.Nat.{mul-le-mul_right}
use mathlib.Core.Path.{◌≡◌, refl, sym, ap, ◌∙◌}
use mathlib.Core.Bool.{Bool}
use mathlib.Core.List.{List, [], map}
use Rattle.std.specs.Prelude.{Option, None, Some}
use lib.ListN.{get_or, length, length-map, get_or-map}
use lib.Seq.{ext_get_or}
use lib.Ieee.{Float, binary64, of_bits}
use Rattle.lists.specs.Lists.{first, up_to}
use Rattle.lists.specs.Regions.{view}
use Rattle.lists.proofs.Places.{length_up, at_map_up}
use Rattle.lists.proofs.Regions.{view_length, view_same, view_at}
use Rattle.lists.proofs.Pigeonhole.{pigeonhole}
use Rattle.geometry.specs.declared.point.Point.{Point}
use Rattle.geometry.specs.Points.{pt, origin}
use Rattle.geometry.specs.Boxes.{faces}
use Rattle.chains.specs.Links.{link_of, link_to}
use Rattle.chains.proofs.Firsts.{places_link, link_found}
use Rattle.mesh_weld.specs.Cells.{key_of, same_key}
use Rattle.candidate_pool.specs.Offsets.{entry_at, keys_at, lists_at, list_at, joined_at, pool_end}
use Rattle.candidate_pool.specs.Pool.{Candidate, no_candidate, face_list, by_key, place_for, point_of}
use Rattle.mesh_weld.specs.Room.{words_of, cell_at}
use Rattle.candidate_pool.specs.Standing.{faces_in, count_at, point_at, candidate_at, pool_at, Holds, RoomFor, Tidy}
use Rattle.candidate_pool.proofs.Listing.{at_faces, faces_same}
use Rattle.candidate_pool.proofs.Searching.{key_is, words_same}
use Rattle.candidate_pool.proofs.Rule.{key_lawful}
use Rattle.candidate_pool.proofs.KeyWords.{words_keys, link_to_is, found_is}

-- ---- the pool by its parts

pub pool_count : (n : ℕ) (w : List ℕ) → length (pool_at n w).all ≡ count_at w
unfolding pool_at
pool_count n w = length-map (up_to (count_at w)) (candidate_at w) ∙ length_up 0 (count_at w)

pub pool_at_lem : (n : ℕ) (w : List ℕ) (c : ℕ) → c < count_at w → get_or (pool_at n w).all c no_candidate ≡ candidate_at w c
unfolding pool_at
pool_at_lem n w c h = at_map_up (candidate_at w) no_candidate 0 (count_at w) c h ∙ ap (candidate_at w) (omega arith)

pub pool_point : (n : ℕ) (w : List ℕ) (c : ℕ) → c < count_at w → point_of (pool_at n w) c ≡ point_at w (entry_at c)
pool_point n w c h = ap (λ (x : Candidate). x.point) (pool_at_lem n w c h)

pub pool_list : (n : ℕ) (w : List ℕ) (f : ℕ) → f < 6 → face_list (pool_at n w) f ≡ view w (list_at n f) (get_or w f 0)
unfolding pool_at
pool_list n w f h = at_faces (λ f. view w (list_at n f) (get_or w f 0)) [] f h

pub all_is : (w : List ℕ) (l : List Candidate) → length l ≡ count_at w → ((c : ℕ) → c < count_at w → candidate_at w c ≡ get_or l c no_candidate) →
    map (candidate_at w) (up_to (count_at w))
    ≡ l
all_is w l long same =
    ext_get_or no_candidate (map (candidate_at w) (up_to (count_at w))) l (count ∙ sym long)
    (λ c h. let k : c < count_at w = omega (arith, count) in at_map_up (candidate_at w) no_candidate 0 (count_at w) c k ∙ ap (candidate_at w) (omega arith) ∙ same c k)
  where
    count : length (map (candidate_at w) (up_to (count_at w))) ≡ count_at w
    count = length-map (up_to (count_at w)) (candidate_at w) ∙ length_up 0 (count_at w)

pub pool_is : (n : ℕ) (w : List ℕ) (l : List Candidate) (g : ℕ → List ℕ) → length l ≡ count_at w → ((c : ℕ) → c < count_at w → candidate_at w c ≡ get_or l c no_candidate)
    → ((f : ℕ) → f < 6 → view w (list_at n f) (get_or w f 0) ≡ g f)
    → pool_at n w ≡ record { all = l; lists = map g faces }
unfolding pool_at
pool_is n w l g long same lists =
    λ i. record { all = all_is w l long same i; lists = faces_same (λ f. view w (list_at n f) (get_or w f 0)) g lists i }

pub candidate_same : (u w : List ℕ) (c : ℕ) → ((i : ℕ) → i < 5 → get_or w (entry_at c + i) 0 ≡ get_or u (entry_at c + i) 0) → candidate_at w c ≡ candidate_at u c
candidate_same u w c same =
    λ i. record {
      point = pt (of_bits binary64 (first i)) (of_bits binary64 (same 1 (omega arith) i)) (of_bits binary64 (same 2 (omega arith) i));
      mesh = same 3 (omega arith) i;
      on = faces_in (same 4 (omega arith) i);
    }
  where
    first : get_or w (entry_at c) 0 ≡ get_or u (entry_at c) 0
    first = ap (λ (x : ℕ). get_or w x 0) (omega arith) ∙ same 0 (omega arith) ∙ ap (λ (x : ℕ). get_or u x 0) (omega arith)

-- ---- the face lists

pub list_in : (n f : ℕ) → f < 6 → f * n + n ≤ 6 * n
list_in n f h = let a : f * n ≤ 5 * n = mul-le-mul_right n (omega arith) in omega arith

pub list_apart : (n f g : ℕ) → f < g → f * n + n ≤ g * n
list_apart n f g h = let a : suc f * n ≤ g * n = mul-le-mul_right n h in omega arith

pub list_at_lem : (n : ℕ) (w : List ℕ) (f i : ℕ) → f < 6 → i < get_or w f 0 → get_or (face_list (pool_at n w) f) i 0 ≡ get_or w (list_at n f + i) 0
list_at_lem n w f i k h = ap (λ (l : List ℕ). get_or l i 0) (pool_list n w f k) ∙ view_at w (list_at n f) (get_or w f 0) i h

pub list_length : (n : ℕ) (w : List ℕ) (f : ℕ) → pool_end n ≤ length w → get_or w f 0 ≤ n → f < 6 → length (face_list (pool_at n w) f) ≡ get_or w f 0
list_length n w f size few k =
    ap (length {A = ℕ}) (pool_list n w f k) ∙ view_length w (list_at n f) (get_or w f 0) (omega (arith, list_in n f k))

pub list_long : (eps : Float) (n : ℕ) (w : List ℕ) (f : ℕ) → Holds eps n w → f < 6 → length (face_list (pool_at n w) f) ≡ get_or w f 0
list_long eps n w f h k = list_length n w f h.size (h.lengths f k) k

-- the candidates in it are below their number and have no repeats
pub list_few : (n : ℕ) (w : List ℕ) → count_at w ≤ n → Tidy (pool_at n w) → (f : ℕ) → f < 6 → length (face_list (pool_at n w) f) ≤ n
list_few n w few tidy f k =
    pigeonhole n (face_list (pool_at n w) f) (λ i j. tidy.once f i j k) (λ i h. omega (arith, pool_count n w, tidy.low f i k h))

pub lists_same : (eps : Float) (n : ℕ) (u w : List ℕ) → Holds eps n u → length w ≡ length u → ((f : ℕ) → f < 6 → get_or w f 0 ≡ get_or u f 0)
    → ((x : ℕ) → lists_at n ≤ x → x < joined_at n → get_or w x 0 ≡ get_or u x 0) → (f : ℕ) → f < 6
    → view w (list_at n f) (get_or w f 0) ≡ view u (list_at n f) (get_or u f 0)
lists_same eps n u w h long counts same f k =
    ap (λ (x : ℕ). view w (list_at n f) x) (counts f k)
    ∙ view_same u w (list_at n f) (get_or u f 0) (omega (arith, list_in n f k, h.size, h.lengths f k)) long
    (λ i r. same (list_at n f + i) (omega arith) (omega (arith, list_in n f k, h.lengths f k)))

-- ---- the search

module _ (eps : Float) (n : ℕ) (w : List ℕ) (h : Holds eps n w) where
  abbrev points : List Point
  points = map (λ c. c.point) (pool_at n w).all

  points_long : length points ≡ count_at w
  points_long = length-map (pool_at n w).all (λ c. c.point) ∙ pool_count n w

  point_is : (c : ℕ) → c < count_at w → get_or points c origin ≡ point_at w (entry_at c)
  point_is c k = get_or-map (λ c. c.point) (pool_at n w).all c no_candidate ∙ ap (λ (x : Candidate). x.point) (pool_at_lem n w c k)

  pub link_is : (e : Candidate) → link_to (key_is w n (words_of (key_of eps e.point))) (up_to (count_at w)) ≡ link_of (place_for (by_key eps) (pool_at n w) e)
  link_is e =
      ap (λ (k : ℕ). link_to (key_is w n (words_of (key_of eps e.point))) (up_to k)) (sym points_long)
      ∙ link_to_is eps e.point points w n
      (λ i k. let r : i < count_at w = omega (arith, points_long) in h.keys i r ∙ ap (λ (p : Point). words_of (key_of eps p)) (sym (point_is i r)))

  pub first_is : (e : Candidate) → first (key_is w n (words_of (key_of eps e.point))) (up_to (count_at w)) ≡ place_for (by_key eps) (pool_at n w) e
  first_is e =
      ap (λ (k : ℕ). first (key_is w n (words_of (key_of eps e.point))) (up_to k)) (sym points_long)
      ∙ found_is eps e.point points w n
      (λ i k. let r : i < count_at w = omega (arith, points_long) in h.keys i r ∙ ap (λ (p : Point). words_of (key_of eps p)) (sym (point_is i r)))

  pub link_low : (e : Candidate) (i : ℕ) → place_for (by_key eps) (pool_at n w) e ≡ Some i → i < count_at w
  link_low e i q = omega (arith, ((key_lawful eps).found e.point points i q).0, points_long)

  pub link_key : (e : Candidate) (i : ℕ) → place_for (by_key eps) (pool_at n w) e ≡ Some i → cell_at w (keys_at n + 3 * i) ≡ words_of (key_of eps e.point)
  unfolding by_key
  link_key e i q =
      let t : Point → Bool = λ p. same_key (key_of eps p) (key_of eps e.point) in
      h.keys i (link_low e i q)
      ∙ words_same (words_of (key_of eps (point_at w (entry_at i)))) (words_of (key_of eps e.point))
      (words_keys eps (point_at w (entry_at i)) e.point
      ∙ ap (λ (p : Point). same_key (key_of eps p) (key_of eps e.point)) (sym (point_is i (link_low e i q)))
      ∙ (link_found t origin points i (places_link t origin points ∙ ap link_of q)).1)

  pub some_room : (e : Candidate) → RoomFor eps n w e → 0 < n
  some_room e room = go (place_for (by_key eps) (pool_at n w) e) refl
    where
      go : (k : Option ℕ) → place_for (by_key eps) (pool_at n w) e ≡ k → 0 < n
      go None q = omega (arith, room q)
      go (Some i) q = omega (arith, link_low e i q, h.table.few)
