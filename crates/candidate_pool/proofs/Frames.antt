-- A room that agrees with another where the pool stands holds the same pool. Assumes nothing.
--   view_kept                a part of a room of which at most m words are there, where these are the same
--   count_same, point_kept, candidate_kept, stored_kept   how many candidates, and what stands for one of them
--   pool_agrees              the pool, if there is room for its candidates
--   pool_same, holds_same    the same of a room that holds its pool
use Prim.Native.Nat.{ℕ, ◌+◌, ◌-◌, ◌*◌, ◌≤◌, ◌<◌, min}
use native.Mathlib.Omega.{arith}
use mathlib.Core.Path.{◌≡◌, sym, ap, subst, ◌∙◌}
use mathlib.Core.List.{List, map}
use lib.ListN.{length, get_or, drop, length-take, length-drop}
use lib.Seq.{ext_get_or}
use lib.Ieee.{Float}
use Rattle.lists.specs.Lists.{up_to}
use Rattle.lists.specs.Regions.{view}
use Rattle.lists.proofs.Regions.{view_at}
use Rattle.geometry.specs.declared.point.Point.{Point}
use Rattle.mesh_weld.specs.Cells.{key_of}
use Rattle.mesh_weld.specs.Room.{words_of}
use Rattle.candidate_pool.specs.Offsets.{entry_at, keys_at, list_at, joined_at}
use Rattle.candidate_pool.specs.Standing.{count_at, point_at, candidate_at, pool_at, PointStored, Tidy, Holds}
use Rattle.candidate_pool.proofs.Reading.{pool_count, pool_at_lem, pool_list, pool_is, candidate_same, list_in, list_few}
use Rattle.candidate_pool.proofs.Putting.{key_same}
use Rattle.candidate_pool.proofs.Placing.{table_kept, point_same, stored_same}

-- it may end before its n-th word
pub view_kept : (u w : List ℕ) (o n m : ℕ) → length w ≡ length u → length (view u o n) ≤ m → ((i : ℕ) → i < m → get_or w (o + i) 0 ≡ get_or u (o + i) 0) →
    view w o n ≡ view u o n
view_kept u w o n m long few same =
    let e : length (view w o n) ≡ length (view u o n) = cut w ∙ ap (λ (x : ℕ). min n (x - o)) long ∙ sym (cut u) in
    ext_get_or 0 (view w o n) (view u o n) e
    (λ i h. let l : length (view u o n) ≤ n = within in
    view_at w o n i (omega arith) ∙ same i (omega arith) ∙ sym (view_at u o n i (omega arith)))
  where
    cut : (v : List ℕ) → length (view v o n) ≡ min n (length v - o)
    cut v = length-take n (drop o v) ∙ ap (min n) (length-drop o v)

    within : length (view u o n) ≤ n
    within = let c = cut u in omega arith

module _ (n : ℕ) (w w' : List ℕ) (long : length w' ≡ length w) (same : (x : ℕ) → x < joined_at n → get_or w' x 0 ≡ get_or w x 0) where
  pub count_same : count_at w' ≡ count_at w
  count_same = same 6 (omega arith)

  module _ (few : count_at w ≤ n) where
    pub point_kept : (c : ℕ) → c < count_at w → point_at w' (entry_at c) ≡ point_at w (entry_at c)
    point_kept c h = point_same w w' (entry_at c) (λ i k. same (entry_at c + i) (omega arith))

    pub candidate_kept : (c : ℕ) → c < count_at w → candidate_at w' c ≡ candidate_at w c
    candidate_kept c h = candidate_same w w' c (λ i k. same (entry_at c + i) (omega arith))

    pub stored_kept : (c : ℕ) → c < count_at w → PointStored w (entry_at c) → PointStored w' (entry_at c)
    stored_kept c h = stored_same w w' (entry_at c) (λ i k. same (entry_at c + i) (omega arith))

    pub pool_agrees : Tidy (pool_at n w) → pool_at n w' ≡ pool_at n w
    unfolding pool_at
    pool_agrees tidy =
        pool_is n w' (map (candidate_at w) (up_to (count_at w))) (λ f. view w (list_at n f) (get_or w f 0))
        (pool_count n w ∙ sym count_same)
        (λ c h. let k : c < count_at w = omega (arith, count_same) in candidate_kept c k ∙ sym (pool_at_lem n w c k))
        (λ f h.
        ap (λ (k : ℕ). view w' (list_at n f) k) (same f (omega arith))
        ∙ view_kept w w' (list_at n f) (get_or w f 0) n long (subst (λ (l : List ℕ). length l ≤ n) (pool_list n w f h) (list_few n w few tidy f h))
        (λ i k. same (list_at n f + i) (omega (arith, list_in n f h))))

module _ (eps : Float) (n : ℕ) (w w' : List ℕ) (H : Holds eps n w) (long : length w' ≡ length w) (same : (x : ℕ) → x < joined_at n → get_or w' x 0 ≡ get_or w x 0) where
  few : count_at w ≤ n
  few = H.table.few

  pub pool_same : pool_at n w' ≡ pool_at n w
  pool_same = pool_agrees n w w' long same few H.tidy

  low : (c : ℕ) → c < count_at w' → c < count_at w
  low c h = omega (arith, count_same n w w' long same)

  pub holds_same : Holds eps n w'
  holds_same =
      record {
        size = omega (arith, H.size);
        table = table_kept n w w' H.table (count_same n w w' long same) long (λ x a b. same x (omega arith));
        keys = λ c h.
            key_same w w' (keys_at n + 3 * c) (λ i k. same (keys_at n + 3 * c + i) (omega (arith, few, low c h)))
            ∙ H.keys c (low c h) ∙ ap (λ (p : Point). words_of (key_of eps p)) (sym (point_kept n w w' long same few c (low c h)));
        stored = λ c h. stored_kept n w w' long same few c (low c h) (H.stored c (low c h));
        masks = λ c h. omega (arith, H.masks c (low c h), same (entry_at c + 4) (omega (arith, few, low c h)));
        lengths = λ f h. omega (arith, H.lengths f h, same f (omega arith));
        tidy = subst Tidy (sym pool_same) H.tidy;
      }
