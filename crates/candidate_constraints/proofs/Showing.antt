-- The pool that the room holds, by its words; and that stores beyond these words, which is all that this crate makes, leave it as it is. Assumes nothing.
--   list_low                                        a face's list names candidates
--   in_list                                         a place of a face's list is within the room, by the names that the code has for it
--   pool_same, shown_same, edges_after, held_after  after stores elsewhere
--   holds_shown                                     what `all_constraints` is given
use Prim.Native.Nat.{ℕ, ◌+◌, ◌≤◌, ◌<◌}
use mathlib.Core.List.{List}
use mathlib.Core.Path.{◌≡◌, sym, subst}
use native.Mathlib.Omega.{arith}
use lib.ListN.{length, get_or}
use lib.Ieee.{Float}
use Rattle.candidate_pool.specs.Offsets.{list_at, joined_at, pool_end}
use Rattle.candidate_pool.specs.Pool.{Pool}
use Rattle.candidate_pool.specs.Standing.{count_at, pool_at, Tidy, Holds, edges_at, EdgesHeld}
use Rattle.candidate_pool.proofs.Reading.{pool_count, list_in, list_at_lem, list_length}
use Rattle.candidate_pool.proofs.Frames.{count_same, stored_kept, pool_agrees}
use Rattle.candidate_pool.proofs.Edges.{edges_same, held_same}
use Rattle.candidate_constraints.specs.Steps.{Shown}

-- ---- by the words
pub list_low : (n : ℕ) (w : List ℕ) → Shown n w → (f : ℕ) → f < 6 → (i : ℕ) → i < get_or w f 0 → get_or w (list_at n f + i) 0 < count_at w
list_low n w s f hf i h = omega (arith, sym (list_at_lem n w f i hf h), s.tidy.low f i hf (omega (arith, list_length n w f s.size (s.lengths f hf) hf)), pool_count n w)

pub in_list : (n : ℕ) (w : List ℕ) → Shown n w → (f : ℕ) → f < 6 → (list count i : ℕ) → list ≡ list_at n f → count ≡ get_or w f 0 → i < count
    → (list + i < joined_at n) × (i < n)
in_list n w s f hf list count i a b h = (omega (arith, s.lengths f hf, list_in n f hf), omega (arith, s.lengths f hf))

-- ---- after stores elsewhere
module _ (n : ℕ) (w w' : List ℕ) (s : Shown n w) (long : length w' ≡ length w) (low : (x : ℕ) → x < pool_end n → get_or w' x 0 ≡ get_or w x 0) where
  inner : (x : ℕ) → x < joined_at n → get_or w' x 0 ≡ get_or w x 0
  inner x h = low x (omega arith)

  pub pool_same : pool_at n w' ≡ pool_at n w
  pool_same = pool_agrees n w w' long inner s.few s.tidy

  pub shown_same : Shown n w'
  shown_same =
      record {
        size = omega (arith, s.size);
        few = omega (arith, count_same n w w' long inner, s.few);
        lengths = λ f h. omega (arith, low f (omega arith), s.lengths f h);
        stored = λ c h. let k : c < count_at w = omega (arith, count_same n w w' long inner) in stored_kept n w w' long inner s.few c k (s.stored c k);
        tidy = subst Tidy (sym pool_same) s.tidy;
      }

module _ (w w' : List ℕ) (at k : ℕ) (same : (x : ℕ) → at ≤ x → get_or w' x 0 ≡ get_or w x 0) where
  pub edges_after : edges_at w' at k ≡ edges_at w at k
  edges_after = edges_same w w' at k (λ x h l. same x h)

  pub held_after : (p p' : Pool) → p' ≡ p → EdgesHeld p w at k → EdgesHeld p' w' at k
  held_after p p' e h = subst (λ (q : Pool). EdgesHeld q w' at k) (sym e) (held_same w w' at k (λ x h l. same x h) p h)

pub holds_shown : (eps : Float) (n : ℕ) (w : List ℕ) → Holds eps n w → Shown n w
holds_shown eps n w h = record { size = h.size; few = h.table.few; lengths = h.lengths; stored = h.stored; tidy = h.tidy }
