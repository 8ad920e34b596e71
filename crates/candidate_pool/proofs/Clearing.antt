-- The room of no candidate. Assumes nothing.
--   cleared   with the counts and the heads and tails of the chains cleared, the room holds no candidate
use Prim.Native.Nat.{ℕ, ◌+◌, ◌*◌, ◌≤◌, ◌<◌}
use native.Mathlib.Omega.{arith}
use mathlib.Core.Path.{◌≡◌, sym, ap, subst, ◌∙◌}
use mathlib.Core.List.{List, []}
use lib.ListN.{get_or, length}
use lib.Ieee.{Float}
use Rattle.lists.specs.Regions.{view, PartZeroed}
use Rattle.chains.proofs.Entering.{linked_none}
use Rattle.candidate_pool.specs.Offsets.{keys_at, chain_at, list_at, joined_at, pool_end}
use Rattle.candidate_pool.specs.Pool.{no_pool}
use Rattle.mesh_weld.specs.Room.{cell_at}
use Rattle.candidate_pool.specs.Room.{key_bucket, KeyTable}
use Rattle.candidate_pool.specs.Standing.{count_at, pool_at, Tidy, Cleared}
use Rattle.candidate_pool.proofs.Tidying.{tidy_none}
use Rattle.candidate_pool.proofs.Reading.{pool_is}

module _ (eps : Float) (n : ℕ) (w u t v : List ℕ) (at to : ℕ) (at-is : at ≡ chain_at n) (to_is : to ≡ joined_at n) (small : n < 268435456) (size : pool_end n ≤ length w)
    (counts : PartZeroed w u 0 8) (chains : PartZeroed u t at (2 * n)) (vertices : PartZeroed t v to n) where
  count_zero : (f : ℕ) → f < 8 → get_or v f 0 ≡ 0
  count_zero f h =
      vertices.rest f (λ i r e. omega arith) ∙ chains.rest f (λ i r e. omega arith) ∙ ap (λ (x : ℕ). get_or u x 0) (omega arith) ∙ counts.zero f h

  chain_zero : (i : ℕ) → i < n + n → get_or v (chain_at n + i) 0 ≡ 0
  chain_zero i h = vertices.rest (chain_at n + i) (λ j r e. omega arith) ∙ ap (λ (x : ℕ). get_or t (x + i) 0) (sym at-is) ∙ chains.zero i (omega arith)

  long : length v ≡ length w
  long = vertices.long ∙ chains.long ∙ counts.long

  none : (c : ℕ) → c < count_at v → ⊥
  none c h = omega (arith, count_zero 6 (omega arith))

  pool : pool_at n v ≡ no_pool
  pool =
      pool_is n v [] (λ f. []) (sym (count_zero 6 (omega arith))) (λ c h. absurd (none c h))
      (λ f h. ap (λ (k : ℕ). view v (list_at n f) k) (count_zero f (omega arith)))

  table : KeyTable v n (count_at v)
  table =
      subst (λ (k : ℕ). KeyTable v n k) (sym (count_zero 6 (omega arith)))
      (record {
        small = small;
        room = omega (arith, long);
        few = omega arith;
        linked = linked_none (λ i. key_bucket n (cell_at v (keys_at n + 3 * i))) v (chain_at n) n (omega (arith, long)) chain_zero;
      })

  pub cleared : Cleared eps n w v
  cleared =
      record {
        pool = pool;
        holds =
            record {
              size = omega (arith, long);
              table = table;
              keys = λ c h. absurd (none c h);
              stored = λ c h. absurd (none c h);
              masks = λ c h. absurd (none c h);
              lengths = λ f h. omega (arith, count_zero f (omega arith));
              tidy = subst Tidy (sym pool) tidy_none;
            };
        joined = λ i h. ap (λ (x : ℕ). get_or v (x + i) 0) (sym to_is) ∙ vertices.zero i h;
        long = long;
        rest = λ x h. vertices.rest x (λ i r e. omega arith) ∙ chains.rest x (λ i r e. omega arith) ∙ counts.rest x (λ i r e. omega arith);
      }
