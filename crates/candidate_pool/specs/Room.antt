-- What the functions of candidates keep in the work room, of which the outer contract does not speak. For at most n candidates: their keys from keys_at on, three words each, and
-- from chain_at on the bucket chains (crate chains), n heads, n tails and n nexts. Assumes nothing.
--   key_bucket   the bucket of a key
--   KeyTable    the room holds the table of the first `count` candidates by their keys
use Rattle.std.specs.Prelude.{ℕ, ◌+◌, ◌*◌, ◌≤◌, ◌<◌, List, length}
use Rattle.chains.specs.Hash.{bucket_of}
use Rattle.chains.specs.Chains.{Linked}
use Rattle.candidate_pool.specs.Offsets.{keys_at, chain_at, lists_at}
use Rattle.mesh_weld.specs.declared.cells.Cell.{Cell}
use Rattle.mesh_weld.specs.Room.{cell_at}

abbrev pub key_bucket : ℕ → Cell → ℕ
key_bucket n k = bucket_of k.x k.y k.z n

pub record KeyTable (w : List ℕ) (n count : ℕ) : Type 0 where
  pub small : n < 268435456
  pub room : lists_at n ≤ length w
  pub few : count ≤ n
  pub linked : Linked (λ i. key_bucket n (cell_at w (keys_at n + 3 * i))) w (chain_at n) n count
