use Prim.Native.Nat.{◌+◌, ◌*◌}
use mathlib.Core.Path.{refl}
use lib.ListN.{get_or}
use Rattle.candidate_pool.specs.Offsets.{keys_at}
use Rattle.mesh_weld.specs.Room.{cell_at}
use Rattle.candidate_pool.specs.Room.{key_bucket}
use Rattle.candidate_pool.specs.Standing.{mesh_word}
use Rattle.candidate_pool.proofs.Putting.{enter_asks, put_all}
use Rattle.candidate_pool.proofs.pool.push_candidate.Goals.{After-keys_at}
use Rattle.candidate_pool.proofs.pool.push_candidate.Goals as goal

pub enter-requires-clause-b_bound : goal.enter-requires-clause-b_bound
enter-requires-clause-b_bound c =
    let s = c in
    let put-point' = c.put_point in
    let entry-at' = c.entry_at in
    let keys-at' = c.keys_at in
    let chain-at' = c.chain_at in
    (enter_asks s.args.w.now s.args.room.n (get_or s.args.w.now 6 0) s.args.entry.p (mesh_word s.args.entry.mesh) s.args.key s.requires.key_table.1 s.requires.bounds.0
    put-point'.new.w put-point'.new.w entry-at'.result keys-at'.result chain-at'.result s.args.b
    put-point'.ensures.0 entry-at'.ensures keys-at'.ensures chain-at'.ensures
    (λ i. key_bucket s.args.room.n (cell_at s.args.w.now (keys_at s.args.room.n + 3 * i))) s.requires.bounds.1 s.requires.key_table.0.linked).1.1

pub returns : goal.returns
returns c =
    let s = c in
    let put-point' = c.put_point in
    let enter' = c.enter in
    let entry-at' = c.entry_at in
    let keys-at' = c.keys_at in
    let chain-at' = c.chain_at in (
      refl,
      put_all s.args.w.now s.args.room.n (get_or s.args.w.now 6 0) s.args.entry.p (mesh_word s.args.entry.mesh) s.args.key s.requires.key_table.1 s.requires.bounds.0
          put-point'.new.w enter'.new.m entry-at'.result keys-at'.result chain-at'.result s.args.b
          put-point'.ensures.0 entry-at'.ensures keys-at'.ensures chain-at'.ensures enter'.ensures,
      put-point'.ensures.1,
    )
