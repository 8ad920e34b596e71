use Prim.Native.Nat.{◌<◌}
use native.Mathlib.Omega.{arith}
use mathlib.Core.Path.{◌∙◌}
use Rattle.candidate_pool.specs.Offsets.{chain_at}
use Rattle.candidate_pool.proofs.Searching.{key_is, key_filed, key_told}
use Rattle.chains.proofs.Walking.{walk_start, walk_low, walk_room, walk_found, walk_turn, walk_less, walk_end}
use Rattle.candidate_pool.proofs.keys.find_key.Goals.{In-Some}
use Rattle.candidate_pool.proofs.keys.find_key.Goals as goal

-- the candidate looked at is one of the first `count`
low : (c : In-Some) → c.in-Some.i < c.args.count
low c =
    let a = c.args in
    walk_low a.w.now (chain_at a.room.n) a.room.n a.count a.b (key_is a.w.now a.room.n a.key) c.loop-here.here c.loop-here.invariant c.in-Some.i c.in-Some.is

pub loop-here-init : goal.loop-here-init
loop-here-init c =
    let a = c.args in
    rw c.first-here.ensures (rw c.chain_at.ensures (walk_start a.w.now (chain_at a.room.n) a.room.n a.count a.b (key_is a.w.now a.room.n a.key)
    (key_filed a.w.now a.room.n a.count a.key a.b c.requires.key_table c.requires.b_value.0) c.requires.b_value.1))

pub overflow_mul-i : goal.overflow_mul-i
overflow_mul-i c = let h = low (goal.at.overflow_mul-i c).In-Some in omega (arith, h, c.requires.key_table.few)

pub overflow_add-keys_at : goal.overflow_add-keys_at
overflow_add-keys_at c = let h = low (goal.at.overflow_add-keys_at c).In-Some in omega (arith, h, c.requires.key_table.few, c.keys_at.ensures)

pub is_key_at-requires : goal.is_key_at-requires
is_key_at-requires c =
    let h = low (goal.at.is_key_at-requires c).In-Some in
    omega (arith, h, c.requires.key_table.room, c.requires.key_table.few, c.keys_at.ensures)

pub returns-then-is_key_at : goal.returns-then-is_key_at
returns-then-is_key_at c =
    let a = c.args in
    walk_found a.w.now (chain_at a.room.n) a.room.n a.count a.b (key_is a.w.now a.room.n a.key) c.loop-here.here c.loop-here.invariant c.in-Some.i c.in-Some.is
    (key_told a.w.now a.room.n a.key c.in-Some.i c.keys_at.result c.is_key_at.result c.keys_at.ensures c.is_key_at.ensures ∙ c.if-is_key_at.true)

pub next-here-requires : goal.next-here-requires
next-here-requires c =
    let a = c.args in
    rw c.chain_at.ensures
    (walk_room a.w.now (chain_at a.room.n) a.room.n a.count a.b (key_is a.w.now a.room.n a.key) c.loop-here.here c.loop-here.invariant c.in-Some.i c.in-Some.is)

pub loop-here-smaller : goal.loop-here-smaller
loop-here-smaller c =
    let a = c.args in
    rw c.next-here.ensures (rw c.chain_at.ensures
    (walk_less a.w.now (chain_at a.room.n) a.room.n a.count a.b (key_is a.w.now a.room.n a.key) c.loop-here.here c.loop-here.invariant c.in-Some.i c.in-Some.is))

pub loop-here-preserved : goal.loop-here-preserved
loop-here-preserved c =
    let a = c.args in
    rw c.next-here.ensures (rw c.chain_at.ensures
    (walk_turn a.w.now (chain_at a.room.n) a.room.n a.count a.b (key_is a.w.now a.room.n a.key) c.loop-here.here c.loop-here.invariant c.in-Some.i c.in-Some.is
    (key_told a.w.now a.room.n a.key c.in-Some.i c.keys_at.result c.is_key_at.result c.keys_at.ensures c.is_key_at.ensures ∙ c.if-is_key_at.false)))

pub returns : goal.returns
returns c =
    let a = c.args in
    walk_end a.w.now (chain_at a.room.n) a.room.n a.count a.b (key_is a.w.now a.room.n a.key) c.loop-here.here c.loop-here.invariant c.in_default.is
