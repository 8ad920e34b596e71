use lib.ListN.{length}
use lib.Seq.{sets}
use mathlib.Core.List.{[], ◌∷◌}
use mathlib.Core.Path.{refl, ◌∙◌}
use native.Mathlib.Omega.{arith}
use Rattle.candidate_outputs.proofs.Blocks.{key_block, keys_are, keys_long}
use Rattle.lists.proofs.Blocks.{blocks_start, blocks_turn, blocks_room, blocks_long, blocks_end}
use Rattle.candidate_outputs.proofs.outputs.write_constraints.Goals as goal

pub loop-i-init : goal.loop-i-init
loop-i-init c = let a = c.args in (omega arith, blocks_start (key_block a.keys.now) a.out.now 0 _ refl)

pub write_three-requires : goal.write_three-requires
write_three-requires c =
    let a = c.args in
    let l = keys_long a.keys.now in
    let r = blocks_room (key_block a.keys.now) a.out.now c.loop-i.out 0
    c.loop-i.i c.loop-i.o
    c.loop-i.invariant.1 (length a.keys.now) c.loop-i-test.true
    (omega (arith, l, c.requires)) in
    omega (arith, r)

pub overflow_add-o : goal.overflow_add-o
overflow_add-o c =
    let a = c.args in
    let l = keys_long a.keys.now in
    let r = blocks_room (key_block a.keys.now) a.out.now c.loop-i.out 0
    c.loop-i.i c.loop-i.o
    c.loop-i.invariant.1 (length a.keys.now)
    c.loop-i-test.true
    (omega (arith, l, c.requires)) in
    omega (
      arith,
      r,
      blocks_long (key_block a.keys.now) a.out.now c.loop-i.out 0
          c.loop-i.i c.loop-i.o
          c.loop-i.invariant.1,
    )

pub loop-i-preserved : goal.loop-i-preserved
loop-i-preserved c =
    let a = c.args in (
      omega arith,
      blocks_turn (key_block a.keys.now) a.out.now c.loop-i.out 0
          c.loop-i.i c.loop-i.o
          c.loop-i.invariant.1 _ _
          (c.write_three.ensures ∙ (λ t. sets c.loop-i.out
          c.loop-i.o
          ((c.unpack_triple-a.ensures t).0 ∷ (c.unpack_triple-a.ensures t).1 ∷ (c.unpack_triple-a.ensures t).2 ∷ []))) refl,
    )

pub returns : goal.returns
returns c =
    let a = c.args in
    blocks_end (key_block a.keys.now) a.out.now c.loop-i.out 0 c.loop-i.i c.loop-i.o c.loop-i.invariant.1 (length a.keys.now)
    c.loop-i.invariant.0 c.loop-i-test.false _ (keys_are a.keys.now)
