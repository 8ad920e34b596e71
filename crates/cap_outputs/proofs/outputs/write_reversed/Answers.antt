use Rattle.lists.proofs.Blocks.{blocks_start, blocks_turn, blocks_long, blocks_end}
use Rattle.cap_outputs.proofs.Blocks.{reversed_block, reversed_are}
use lib.ListN.{length}
use native.Mathlib.Omega.{arith}
use Prim.Native.Nat.{◌*◌, ◌/◌}
use Rattle.cap_outputs.proofs.outputs.write_reversed.Goals as goal

pub loop-i-init : goal.loop-i-init
loop-i-init c = let a = c.args in (omega arith, blocks_start (reversed_block a.facets.now) a.out.now 0 _ (omega arith))

pub write_three-requires : goal.write_three-requires
write_three-requires c =
    let a = c.args in
    let l = blocks_long (reversed_block a.facets.now) a.out.now c.loop-i.out 0 c.loop-i.i
    (3 * c.loop-i.i) c.loop-i.invariant.1 in
    omega (arith, l, c.requires.1)

pub loop-i-preserved : goal.loop-i-preserved
loop-i-preserved c =
    let a = c.args in (
      omega arith,
      blocks_turn (reversed_block a.facets.now) a.out.now c.loop-i.out 0
          c.loop-i.i (3 * c.loop-i.i)
          c.loop-i.invariant.1 _ _ c.write_three.ensures (omega arith),
    )

pub shape_of-out : goal.shape_of-out
shape_of-out c =
    let a = c.args in
    blocks_long (reversed_block a.facets.now) a.out.now c.loop-i.out 0 c.loop-i.i (3 * c.loop-i.i) c.loop-i.invariant.1

pub returns : goal.returns
returns c =
    let a = c.args in
    blocks_end (reversed_block a.facets.now) a.out.now c.loop-i.out 0 c.loop-i.i (3 * c.loop-i.i) c.loop-i.invariant.1
    (length a.facets.now / 3) c.loop-i.invariant.0 c.loop-i-test.false _ (reversed_are a.facets.now)
