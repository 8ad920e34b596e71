use Rattle.lists.proofs.Blocks.{blocks_start, blocks_turn, blocks_room, blocks_long, blocks_end}
use Rattle.cap_outputs.proofs.Blocks.{three, fresh_block, fresh_are, fresh_long}
use Rattle.geometry.specs.declared.point.Point.{Point}
use lib.Seq.{sets}
use lib.ListN.{length}
use native.Mathlib.Omega.{arith}
use mathlib.Core.Path.{ap, ◌∙◌}
use Prim.Native.Nat.{◌+◌, ◌*◌}
use Rattle.cap_outputs.proofs.outputs.write_fresh.Goals as goal

pub loop-i-init : goal.loop-i-init
loop-i-init c = let a = c.args in (omega arith, blocks_start (fresh_block a.w.now a.fresh.now) a.out.now a.at _ (omega arith))

pub point_of-requires : goal.point_of-requires
point_of-requires c = c.requires.by_index c.loop-i.i c.loop-i-test.true

pub write_point-requires : goal.write_point-requires
write_point-requires c =
    let a = c.args in
    let l = ap length (fresh_are a.w.now a.fresh.now) in
    let m = fresh_long a.w.now a.fresh.now in
    let r = blocks_room (fresh_block a.w.now a.fresh.now) a.out.now c.loop-i.out a.at c.loop-i.i
    (a.at + 3 * c.loop-i.i) c.loop-i.invariant.1 (length a.fresh.now) c.loop-i-test.true
    (omega (arith, l, m, c.requires.fits)) in
    omega (arith, r)

pub loop-i-preserved : goal.loop-i-preserved
loop-i-preserved c =
    let a = c.args in (
      omega arith,
      blocks_turn (fresh_block a.w.now a.fresh.now) a.out.now c.loop-i.out a.at
          c.loop-i.i (a.at + 3 * c.loop-i.i)
          c.loop-i.invariant.1 _ _
          (c.write_point.ensures ∙ ap (λ (p : Point). sets c.loop-i.out
          (a.at + 3 * c.loop-i.i) (three p)) c.point_of.ensures) (omega arith),
    )

pub shape_of-out : goal.shape_of-out
shape_of-out c =
    let a = c.args in
    blocks_long (fresh_block a.w.now a.fresh.now) a.out.now c.loop-i.out a.at c.loop-i.i (a.at + 3 * c.loop-i.i) c.loop-i.invariant.1

pub returns : goal.returns
returns c =
    let a = c.args in
    blocks_end (fresh_block a.w.now a.fresh.now) a.out.now c.loop-i.out a.at c.loop-i.i (a.at + 3 * c.loop-i.i) c.loop-i.invariant.1
    (length a.fresh.now) c.loop-i.invariant.0 c.loop-i-test.false _ (fresh_are a.w.now a.fresh.now)
