use lib.ListN.{get_or}
use mathlib.Core.Path.{◌≡◌, refl, ap}
use Prim.Native.Nat.{ℕ, ◌+◌, ◌*◌}
use Rattle.lists.proofs.Blocks.{blocks_start, blocks_turn, blocks_room, blocks_long, blocks_end}
use Rattle.cap_outputs.proofs.Blocks.{cap_block}
use native.Mathlib.Omega.{arith}
use Rattle.cap_outputs.proofs.outputs.write_caps.Goals as goal

pub loop-i-init : goal.loop-i-init
loop-i-init c = let a = c.args in (omega arith, blocks_start (cap_block a.w.now a.facets a.firsts) a.out.now a.at _ refl)

pub write_cap-o-requires : goal.write_cap-o-requires
write_cap-o-requires c =
    let a = c.args in
    let r = blocks_room (cap_block a.w.now a.facets a.firsts) a.out.now c.loop-i.out a.at c.loop-i.i c.loop-i.o
    c.loop-i.invariant.1 a.left c.loop-i-test.true c.requires.left_in_bounds_2 in
    let x = c.requires.by_index (3 * c.loop-i.i) (omega arith) in
    let y = c.requires.by_index (3 * c.loop-i.i + 1) (omega arith) in
    let z = c.requires.by_index (3 * c.loop-i.i + 2) (omega arith) in
    let p : a.facets + 3 * c.loop-i.i + 1 ≡ a.facets + (3 * c.loop-i.i + 1) = omega arith in
    let q : a.facets + 3 * c.loop-i.i + 2 ≡ a.facets + (3 * c.loop-i.i + 2) = omega arith in
    let y' = ap (λ (k : ℕ). get_or a.w.now k 0) p in
    let z' = ap (λ (k : ℕ). get_or a.w.now k 0) q in record { facet_in_bounds = (omega arith, omega arith); facet_bound = (x, omega (arith, y, y'), omega (arith, z, z')); first_in_bounds = r }

pub loop-i-preserved : goal.loop-i-preserved
loop-i-preserved c =
    let a = c.args in (
      omega arith,
      blocks_turn (cap_block a.w.now a.facets a.firsts) a.out.now c.loop-i.out a.at
          c.loop-i.i c.loop-i.o c.loop-i.invariant.1 _ _
          c.write_cap-o.ensures.1 c.write_cap-o.ensures.0,
    )

pub shape_of-out : goal.shape_of-out
shape_of-out c =
    let a = c.args in
    blocks_long (cap_block a.w.now a.facets a.firsts) a.out.now c.loop-i.out a.at c.loop-i.i c.loop-i.o c.loop-i.invariant.1

pub returns : goal.returns
returns c =
    let a = c.args in
    blocks_end (cap_block a.w.now a.facets a.firsts) a.out.now c.loop-i.out a.at c.loop-i.i c.loop-i.o c.loop-i.invariant.1
    a.left c.loop-i.invariant.0 c.loop-i-test.false _ refl
