use lib.ListN.{length}
use mathlib.Core.Path.{refl, ap}
use native.Mathlib.Omega.{arith}
use Rattle.candidate_outputs.proofs.Blocks.{edge_block, edges_are}
use Rattle.lists.proofs.Blocks.{blocks_start, blocks_turn, blocks_room, blocks_long, blocks_end}
use Rattle.candidate_outputs.proofs.outputs.write_edges.Goals as goal

pub loop-i-init : goal.loop-i-init
loop-i-init c = let a = c.args in (omega arith, blocks_start (edge_block a.w.now a.edges) a.out.now 0 _ refl)

pub overflow_mul-i : goal.overflow_mul-i
overflow_mul-i c = omega arith

pub overflow_add-edges : goal.overflow_add-edges
overflow_add-edges c = omega arith

pub write_edge-o-requires : goal.write_edge-o-requires
write_edge-o-requires c =
    let a = c.args in
    let l = ap length (edges_are a.w.now a.edges a.k) in
    let r = blocks_room (edge_block a.w.now a.edges) a.out.now c.loop-i.out 0 c.loop-i.i c.loop-i.o
    c.loop-i.invariant.1 a.k c.loop-i-test.true (omega (arith, l, c.requires.k_in_bounds_2)) in record { edge_in_bounds = omega arith; edge_in_bounds_2 = r }

pub loop-i-preserved : goal.loop-i-preserved
loop-i-preserved c =
    let a = c.args in (
      omega arith,
      blocks_turn (edge_block a.w.now a.edges) a.out.now c.loop-i.out 0
          c.loop-i.i c.loop-i.o c.loop-i.invariant.1 _ _
          c.write_edge-o.ensures.1 c.write_edge-o.ensures.0,
    )

pub shape_of-out : goal.shape_of-out
shape_of-out c =
    let a = c.args in
    blocks_long (edge_block a.w.now a.edges) a.out.now c.loop-i.out 0 c.loop-i.i c.loop-i.o c.loop-i.invariant.1

pub returns : goal.returns
returns c =
    let a = c.args in
    blocks_end (edge_block a.w.now a.edges) a.out.now c.loop-i.out 0 c.loop-i.i c.loop-i.o c.loop-i.invariant.1 a.k
    c.loop-i.invariant.0 c.loop-i-test.false _ (edges_are a.w.now a.edges a.k)
