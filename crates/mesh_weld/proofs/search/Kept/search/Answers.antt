use Rattle.mesh_weld.proofs.Words.{inside, corner_of}
use Rattle.mesh_weld.proofs.Searching.{found_hit, found_miss, found_from, found_end, found_cell}
use native.Mathlib.Omega.{arith}
use Prim.Native.Nat.{◌+◌, ◌*◌}
use mathlib.Core.Path.{sym, ◌∙◌}
use Rattle.mesh_weld.proofs.search.Kept.search.Goals as goal

pub overflow_sub-corner : goal.overflow_sub-corner
overflow_sub-corner c = omega (arith, inside c.args.self.now.eps c.args.p c.args.c c.requires.key_in c.requires.cell_of)

pub overflow_sub-corner-2 : goal.overflow_sub-corner-2
overflow_sub-corner-2 c = omega (arith, inside c.args.self.now.eps c.args.p c.args.c c.requires.key_in c.requires.cell_of)

pub overflow_sub-corner-3 : goal.overflow_sub-corner-3
overflow_sub-corner-3 c = omega (arith, inside c.args.self.now.eps c.args.p c.args.c c.requires.key_in c.requires.cell_of)

pub overflow_add-cell : goal.overflow_add-cell
overflow_add-cell c = omega (arith, inside c.args.self.now.eps c.args.p c.args.c c.requires.key_in c.requires.cell_of)

pub overflow_add-cell-in-loop-z : goal.overflow_add-cell-in-loop-z
overflow_add-cell-in-loop-z c = omega (arith, inside c.args.self.now.eps c.args.p c.args.c c.requires.key_in c.requires.cell_of)

pub overflow_add-cell-in-loop-z-2 : goal.overflow_add-cell-in-loop-z-2
overflow_add-cell-in-loop-z-2 c = omega (arith, inside c.args.self.now.eps c.args.p c.args.c c.requires.key_in c.requires.cell_of)

pub returns : goal.returns
returns c =
    let k = c.args.self.now in
    found_end k.vertices.now k.eps k.n k.count k.room.now k.index c.args.p (corner_of c.args.c) (9 * c.loop-x.x) (omega arith) c.loop-x.invariant
    ∙ found_cell k.vertices.now k.eps k.n k.count k.room.now k.index c.args.c c.args.p k.keys_in c.requires.key_in c.requires.cell_of

pub returns-in-Some : goal.returns-in-Some
returns-in-Some c =
    let k = c.args.self.now in
    found_hit k.vertices.now k.eps k.n k.count k.room.now k.index c.args.p (corner_of c.args.c) c.loop-x.x c.loop-y.y c.loop-z.z
    c.loop-x-test.true c.loop-y-test.true c.loop-z-test.true c.in-Some.k (sym c.in-Some.is ∙ c.search_cell.ensures)
    ∙ sym c.loop-z.invariant
    ∙ found_cell k.vertices.now k.eps k.n k.count k.room.now k.index c.args.c c.args.p k.keys_in c.requires.key_in c.requires.cell_of

pub loop-z-preserved : goal.loop-z-preserved
loop-z-preserved c =
    let k = c.args.self.now in
    let missed = found_miss k.vertices.now k.eps k.n k.count k.room.now k.index c.args.p (corner_of c.args.c) c.loop-x.x c.loop-y.y c.loop-z.z
    c.loop-x-test.true c.loop-y-test.true c.loop-z-test.true (sym c.in_default.is ∙ c.search_cell.ensures) in
    found_from k.vertices.now k.eps k.n k.count k.room.now k.index c.args.p (corner_of c.args.c) (9 * c.loop-x.x + 3 * c.loop-y.y + c.loop-z.z + 1)
    (9 * c.loop-x.x + 3 * c.loop-y.y + (c.loop-z.z + 1)) (omega arith) (c.loop-z.invariant ∙ missed)
