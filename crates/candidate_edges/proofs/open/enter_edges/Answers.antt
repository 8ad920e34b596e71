use native.Mathlib.Omega.{arith}
use Rattle.candidate_edges.proofs.Passes.{edges_start, edges_turn, edges_end}
use Rattle.candidate_edges.proofs.open.enter_edges.Goals as goal

pub loop-i-init : goal.loop-i-init
loop-i-init c =
    let s = c in
    let a = s.args in
    edges_start a.mesh.vertices.now a.mesh.facets.now a.clip.extents a.clip.eps a.n a.k a.w.now s.requires.mesh_fits s.requires.table_at s.requires.vertices_in s.requires.holds

pub enter_edge-listed-requires : goal.enter_edge-listed-requires
enter_edge-listed-requires c =
    let s = c in record { edges_entering = c.loop-i.invariant.entering; i_in_bounds = (omega (arith, c.loop-i-test.true, s.requires.table_at.count)) }

pub overflow_add-listed : goal.overflow_add-listed
overflow_add-listed c =
    let f = c.requires.mesh_fits in
    let k = c.requires.table_at.within in
    let h = c.loop-i-test.true in
    omega (arith, c.loop-i.invariant.few, c.enter_edge-listed.ensures.few)

pub loop-i-preserved : goal.loop-i-preserved
loop-i-preserved c =
    let s = c in
    let a = s.args in
    let l = c.loop-i in
    let e = c.enter_edge-listed in
    edges_turn a.mesh.vertices.now a.mesh.facets.now a.clip.extents a.clip.eps a.n l.i l.listed e.result a.w.now l.w e.new.w
    (omega (arith, c.loop-i-test.true, s.requires.table_at.count)) l.invariant e.ensures

pub shape_of-w : goal.shape_of-w
shape_of-w c = c.loop-i.invariant.long

pub returns : goal.returns
returns c =
    let s = c in
    let a = s.args in
    let l = c.loop-i in
    edges_end a.mesh.vertices.now a.mesh.facets.now a.clip.extents a.clip.eps a.n l.i a.k l.listed a.w.now l.w s.requires.table_at.count
    (omega (arith, c.loop-i-test.false)) l.invariant
