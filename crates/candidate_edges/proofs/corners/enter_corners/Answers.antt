use native.Mathlib.Omega.{arith}
use Rattle.candidate_edges.proofs.Passes.{corners_start, corners_turn, corners_end}
use Rattle.candidate_edges.proofs.corners.enter_corners.Goals as goal

pub loop-v-init : goal.loop-v-init
loop-v-init c =
    let s = c in
    let a = s.args in
    corners_start a.vertices.now a.clip.extents a.clip.eps a.room.n a.w.now s.requires.holds s.requires.vertices_in s.requires.sourced

pub enter_corner-requires : goal.enter_corner-requires
enter_corner-requires c = record { sources_ready = c.loop-v.invariant.ready; v_in_bounds = c.loop-v-test.true }

pub loop-v-preserved : goal.loop-v-preserved
loop-v-preserved c =
    let s = c in
    let a = s.args in
    let l = c.loop-v in
    let e = c.enter_corner in
    corners_turn a.vertices.now a.clip.extents a.clip.eps a.room.n l.v a.w.now l.w e.new.w c.loop-v-test.true l.invariant e.ensures

pub shape_of-w : goal.shape_of-w
shape_of-w c = c.loop-v.invariant.long

pub returns : goal.returns
returns c =
    let s = c in
    let a = s.args in
    let l = c.loop-v in
    corners_end a.vertices.now a.clip.extents a.clip.eps a.room.n l.v a.w.now l.w (omega (arith, c.loop-v-test.false)) l.invariant
