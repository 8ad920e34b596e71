use Rattle.candidate_constraints.proofs.Siding.{siding_start, siding_shown, siding_few, siding_turn, siding_end}
use mathlib.Core.List.{List}
use mathlib.Core.Path.{ap}
use lib.ListN.{get_or}
use Rattle.box_faces.specs.declared.uv.Side.{Side}
use native.Mathlib.Omega.{arith}
use Rattle.geometry.specs.Boxes.{face_of}
use Rattle.candidate_constraints.proofs.side.push_sides.Goals as goal

pub loop-side-init : goal.loop-side-init
loop-side-init c = siding_start c.args.clip.extents c.args.clip.eps c.args.room.n (face_of c.args.face) c.args.w.now

pub push_side-c-requires : goal.push_side-c-requires
push_side-c-requires c =
    let s = c in
    let a = s.args in
    let l = c.loop-side in record {
      shown = siding_shown a.clip.extents a.clip.eps a.room.n (face_of a.face) a.w.now s.requires.shown l.w l.c l.side-index l.invariant;
      n_bound = (
        s.requires.n_bound.0,
        siding_few a.clip.extents a.clip.eps a.room.n (face_of a.face) a.w.now s.requires.shown l.w l.c l.side-index l.invariant c.loop-side-test.true,
        omega (arith, s.requires.n_bound.1, l.invariant.pushed.kept.long),
      );
    }

pub loop-side-preserved : goal.loop-side-preserved
loop-side-preserved c =
    let s = c in
    let a = s.args in
    let l = c.loop-side in
    let push-side' = c.push_side-c in
    siding_turn a.clip.extents a.clip.eps a.room.n (face_of a.face) a.w.now s.requires.shown l.w l.c l.side-index l.invariant _
    _ push-side'.result push-side'.new.w c.loop-side-test.true (ap (λ (sides : List Side). get_or sides l.side-index _) c.face_boundary_sides-side-items.ensures)
    push-side'.ensures

pub returns : goal.returns
returns c =
    let s = c in
    let a = s.args in
    siding_end a.clip.extents a.clip.eps a.room.n (face_of a.face) a.w.now s.requires.shown c.loop-side.w c.loop-side.c c.loop-side.side-index c.loop-side.invariant
    c.loop-side-test.false
