use Rattle.candidate_constraints.proofs.Pairing.{edging_start, edging_shown, edging_roomy, edging_placed, edging_held, edging_next}
use native.Mathlib.Omega.{arith}
use Rattle.candidate_pool.specs.Offsets.{open_edges_at}
use Rattle.geometry.specs.Boxes.{face_of}
use Rattle.geometry.proofs.Faces.{face_in}
use Rattle.candidate_constraints.proofs.pairs.push_open_edges.Goals as goal

pub loop-i-init : goal.loop-i-init
loop-i-init c =
    edging_start c.args.edged.room.n (face_of c.args.face) (open_edges_at c.args.edged.room.n c.args.edged.room.nf) c.args.count c.args.w.now
    c.args.edged.k

pub push_open_edge-c-requires : goal.push_open_edge-c-requires
push_open_edge-c-requires c =
    let s = c in
    let a = s.args in
    let l = c.loop-i in record {
      shown = edging_shown a.edged.room.n (face_of a.face) (open_edges_at a.edged.room.n a.edged.room.nf) a.count a.w.now a.edged.room.nf a.edged.k s.requires.shown s.requires.roomy
          s.requires.placed s.requires.edges_held (face_in s.args.face) (omega (arith, s.requires.few, a.edged.few)) l.w l.c l.i l.invariant;
      roomy = edging_roomy a.edged.room.n (face_of a.face) (open_edges_at a.edged.room.n a.edged.room.nf) a.count a.w.now a.edged.room.nf a.edged.k s.requires.shown s.requires.roomy
          s.requires.placed s.requires.edges_held (face_in s.args.face) (omega (arith, s.requires.few, a.edged.few)) l.w l.c l.i l.invariant;
      placed = edging_placed a.edged.room.n (face_of a.face) (open_edges_at a.edged.room.n a.edged.room.nf) a.count a.w.now a.edged.room.nf a.edged.k s.requires.shown s.requires.roomy
          s.requires.placed s.requires.edges_held (face_in s.args.face) (omega (arith, s.requires.few, a.edged.few)) l.w l.c l.i l.invariant;
      edges_held = edging_held a.edged.room.n (face_of a.face) (open_edges_at a.edged.room.n a.edged.room.nf) a.count a.w.now a.edged.room.nf a.edged.k s.requires.shown s.requires.roomy
          s.requires.placed s.requires.edges_held (face_in s.args.face) (omega (arith, s.requires.few, a.edged.few)) l.w l.c l.i l.invariant c.loop-i-test.true;
      bounds = (
        omega (arith, a.edged.few, c.loop-i-test.true),
        omega (arith, a.edged.few, s.requires.few, l.invariant.pushed.few, c.loop-i-test.true),
      );
    }

pub loop-i-preserved : goal.loop-i-preserved
loop-i-preserved c =
    let s = c in
    let a = s.args in
    let l = c.loop-i in
    let push-open-edge' = c.push_open_edge-c in
    edging_next a.edged.room.n (face_of a.face) (open_edges_at a.edged.room.n a.edged.room.nf) a.count a.w.now a.edged.room.nf a.edged.k s.requires.shown s.requires.roomy
    s.requires.placed s.requires.edges_held (face_in s.args.face) (omega (arith, s.requires.few, a.edged.few)) l.w l.c l.i l.invariant push-open-edge'.new.w push-open-edge'.result
    c.loop-i-test.true push-open-edge'.ensures
