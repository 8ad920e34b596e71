use Rattle.candidate_constraints.proofs.Listing.{shown1, shown2, roomy2, placed2, held2, few2, pairs_listed}
use native.Mathlib.Omega.{arith}
use Rattle.geometry.specs.Boxes.{face_of}
use Rattle.geometry.proofs.Faces.{face_in}
use Rattle.candidate_constraints.proofs.constraints.list_pairs.Goals as goal

pub push_sides-c-requires : goal.push_sides-c-requires
push_sides-c-requires c =
    let s = c in
    let a = s.args in
    let note-places' = c.note_places in record {
      shown = shown1 a.clip.extents a.clip.eps a.edged.room.n a.edged.room.nf a.edged.k (face_of a.face) a.w.now note-places'.new.w s.requires.shown s.requires.roomy
          s.requires.edges_held (face_in s.args.face) a.edged.few note-places'.ensures.0 note-places'.ensures.1;
      n_bound = (s.requires.roomy.small, omega (arith, s.requires.roomy.room, note-places'.ensures.0.long));
    }

pub push_open_edges-requires : goal.push_open_edges-requires
push_open_edges-requires c =
    let s = c in
    let a = s.args in
    let note-places' = c.note_places in
    let push-sides' = c.push_sides-c in record {
      shown = shown2 a.clip.extents a.clip.eps a.edged.room.n a.edged.room.nf a.edged.k (face_of a.face) a.w.now note-places'.new.w s.requires.shown s.requires.roomy
          s.requires.edges_held (face_in s.args.face) a.edged.few note-places'.ensures.0 note-places'.ensures.1 push-sides'.new.w push-sides'.result push-sides'.ensures;
      roomy = roomy2 a.clip.extents a.clip.eps a.edged.room.n a.edged.room.nf a.edged.k (face_of a.face) a.w.now note-places'.new.w s.requires.shown s.requires.roomy
          s.requires.edges_held (face_in s.args.face) a.edged.few note-places'.ensures.0 note-places'.ensures.1 push-sides'.new.w push-sides'.result push-sides'.ensures;
      placed = placed2 a.clip.extents a.clip.eps a.edged.room.n a.edged.room.nf a.edged.k (face_of a.face) a.w.now note-places'.new.w s.requires.shown s.requires.roomy
          s.requires.edges_held (face_in s.args.face) a.edged.few note-places'.ensures.0 note-places'.ensures.1 push-sides'.new.w push-sides'.result push-sides'.ensures;
      edges_held = held2 a.clip.extents a.clip.eps a.edged.room.n a.edged.room.nf a.edged.k (face_of a.face) a.w.now note-places'.new.w s.requires.shown s.requires.roomy
          s.requires.edges_held (face_in s.args.face) a.edged.few note-places'.ensures.0 note-places'.ensures.1 push-sides'.new.w push-sides'.result push-sides'.ensures;
      few = few2 a.clip.extents a.clip.eps a.edged.room.n a.edged.room.nf a.edged.k (face_of a.face) a.w.now note-places'.new.w s.requires.shown s.requires.roomy
          s.requires.edges_held (face_in s.args.face) a.edged.few note-places'.ensures.0 note-places'.ensures.1 push-sides'.new.w push-sides'.result
          push-sides'.ensures;
    }

pub returns : goal.returns
returns c =
    let s = c in
    let a = s.args in
    let note-places' = c.note_places in
    let push-sides' = c.push_sides-c in
    let push-open-edges' = c.push_open_edges in
    pairs_listed a.clip.extents a.clip.eps a.edged.room.n a.edged.room.nf a.edged.k (face_of a.face) a.w.now note-places'.new.w s.requires.shown s.requires.roomy s.requires.edges_held
    (face_in s.args.face)
    a.edged.few note-places'.ensures.0 note-places'.ensures.1 push-sides'.new.w push-sides'.result push-sides'.ensures push-open-edges'.new.w
    push-open-edges'.result push-open-edges'.ensures
