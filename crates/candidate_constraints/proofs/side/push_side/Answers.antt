use Rattle.candidate_constraints.proofs.Siding.{side_few, side_long, side_low, side_pushed}
use Rattle.sorting.proofs.Sorting.{sorted_part}
use borrow.Rule.Slice.PartMut.{put_mid}
use native.Mathlib.Omega.{arith}
use Prim.Native.Nat.{◌+◌, ◌*◌, ◌-◌}
use Rattle.geometry.specs.Boxes.{face_of}
use Rattle.geometry.proofs.Faces.{face_in}
use Rattle.candidate_constraints.proofs.side.push_side.Goals as goal

pub push_neighbours-requires : goal.push_neighbours-requires
push_neighbours-requires c =
    let s = c in
    let a = s.args in
    let collect-side' = c.collect_side-m in
    let side-at' = c.side_at-at in
    let sort-records' = c.sort_records in record {
      bounds = (
        omega (
          arith,
          side_long a.eps a.room.n (face_of a.face) a.side a.count collect-side'.result a.w.now collect-side'.new.w
              (put_mid side-at'.result (side-at'.result + 4 * collect-side'.result - side-at'.result) collect-side'.new.w sort-records'.new.m) s.requires.shown
              (face_in s.args.face) s.requires.n_bound.0 s.requires.n_bound.1 s.requires.n_bound.2 collect-side'.ensures side-at'.result side-at'.ensures
              (sorted_part collect-side'.new.w sort-records'.new.m side-at'.result collect-side'.result
              (omega (arith, s.requires.n_bound, side-at'.ensures, collect-side'.ensures.few, collect-side'.ensures.kept.long, s.requires.shown.lengths (face_of a.face) (face_in s.args.face)))
              sort-records'.ensures),
          side_few a.eps a.room.n (face_of a.face) a.side a.count collect-side'.result a.w.now collect-side'.new.w
              (put_mid side-at'.result (side-at'.result + 4 * collect-side'.result - side-at'.result) collect-side'.new.w sort-records'.new.m) s.requires.shown
              (face_in s.args.face) s.requires.n_bound.0 s.requires.n_bound.1 s.requires.n_bound.2 collect-side'.ensures side-at'.result side-at'.ensures
              (sorted_part collect-side'.new.w sort-records'.new.m side-at'.result collect-side'.result
              (omega (arith, s.requires.n_bound, side-at'.ensures, collect-side'.ensures.few, collect-side'.ensures.kept.long, s.requires.shown.lengths (face_of a.face) (face_in s.args.face)))
              sort-records'.ensures),
          s.requires.n_bound,
        ),
        side_few a.eps a.room.n (face_of a.face) a.side a.count collect-side'.result a.w.now collect-side'.new.w
            (put_mid side-at'.result (side-at'.result + 4 * collect-side'.result - side-at'.result) collect-side'.new.w sort-records'.new.m) s.requires.shown
            (face_in s.args.face) s.requires.n_bound.0 s.requires.n_bound.1 s.requires.n_bound.2 collect-side'.ensures side-at'.result side-at'.ensures
            (sorted_part collect-side'.new.w sort-records'.new.m side-at'.result collect-side'.result
            (omega (arith, s.requires.n_bound, side-at'.ensures, collect-side'.ensures.few, collect-side'.ensures.kept.long, s.requires.shown.lengths (face_of a.face) (face_in s.args.face)))
            sort-records'.ensures),
        omega (arith, s.requires.n_bound),
      );
      low_places = side_low a.eps a.room.n (face_of a.face) a.side a.count collect-side'.result a.w.now collect-side'.new.w
          (put_mid side-at'.result (side-at'.result + 4 * collect-side'.result - side-at'.result) collect-side'.new.w sort-records'.new.m) s.requires.shown
          (face_in s.args.face) s.requires.n_bound.0 s.requires.n_bound.1 s.requires.n_bound.2 collect-side'.ensures side-at'.result side-at'.ensures
          (sorted_part collect-side'.new.w sort-records'.new.m side-at'.result collect-side'.result
          (omega (arith, s.requires.n_bound, side-at'.ensures, collect-side'.ensures.few, collect-side'.ensures.kept.long, s.requires.shown.lengths (face_of a.face) (face_in s.args.face)))
          sort-records'.ensures);
    }

pub returns : goal.returns
returns c =
    let s = c in
    let a = s.args in
    let collect-side' = c.collect_side-m in
    let side-at' = c.side_at-at in
    let sort-records' = c.sort_records in
    let push-neighbours' = c.push_neighbours in
    side_pushed a.eps a.room.n (face_of a.face) a.side a.count collect-side'.result a.w.now collect-side'.new.w
    (put_mid side-at'.result (side-at'.result + 4 * collect-side'.result - side-at'.result) collect-side'.new.w sort-records'.new.m) s.requires.shown
    (face_in s.args.face) s.requires.n_bound.0 s.requires.n_bound.1 s.requires.n_bound.2 collect-side'.ensures side-at'.result side-at'.ensures
    (sorted_part collect-side'.new.w sort-records'.new.m side-at'.result collect-side'.result
    (omega (arith, s.requires.n_bound, side-at'.ensures, collect-side'.ensures.few, collect-side'.ensures.kept.long, s.requires.shown.lengths (face_of a.face) (face_in s.args.face)))
    sort-records'.ensures) push-neighbours'.new.w push-neighbours'.result push-neighbours'.ensures
