use Rattle.candidate_constraints.proofs.Listing.{face_none, face_listed}
use Rattle.sorting.proofs.Sorting.{sorted_part}
use borrow.Rule.Slice.PartMut.{put_mid}
use native.Mathlib.Omega.{arith}
use Prim.Native.Nat.{ℕ, ◌+◌, ◌*◌, ◌-◌, ◌≤◌, ◌<◌}
use mathlib.Core.Path.{subst}
use lib.ListN.{get_or}
use Rattle.geometry.specs.Boxes.{face_of}
use Rattle.geometry.proofs.Faces.{face_in}
use Rattle.candidate_constraints.proofs.constraints.face_constraints.Goals as goal

pub returns-then-few : goal.returns-then-few
returns-then-few c =
    let s = c in
    let a = s.args in
    face_none a.clip.extents a.clip.eps a.edged.room.n a.edged.room.nf a.edged.k (face_of a.face) a.total a.w.now s.requires.shown s.requires.roomy (face_in s.args.face) s.requires.fits
    (subst (λ (f : ℕ). get_or a.w.now f 0 < 3) c.index.ensures.value (omega (arith, c.if-few.true)))

pub returns : goal.returns
returns c =
    let s = c in
    let a = s.args in
    let list-pairs' = c.list_pairs-c in
    let pairs-at' = c.pairs_at-pairs in
    let sort-records' = c.sort_records in
    let keep-distinct' = c.keep_distinct in
    face_listed a.clip.extents a.clip.eps a.edged.room.n a.edged.room.nf a.edged.k (face_of a.face) a.total a.w.now s.requires.shown s.requires.roomy (face_in s.args.face) s.requires.fits
    list-pairs'.new.w (put_mid pairs-at'.result (pairs-at'.result + 4 * list-pairs'.result - pairs-at'.result) list-pairs'.new.w sort-records'.new.m)
    keep-distinct'.new.w list-pairs'.result keep-distinct'.result pairs-at'.result list-pairs'.ensures pairs-at'.ensures
    (sorted_part list-pairs'.new.w sort-records'.new.m pairs-at'.result list-pairs'.result
    (omega (arith, s.requires.roomy.room, pairs-at'.ensures, list-pairs'.ensures.few, list-pairs'.ensures.kept.long)) sort-records'.ensures)
    (subst (λ (f : ℕ). 3 ≤ get_or a.w.now f 0) c.index.ensures.value (omega (arith, c.if-few.false))) keep-distinct'.ensures
