use Prim.Native.Nat.{ℕ, ◌+◌, ◌<◌}
use mathlib.Core.Path.{ap}
use lib.ListN.{get_or, length}
use native.Mathlib.Omega.{arith}
use Rattle.candidate_constraints.proofs.Noting.{noted_low, noting_named, noting_end}
use Rattle.candidate_constraints.proofs.places.note_places.Goals.{In-loop-i}
use Rattle.geometry.specs.Boxes.{face_of}
use Rattle.geometry.proofs.Faces.{face_in}
use Rattle.candidate_constraints.proofs.places.note_places.Goals as goal

-- the word that a turn writes
write-in : (c : In-loop-i) → c.places_at-places.result + get_or c.loop-i.w (c.list_at-list.result + c.loop-i.i) 0 < length c.loop-i.w
write-in c =
    let s = c in
    let l = c.loop-i in
    let h = noted_low s.args.room.n (face_of s.args.face) s.args.w.now s.requires.shown (face_in s.args.face) s.requires.fits l.w l.i l.invariant.0
    (omega (arith, l.invariant.3, c.loop-i-test.true)) in
    omega (arith, h, ap (λ (x : ℕ). get_or l.w (x + l.i) 0) l.invariant.1, l.invariant.2, l.invariant.0.kept.long, s.requires.fits)

pub overflow_add-w : goal.overflow_add-w
overflow_add-w c =
    let write-in = write-in (goal.at.overflow_add-w c).In-loop-i in
    omega (arith, write-in, c.candidate_of_place-id.ensures)

pub offset_bounds-w-places : goal.offset_bounds-w-places
offset_bounds-w-places c =
    let write-in = write-in (goal.at.offset_bounds-w-places c).In-loop-i in
    omega (arith, write-in, c.candidate_of_place-id.ensures)

pub bounds-w-places : goal.bounds-w-places
bounds-w-places c =
    let write-in = write-in (goal.at.bounds-w-places c).In-loop-i in
    omega (arith, write-in, c.candidate_of_place-id.ensures)

pub loop-i-preserved : goal.loop-i-preserved
loop-i-preserved c =
    let s = c in
    let loop' = c.loop-i in (
      rw c.candidate_of_place-id.ensures (noting_named s.args.room.n (face_of s.args.face) s.args.w.now s.requires.shown (face_in s.args.face) s.requires.fits loop'.w loop'.i
          loop'.invariant.0
          c.list_at-list.result c.places_at-places.result loop'.invariant.1
          loop'.invariant.2 (omega (arith, loop'.invariant.3, c.loop-i-test.true))),
      loop'.invariant.1,
      loop'.invariant.2,
      loop'.invariant.3,
    )

pub returns : goal.returns
returns c =
    let s = c in
    let loop' = c.loop-i in
    noting_end s.args.room.n (face_of s.args.face) s.args.w.now s.requires.shown (face_in s.args.face) s.requires.fits loop'.w loop'.i loop'.invariant.0
    (omega (arith, loop'.invariant.3, c.loop-i-test.false))
