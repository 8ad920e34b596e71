use Prim.Native.Nat.{ℕ, ◌+◌, ◌*◌, ◌≤◌, ◌<◌}
use mathlib.Core.Path.{◌≡◌, refl, sym, ap, subst, ◌∙◌}
use mathlib.Core.List.{List}
use lib.ListN.{get_or, length}
use native.Mathlib.Omega.{arith}
use Rattle.candidate_pool.specs.Offsets.{entry_at}
use Rattle.candidate_pool.specs.Standing.{point_at}
use Rattle.rounding.specs.Ordering.{order_key}
use Rattle.candidate_constraints.specs.Steps.{Fractioned}
use Rattle.candidate_constraints.proofs.Showing.{in_list}
use Rattle.candidate_constraints.proofs.Along.{Collecting, fraction_one, fraction_none, collecting_start, collected_stored, on_side_no_nan, collecting_named, collecting_end}
use Rattle.candidate_constraints.proofs.side.collect_side.Goals.{In-loop-i, in-Some, in_default}
use Rattle.geometry.specs.Boxes.{face_of}
use Rattle.geometry.proofs.Faces.{face_in}
use Rattle.candidate_constraints.proofs.side.collect_side.Goals as goal

-- the place that a turn reads, the two that it writes, and that no more are kept than were read
turn_in : (c : In-loop-i) → (c.list_at-list.result + c.loop-i.i < length c.loop-i.w)
    × (c.side_at-at.result + 2 * c.loop-i.m + 1 < length c.loop-i.w) × (c.loop-i.m ≤ c.loop-i.i)
turn_in c =
    let s = c in
    let l = c.loop-i in
    let h = in_list s.args.room.n s.args.w.now s.requires.shown (face_of s.args.face) (face_in s.args.face) c.list_at-list.result
    (get_or s.args.w.now (face_of s.args.face) 0) l.i l.invariant.1 refl (omega (arith, l.invariant.3, c.loop-i-test.true)) in
    let e = l.invariant.0.kept.long in
    (omega (arith, h.0, e, s.requires.shown.size), omega (arith, h.1, l.invariant.0.few, l.invariant.2, e, s.requires.fits), l.invariant.0.few)

pub loop-i-init : goal.loop-i-init
loop-i-init c =
    let s = c in (
      collecting_start s.args.eps s.args.room.n (face_of s.args.face) s.args.side s.args.w.now,
      c.list_at-list.ensures,
      c.side_at-at.ensures,
      ap (λ (f : ℕ). get_or s.args.w.now f 0) c.index.ensures.value,
    )

pub point_of-requires : goal.point_of-requires
point_of-requires c =
    let s = c in
    let loop' = c.loop-i in
    rw c.candidate_of_place.ensures (collected_stored s.args.eps s.args.room.n (face_of s.args.face) s.args.side s.args.w.now s.requires.shown (face_in s.args.face) loop'.w
    loop'.m loop'.i loop'.invariant.0
    c.list_at-list.result loop'.invariant.1 (omega (arith, loop'.invariant.3, c.loop-i-test.true)))

pub note_fraction-requires : goal.note_fraction-requires
note_fraction-requires c =
    let turn_in = turn_in (goal.at.note_fraction-requires c).In-loop-i in
    let t = c.candidate_on_face_side in
    (omega (arith, turn_in), on_side_no_nan c.args.eps c.args.side c.project-p.result t.result t.ensures c.in-Some.t c.in-Some.is)

-- a turn leaves r more records
turned : (c : goal.Joined-candidate_on_face_side) (w : List ℕ) (r : ℕ)
    → Fractioned (c.side_at-at.result + 2 * c.loop-i.m) c.candidate_on_face_side.result c.loop-i.i r c.loop-i.w w
    → Collecting c.args.eps c.args.room.n (face_of c.args.face) c.args.side c.args.w.now w (c.loop-i.m + r) (c.loop-i.i + 1)
turned c w r f =
    let a = c.args in
    let l = c.loop-i in
    let read = c.point_of.ensures ∙ ap (λ (d : ℕ). point_at l.w (entry_at d)) c.candidate_of_place.ensures in
    collecting_named a.eps a.room.n (face_of a.face) a.side a.w.now c.requires.shown (face_in c.args.face) l.w l.m l.i l.invariant.0 c.list_at-list.result l.invariant.1
    c.side_at-at.result w c.point_of.result c.project-p.result c.candidate_on_face_side.result r l.invariant.2
    (omega (arith, l.invariant.3, c.loop-i-test.true)) read c.project-p.ensures c.candidate_on_face_side.ensures f

pub loop-i-preserved : goal.loop-i-preserved
loop-i-preserved c =
    let a = c.args in
    let l = c.loop-i in
    let j = c.match-candidate_on_face_side in
    let inside : c.side_at-at.result + 2 * l.m + 1 < length l.w = let turn_in = turn_in (goal.at.loop-i-preserved c).In-loop-i in omega (arith, turn_in) in (
      elim j.branch [
        | in-Some w ↦ rw (w.w-is, w.m-is)
            (turned c w.note_fraction.new.w 1
            (subst (λ (u : List ℕ). Fractioned (c.side_at-at.result + 2 * l.m) c.candidate_on_face_side.result l.i 1 l.w u) (sym w.note_fraction.ensures)
            (fraction_one (c.side_at-at.result + 2 * l.m) l.i c.candidate_on_face_side.result w.in-Some.t (order_key w.in-Some.t) l.w w.in-Some.is refl inside)))
        | in_default w ↦ rw (w.w-is, w.m-is)
            (let none : l.m + 0 ≡ l.m = omega arith in
            subst (λ (m : ℕ). Collecting a.eps a.room.n (face_of a.face) a.side a.w.now l.w m (l.i + 1)) none
            (turned c l.w 0 (fraction_none (c.side_at-at.result + 2 * l.m) l.i c.candidate_on_face_side.result l.w w.in_default.is)))
      ],
      l.invariant.1,
      l.invariant.2,
      l.invariant.3,
    )

pub returns : goal.returns
returns c =
    let s = c in
    let loop' = c.loop-i in
    collecting_end s.args.eps s.args.room.n (face_of s.args.face) s.args.side s.args.w.now s.requires.shown (face_in s.args.face) loop'.w loop'.m loop'.i
    loop'.invariant.0
    (omega (arith, loop'.invariant.3, c.loop-i-test.false))
