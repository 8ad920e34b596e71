use Rattle.candidate_constraints.proofs.Pairing.{nearing_start, near_named, nearing_named, nearing_end}
use native.Mathlib.Omega.{arith}
use Prim.Native.Nat.{◌+◌, ◌*◌, ◌<◌}
use lib.ListN.{length}
use Rattle.candidate_constraints.proofs.side.push_neighbours.Goals.{In-loop-j}
use Rattle.geometry.specs.Boxes.{face_of}
use Rattle.candidate_constraints.proofs.side.push_neighbours.Goals as goal

-- the two places that a turn reads, and the pair that it writes
turn_in : (c : In-loop-j) → (c.side_at-at.result + 2 * c.loop-j.j + 3 < length c.loop-j.w)
    × (c.pairs_at-pairs.result + 2 * c.loop-j.c + 1 < length c.loop-j.w)
turn_in c =
    let l = c.loop-j in
    let o = l.invariant.0 in (
      omega (arith, c.requires.bounds, o.within, o.pushed.kept.long, l.invariant.1, c.loop-j-test.true),
      omega (arith, c.requires.bounds, o.sum, o.pushed.kept.long, l.invariant.2, c.loop-j-test.true),
    )

pub loop-j-init : goal.loop-j-init
loop-j-init c =
    let s = c in
    let a = s.args in
    (nearing_start a.room.n (face_of a.face) a.m a.count a.w.now, c.side_at-at.ensures, c.pairs_at-pairs.ensures)

pub put_pair-requires : goal.put_pair-requires
put_pair-requires c =
    let turn_in = turn_in (goal.at.put_pair-requires c).In-loop-j in
    let s = c in
    let loop' = c.loop-j in
    let places = near_named s.args.room.n (face_of s.args.face) s.args.m s.args.count s.args.w.now s.requires.bounds.0 s.requires.bounds.1 loop'.w loop'.c loop'.j
    loop'.invariant.0
    c.side_at-at.result loop'.invariant.1 s.requires.low_places (omega (arith, c.loop-j-test.true)) in
    (omega (arith, turn_in), places.0, places.1)

pub loop-j-preserved : goal.loop-j-preserved
loop-j-preserved c =
    let s = c in
    let a = s.args in
    let l = c.loop-j in
    let put-pair' = c.put_pair in (
      nearing_named a.room.n (face_of a.face) a.m a.count a.w.now s.requires.bounds.0 s.requires.bounds.1 l.w l.c l.j l.invariant.0
          c.side_at-at.result
          c.pairs_at-pairs.result put-pair'.new.w l.invariant.1 l.invariant.2
          (omega (arith, c.loop-j-test.true)) put-pair'.ensures,
      l.invariant.1,
      l.invariant.2,
    )

pub returns : goal.returns
returns c =
    let s = c in
    let a = s.args in
    nearing_end a.room.n (face_of a.face) a.m a.count a.w.now s.requires.bounds.0 s.requires.bounds.1 c.loop-j.w c.loop-j.c c.loop-j.j
    c.loop-j.invariant.0 (omega (arith, c.loop-j-test.false))
