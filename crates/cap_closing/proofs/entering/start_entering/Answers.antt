use native.Mathlib.Omega.{arith}
use lib.ListN.{set, length-set}
use Rattle.cap_triangles.specs.Room.{closing_at}
use Rattle.cap_closing.proofs.Beginning.{copy_more}
use Rattle.cap_closing.proofs.entering.start_entering.Goals as goal

pub loop-c-preserved : goal.loop-c-preserved
loop-c-preserved c =
    let s = c in
    let a = s.args in
    let b = closing_at a.room.n a.room.nf a.room.nc in
    let R = s.requires in
    let k = length-set a.w.now c.vertices_at.result a.nv in
    let q = R.0 in
    let z = R.1 in
    rw c.entry_at.ensures (
      copy_more b a.room.n (set a.w.now c.vertices_at.result a.nv) (omega arith) c.loop-c.w c.loop-c.c
          (omega arith) (omega arith) c.loop-c.invariant.0 c.given_at-given.result
          c.given_at-given.ensures,
      omega arith,
    )
