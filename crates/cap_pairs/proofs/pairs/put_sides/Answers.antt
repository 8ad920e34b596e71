use Rattle.cap_pairs.proofs.Writing.{side_turn}
use native.Mathlib.Omega.{arith}
use mathlib.Core.Path.{refl}
use Prim.Native.Nat.{◌+◌, ◌*◌}
use Rattle.cap_pairs.proofs.pairs.put_sides.Goals as goal

pub loop-s-preserved : goal.loop-s-preserved
loop-s-preserved c =
    let s = c in
    let a = s.args in
    let turned-at' = c.turned_at-turned in
    let records-at' = c.records_at in
    let l = c.loop-s in
    let next-side' = c.next_side in
    let pair-word' = c.pair_word in (
      side_turn a.w.now l.w a.room.n a.room.nf a.room.nc a.room.k turned-at'.result (records-at'.result + 2 * a.room.k) l.s s.requires.tables_for turned-at'.ensures (omega arith)
          l.invariant.0 (omega arith) next-side'.result pair-word'.result (a.room.k + l.s) next-side'.ensures pair-word'.ensures refl,
      omega arith,
    )
