use Rattle.geometry.specs.Boxes.{face_of}
use Rattle.cap_selection.proofs.Reading.{against_down, against_up}
use Rattle.cap_selection.proofs.seeds.is_against.Goals as goal

pub returns-then-w-turned : goal.returns-then-w-turned
returns-then-w-turned c =
    let s = c.args in
    let n = c.numbers_at in
    let t = c.turned_at-turned in
    let x = c.next_side in
    let d = c.down_at in
    let h = c.has_face in
    against_down s.room.n s.room.nf s.room.nc s.w.now s.room.k s.s n.result n.ensures (face_of s.face) t.result x.result t.ensures x.ensures d.result h.result
    d.ensures c.if-w-turned.true h.ensures

pub returns-else-w-turned : goal.returns-else-w-turned
returns-else-w-turned c =
    let s = c.args in
    let n = c.numbers_at in
    let t = c.turned_at-turned in
    let x = c.next_side in
    let u = c.up_at in
    let h = c.has_face-else-w-turned in
    against_up s.room.n s.room.nf s.room.nc s.w.now s.room.k s.s n.result n.ensures (face_of s.face) t.result x.result t.ensures x.ensures u.result h.result
    u.ensures c.if-w-turned.false h.ensures
