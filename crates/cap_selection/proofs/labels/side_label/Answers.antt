use Rattle.cap_selection.proofs.Reading.{label_open, label_shared}
use Rattle.cap_selection.proofs.labels.side_label.Goals as goal

pub returns-then-is_open_pair : goal.returns-then-is_open_pair
returns-then-is_open_pair c =
    let s = c.args in
    let n = c.numbers_at in
    let o = c.is_open_pair in
    label_open s.room.n s.room.nf s.room.nc s.w.now s.room.k s.s n.result n.ensures o.result o.ensures c.if-is_open_pair.true

pub returns-else-is_open_pair : goal.returns-else-is_open_pair
returns-else-is_open_pair c =
    let s = c.args in
    let n = c.numbers_at in
    let o = c.is_open_pair in
    label_shared s.room.n s.room.nf s.room.nc s.w.now s.room.k s.s n.result n.ensures o.result o.ensures c.if-is_open_pair.false
