use Rattle.cap_selection.proofs.Tabling.{caps_read, caps_asked, caps_fit, caps_joined}
use Rattle.cap_selection.proofs.labels.join_caps.Goals as goal

pub components-requires : goal.components-requires
components-requires c =
    let s = c.args in
    let p = c.put_labels in
    let split = c.split_at_mut-front in
    let read = caps_read s.room.n s.room.nf s.room.nc s.room.k s.w.now c.requires p.new.w p.ensures split.result.0.now _ _ c.labels_at-labels.ensures c.components_at.ensures
    split.ensures.front in
    record {
      item_labels = caps_asked s.room.n s.room.nf s.room.nc s.room.k s.w.now c.requires p.new.w p.ensures _ read;
      room = caps_fit s.room.n s.room.nf s.room.nc s.room.k s.w.now c.requires p.new.w p.ensures _ read _ _ c.components_at.ensures split.ensures.back;
    }

pub returns : goal.returns
returns c =
    let s = c.args in
    let p = c.put_labels in
    let split = c.split_at_mut-front in
    let read = caps_read s.room.n s.room.nf s.room.nc s.room.k s.w.now c.requires p.new.w p.ensures split.result.0.now _ _ c.labels_at-labels.ensures c.components_at.ensures
    split.ensures.front in
    caps_joined s.room.n s.room.nf s.room.nc s.room.k s.w.now c.requires p.new.w p.ensures _ read _ _ _ _ c.components_at.ensures split.ensures.front split.ensures.back
    c.components.ensures
