use Rattle.cap_pairs.proofs.Tables.{tables_noted, numbers_noted, zeros_noted, sides_faces, above_all, known}
use Rattle.cap_pairs.proofs.noting.note_faces.Goals as goal

pub note_sides-requires : goal.note_sides-requires
note_sides-requires c =
    let s = c in
    let a = s.args in
    let up-at' = c.up_at in
    let zero-part' = c.zero_part in
    let down-at' = c.down_at in
    let zero-part2' = c.zero_part-2 in
    let held-at' = c.held_at in
    let zero-part3' = c.zero_part-3 in
    let note-edges' = c.note_edges in record {
      tables_for = tables_noted a.caps.n a.caps.nf a.caps.k a.caps.list.now a.w.now s.requires.cap_ready s.requires.pair_numbers zero-part'.new.w zero-part2'.new.w zero-part3'.new.w up-at'.result
          down-at'.result held-at'.result up-at'.ensures down-at'.ensures held-at'.ensures zero-part'.ensures zero-part2'.ensures zero-part3'.ensures
          note-edges'.new.w note-edges'.ensures;
      by_index = numbers_noted a.caps.n a.caps.nf a.caps.k a.caps.list.now a.w.now s.requires.cap_ready s.requires.pair_numbers zero-part'.new.w
          zero-part2'.new.w zero-part3'.new.w up-at'.result down-at'.result held-at'.result up-at'.ensures down-at'.ensures held-at'.ensures
          zero-part'.ensures zero-part2'.ensures zero-part3'.ensures note-edges'.new.w note-edges'.ensures;
      by_index_2 = zeros_noted a.caps.n a.caps.nf a.caps.k a.caps.list.now a.w.now s.requires.cap_ready s.requires.pair_numbers zero-part'.new.w zero-part2'.new.w zero-part3'.new.w
          up-at'.result down-at'.result held-at'.result up-at'.ensures down-at'.ensures held-at'.ensures zero-part'.ensures zero-part2'.ensures
          zero-part3'.ensures note-edges'.new.w note-edges'.ensures;
      by_index_3 = sides_faces a.caps.n a.caps.nf a.caps.k a.caps.list.now a.w.now s.requires.cap_ready s.requires.pair_numbers
          zero-part'.new.w zero-part2'.new.w zero-part3'.new.w up-at'.result down-at'.result held-at'.result up-at'.ensures down-at'.ensures
          held-at'.ensures zero-part'.ensures zero-part2'.ensures zero-part3'.ensures note-edges'.new.w note-edges'.ensures;
    }

pub returns : goal.returns
returns c =
    let s = c in
    let a = s.args in
    let up-at' = c.up_at in
    let zero-part' = c.zero_part in
    let down-at' = c.down_at in
    let zero-part2' = c.zero_part-2 in
    let held-at' = c.held_at in
    let zero-part3' = c.zero_part-3 in
    let note-edges' = c.note_edges in
    let note-sides' = c.note_sides in (
      above_all a.caps.n a.caps.nf a.caps.k a.caps.list.now a.w.now s.requires.cap_ready s.requires.pair_numbers zero-part'.new.w zero-part2'.new.w zero-part3'.new.w up-at'.result
          down-at'.result held-at'.result up-at'.ensures down-at'.ensures held-at'.ensures zero-part'.ensures zero-part2'.ensures zero-part3'.ensures
          note-edges'.new.w note-edges'.ensures note-sides'.new.w note-sides'.ensures,
      known a.caps.n a.caps.nf a.caps.k a.caps.list.now a.w.now s.requires.cap_ready
          s.requires.pair_numbers zero-part'.new.w zero-part2'.new.w zero-part3'.new.w up-at'.result down-at'.result held-at'.result up-at'.ensures down-at'.ensures
          held-at'.ensures zero-part'.ensures zero-part2'.ensures zero-part3'.ensures note-edges'.new.w note-edges'.ensures note-sides'.new.w
          note-sides'.ensures,
    )
