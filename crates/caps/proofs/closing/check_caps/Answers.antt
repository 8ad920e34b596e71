use Rattle.caps.proofs.Listing.{bad_refused, turned_ready, numbered_ready, noted_ready, missing_refused, all_passed}
use Rattle.caps.proofs.closing.check_caps.Goals as goal

pub bad_cap_place-requires : goal.bad_cap_place-requires
bad_cap_place-requires c = (c.requires.supplied.pooled, c.requires.supplied.fours)

pub returns-in-Some : goal.returns-in-Some
returns-in-Some c =
    let a = c.args in
    let h = c.requires.edges_held in
    bad_refused a.caps.n a.caps.nf a.caps.k a.caps.list.now a.w.now c.requires.supplied h.0 h.1 c.in-Some.place c.in-Some.ensures.0 c.in-Some.ensures.1

pub turn_caps-requires : goal.turn_caps-requires
turn_caps-requires c = record { supplied = c.requires.supplied; good = c.in_default.ensures }

pub number_pairs-requires : goal.number_pairs-requires
number_pairs-requires c =
    let a = c.args in
    let h = c.requires.edges_held in
    turned_ready a.caps.n a.caps.nf a.caps.k a.caps.list.now a.w.now c.requires.supplied h.0 h.1 c.in_default.ensures c.turn_caps.new.w c.turn_caps.ensures.0 c.turn_caps.ensures.1

pub note_faces-requires : goal.note_faces-requires
note_faces-requires c =
    let a = c.args in
    let h = c.requires.edges_held in record {
      cap_ready = numbered_ready a.caps.n a.caps.nf a.caps.k a.caps.list.now a.w.now c.requires.supplied h.0 h.1 c.in_default.ensures c.turn_caps.new.w c.turn_caps.ensures.0
          c.turn_caps.ensures.1 c.number_pairs.new.w c.number_pairs.ensures;
      pair_numbers = c.number_pairs.ensures.numbers;
    }

pub missing_place-requires : goal.missing_place-requires
missing_place-requires c =
    let a = c.args in
    let h = c.requires.edges_held in record {
      cap_ready = noted_ready a.caps.n a.caps.nf a.caps.k a.caps.list.now a.w.now c.requires.supplied h.0 h.1 c.in_default.ensures c.turn_caps.new.w c.turn_caps.ensures.0
          c.turn_caps.ensures.1 c.number_pairs.new.w c.number_pairs.ensures c.note_faces.new.w c.note_faces.ensures.0;
      pairs_known = c.note_faces.ensures.1;
    }

pub returns-in-Some-missing_place : goal.returns-in-Some-missing_place
returns-in-Some-missing_place c =
    let a = c.args in
    let h = c.requires.edges_held in
    let f = c.in-Some-missing_place in
    missing_refused a.caps.n a.caps.nf a.caps.k a.caps.list.now a.w.now c.requires.supplied h.0 h.1 c.in_default.ensures c.turn_caps.new.w c.turn_caps.ensures.0
    c.turn_caps.ensures.1 c.number_pairs.new.w c.number_pairs.ensures c.note_faces.new.w c.note_faces.ensures.0 f.place f.ensures.0 f.ensures.1

pub returns-in-None : goal.returns-in-None
returns-in-None c =
    let a = c.args in
    let h = c.requires.edges_held in
    all_passed a.caps.n a.caps.nf a.caps.k a.caps.list.now a.w.now c.requires.supplied h.0 h.1 c.in_default.ensures c.turn_caps.new.w c.turn_caps.ensures.0
    c.turn_caps.ensures.1 c.number_pairs.new.w c.number_pairs.ensures c.note_faces.new.w c.note_faces.ensures.0 c.in-None.ensures c.note_faces.ensures.1
