use Rattle.cap_pairs.proofs.Recording.{numbering_turn}
use Rattle.cap_pairs.proofs.pairs.number_records.Goals as goal

pub loop-i-preserved : goal.loop-i-preserved
loop-i-preserved c =
    let s = c in
    let a = s.args in
    let l = c.loop-i in
    let r = c.run_end-end in
    let n = c.put_by_payload in
    numbering_turn a.w.now a.records a.numbers a.p s.requires.sorted_places s.requires.p_bound.0 s.requires.p_bound.1 l.w l.i r.result l.invariant r.ensures n.new.m n.ensures
