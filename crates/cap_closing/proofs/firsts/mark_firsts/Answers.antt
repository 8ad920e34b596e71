use Rattle.cap_closing.proofs.Marks.{marking_start, marking_turn}
use Rattle.cap_closing.proofs.firsts.mark_firsts.Goals as goal

pub loop-i-init : goal.loop-i-init
loop-i-init c =
    let s = c in
    let a = s.args in
    marking_start a.w.now a.records a.firsts a.left s.requires.left_bound.0 s.requires.left_bound.1 s.requires.sorted_places

pub loop-i-preserved : goal.loop-i-preserved
loop-i-preserved c =
    let s = c in
    let a = s.args in
    let l = c.loop-i in
    let r = c.run_end-end in
    let one = c.put_by_payload in
    let none = c.put_by_payload-in-loop-i in
    marking_turn a.w.now a.records a.firsts a.left s.requires.left_bound.0 s.requires.left_bound.1 s.requires.sorted_places l.w l.count l.i r.result l.invariant r.ensures one.new.m
    none.new.m one.ensures none.ensures
