use Rattle.cap_pairs.proofs.Rows.{row_start, row_fits, row_stop, row_more, row_end}
use Rattle.box_faces.specs.Faces.{bit_count}
use lib.ListN.{get_or}
use mathlib.Core.Path.{refl, sym, ◌∙◌}
use Prim.Native.Nat.{◌+◌, ◌*◌}
use native.Mathlib.Omega.{arith}
use Rattle.cap_pairs.proofs.missing.missing_place.Goals as goal

pub loop-i-init : goal.loop-i-init
loop-i-init c =
    let a = c.args in
    row_start a.caps.n a.caps.nf a.caps.k a.caps.list.now a.w.now c.requires.cap_ready c.requires.pairs_known

pub overflow_add-result : goal.overflow_add-result
overflow_add-result c =
    let a = c.args in
    let l = c.loop-i in
    let e = c.open_edges_at-edges in
    let m = c.numbers_at-numbers in
    let h = c.held_at-held in
    let f = c.in-Some in
    omega (
      arith,
      row_fits a.caps.n a.caps.nf a.caps.k a.caps.list.now a.w.now c.requires.cap_ready c.requires.pairs_known l.place l.i l.invariant c.loop-i-test.true e.result m.result h.result
          e.ensures m.ensures h.ensures f.before (bit_count (get_or a.w.now (e.result + 3 * l.i + 2) 0)) f.ensures.0 refl,
      f.ensures.1,
    )

pub returns-in-Some : goal.returns-in-Some
returns-in-Some c =
    let a = c.args in
    let l = c.loop-i in
    let e = c.open_edges_at-edges in
    let m = c.numbers_at-numbers in
    let h = c.held_at-held in
    let f = c.in-Some in
    row_stop a.caps.n a.caps.nf a.caps.k a.caps.list.now a.w.now c.requires.cap_ready c.requires.pairs_known l.place l.i l.invariant c.loop-i-test.true e.result m.result h.result
    e.ensures m.ensures h.ensures f.before (bit_count (get_or a.w.now (e.result + 3 * l.i + 2) 0)) f.ensures.0 refl f.ensures.1

pub overflow_add-place : goal.overflow_add-place
overflow_add-place c =
    let a = c.args in
    let l = c.loop-i in
    let e = c.open_edges_at-edges in
    let m = c.numbers_at-numbers in
    let h = c.held_at-held in
    let n = c.len-place in
    omega (
      arith,
      row_fits a.caps.n a.caps.nf a.caps.k a.caps.list.now a.w.now c.requires.cap_ready c.requires.pairs_known l.place l.i l.invariant c.loop-i-test.true e.result m.result h.result
          e.ensures m.ensures h.ensures n.result n.result (n.ensures ∙ sym c.in_default.ensures) n.ensures,
    )

pub loop-i-preserved : goal.loop-i-preserved
loop-i-preserved c =
    let a = c.args in
    let l = c.loop-i in
    let e = c.open_edges_at-edges in
    let m = c.numbers_at-numbers in
    let h = c.held_at-held in
    let n = c.len-place in
    row_more a.caps.n a.caps.nf a.caps.k a.caps.list.now a.w.now c.requires.cap_ready c.requires.pairs_known l.place l.i l.invariant c.loop-i-test.true e.result m.result h.result
    e.ensures m.ensures h.ensures n.result n.result (n.ensures ∙ sym c.in_default.ensures) n.ensures refl

pub returns : goal.returns
returns c =
    let a = c.args in
    let l = c.loop-i in
    (row_end a.caps.n a.caps.nf a.caps.k a.caps.list.now a.w.now c.requires.cap_ready c.requires.pairs_known l.place l.i l.invariant (omega arith)).1
