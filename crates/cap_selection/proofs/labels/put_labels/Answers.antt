use Prim.Native.Nat.{ℕ, ◌+◌}
use mathlib.Core.Path.{sym, subst, ◌∙◌}
use native.Mathlib.Omega.{arith}
use lib.ListN.{set}
use Rattle.lists.proofs.Regions.{Filled, filled_more}
use Rattle.cap_selection.specs.Steps.{label_in}
use Rattle.cap_selection.proofs.Same.{label_same}
use Rattle.cap_selection.proofs.Tabling.{labels_above}
use Rattle.cap_selection.proofs.labels.put_labels.Goals as goal

pub loop-s-preserved : goal.loop-s-preserved
loop-s-preserved c =
    let z = c in
    let s = z.args in
    let l = c.loop-s in
    let o = c.labels_at-labels in
    let above = labels_above s.room.n s.room.nf s.room.nc s.room.k s.w.now z.requires l.w o.result l.s o.ensures l.invariant.1 in
    let e = c.side_label.ensures ∙ label_same s.room.n s.room.nf s.room.nc s.room.k s.w.now z.requires l.w above l.s (omega arith) in
    let more = filled_more (label_in s.room.n s.room.nf s.room.nc s.room.k s.w.now) s.w.now l.w o.result l.s (omega arith) l.invariant.1 in
    (omega arith, subst (λ (x : ℕ). Filled (label_in s.room.n s.room.nf s.room.nc s.room.k s.w.now) s.w.now (set l.w (o.result + l.s) x) o.result (l.s + 1)) (sym e) more)
