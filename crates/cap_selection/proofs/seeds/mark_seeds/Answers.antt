use Prim.Native.Nat.{◌/◌}
use native.Mathlib.Omega.{arith}
use lib.ListN.{length}
use mathlib.Core.Path.{ap, ◌∙◌}
use Rattle.cap_selection.specs.Steps.{marked_seed}
use Rattle.cap_selection.proofs.Marking.{mark_start, mark_turn}
use Rattle.cap_selection.proofs.seeds.mark_seeds.Goals as goal

pub loop-i-init : goal.loop-i-init
loop-i-init c =
    let z = c in
    let s = z.args in
    mark_start s.caps.n s.caps.nf (length s.caps.list.now / 4) s.caps.k s.caps.list.now s.w.now z.requires

pub loop-i-preserved : goal.loop-i-preserved
loop-i-preserved c =
    let z = c in
    let s = z.args in
    let l = c.loop-i in
    mark_turn s.caps.n s.caps.nf (length s.caps.list.now / 4) s.caps.k s.caps.list.now s.w.now z.requires l.w l.i (omega arith) l.invariant
    c.mark_seed.new.w
    (c.mark_seed.ensures ∙ ap (marked_seed s.caps.n s.caps.nf (length s.caps.list.now / 4) s.caps.k l.w l.i) c.supplied_face.ensures)
