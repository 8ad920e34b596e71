use native.Mathlib.Omega.{arith}
use mathlib.Core.Path.{sym, ◌∙◌}
use lib.ListN.{length}
use Rattle.lists.specs.Lists.{up_to}
use Rattle.lists.proofs.Places.{length_up, at_up}
use Rattle.words.proofs.Overlay.{writing_start, writing_turn, writing_end, overlay_whole}
use Rattle.components.proofs.own.Goals as goal

pub loop-i-init : goal.loop-i-init
loop-i-init c = let n = length c.args.links.now in writing_start (up_to n) c.args.links.now (let e = length_up 0 n in omega arith)

pub loop-i-preserved : goal.loop-i-preserved
loop-i-preserved c =
    let l = c.loop-i in
    let n = length c.args.links.now in
    let e = length_up 0 n in
    writing_turn (up_to n) c.args.links.now l.links l.i 0 l.i l.invariant (omega arith) (sym (at_up 0 n l.i (omega arith) ∙ omega arith))

pub returns : goal.returns
returns c =
    let l = c.loop-i in
    let n = length c.args.links.now in
    let e = length_up 0 n in
    writing_end (up_to n) c.args.links.now l.links l.i l.invariant (omega arith) ∙ overlay_whole (up_to n) c.args.links.now (omega arith)
