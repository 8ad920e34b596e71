use Prim.Native.Nat.{◌^◌}
use mathlib.Core.Path.{refl, sym, ◌∙◌}
use native.Mathlib.Omega.{arith}
use lib.ListN.{length-set}
use native.Mathlib.Nat.{not-suc-le-zero}
use Rattle.leaf_exports.proofs.Answering.{answers_more, same_link, place_small}
use Rattle.leaf_exports.proofs.answer.Goals as goal

pub loop-i-init : goal.loop-i-init
loop-i-init c = (omega arith, refl, λ j h. absurd (not-suc-le-zero h))

pub offset_bounds-found-i : goal.offset_bounds-found-i
offset_bounds-found-i c = omega arith

pub bounds-found-i : goal.bounds-found-i
bounds-found-i c = omega arith

pub loop-i-preserved : goal.loop-i-preserved
loop-i-preserved c =
    let l = c.loop-i in
    let s = c.args in
    let e = l.invariant.1 in
    (omega arith, simp length-set (omega arith), answers_more s.keys.now s.asked.now l.found l.i _ (omega arith) l.invariant.2 (same_link _ _ (sym c.link.ensures ∙ c.find_word.ensures)))

pub shape_of-found : goal.shape_of-found
shape_of-found c = omega arith

pub returns : goal.returns
returns c = λ j h. c.loop-i.invariant.2 j (omega arith)

pub link-requires : goal.link-requires
link-requires c = rw c.find_word.ensures (place_small _ c.args.keys.now (2 ^ 63) (omega arith))
