use native.Mathlib.Omega.{arith}
use mathlib.Core.Path.{refl}
use lib.ListN.{get_or}
use Prim.Native.Nat.{◌+◌}
use Rattle.replay.proofs.Agreeing.{lists_decides}
use Rattle.replay.proofs.Filling.{doubles_read, numbers_read}
use Rattle.replay.proofs.requests.with_lists.Goals as goal

pub returns : goal.returns
returns c =
    let w = c.args.request.words.now in
    let v = get_or w 2 0 in
    let f = get_or w 3 0 in
    let laid = c.args.request.laid in
    lists_decides w _ _ v v f _ refl refl refl
    (doubles_read w 32 (32 + v) v (omega arith) (omega (arith, laid.whole)) _ c.read.ensures.long c.read.ensures.read)
    (numbers_read w (32 + v) (32 + v + f) f (omega arith) (omega (arith, laid.whole)) _ c.read-2.ensures.long c.read-2.ensures.read) c.answer_agrees.ensures
