use native.Mathlib.Omega.{arith}
use lib.ListN.{get_or}
use mathlib.Core.Bool.{false}
use mathlib.Core.Path.{◌≡◌, refl}
use Prim.Native.Nat.{◌+◌, ◌≤◌}
use Rattle.std.specs.Float.{binary64}
use Rattle.std.specs.Float.Ieee.{nan_bits}
use Rattle.replay.proofs.Deciding.{part_each, both, ends}
use Rattle.replay.proofs.requests.has_numbers.Goals as goal

pub returns : goal.returns
returns c =
    let w = c.args.request.words.now in
    let laid = c.args.request.laid in
    let v = get_or w 2 0 in
    let f = get_or w 3 0 in
    let mode = part_each (λ x. x ≤ 4294967295) w 5 6 1 refl (omega (arith, laid.head)) c.are_few.ensures in
    let plain = part_each (λ x. nan_bits binary64 x ≡ false) w 6 14 8 refl (omega (arith, laid.head)) c.are_numbers.ensures in
    let coordinates = part_each (λ x. nan_bits binary64 x ≡ false) w 32 (32 + v) v (omega arith) (omega (arith, laid.whole)) c.are_numbers-2.ensures in
    let narrow = part_each (λ x. x ≤ 4294967295) w (32 + v) (32 + v + f) f (omega arith) (omega (arith, laid.whole)) c.are_few-2.ensures in
    ends _ (both (both (both mode plain) coordinates) narrow)
    (λ x. record { mode = x.0.0.0; plain = x.0.0.1; coordinates = x.0.1; narrow = x.1 })
    (λ y. (((y.mode, y.plain), y.coordinates), y.narrow))
