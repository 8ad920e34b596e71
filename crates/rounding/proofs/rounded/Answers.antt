use mathlib.Core.Path.{sym, subst}
use mathlib.Core.Bool.{not}
use native.Mathlib.Omega.{arith}
use lib.Dec.{T}
use lib.Ieee.{binary64, fits, is_nan}
use Rattle.root.specs.Doubles.{finite}
use Rattle.rounding.proofs.Rounding.{nan_rounded, not_nan, below_finite, plus, minus, far_plus, far_minus, turned_fits, cast_plus, cast_minus}
use Rattle.rounding.proofs.rounded.Goals.{Else-c-ge-WIDE, Else-x}
use Rattle.rounding.proofs.rounded.Goals as goal

-- past the first test, the argument is no NaN
number : (c : Else-x) → T (not (is_nan c.args.x))
number c = not_nan c.args.x c.if-x.false

-- and below the limit it is finite
bounded : (c : Else-c-ge-WIDE) → T (finite c.args.x)
bounded c = below_finite c.args.x (not_nan c.args.x c.if-x.false) (omega (arith, c.if-c-ge-WIDE.false))

pub returns-then-x : goal.returns-then-x
returns-then-x c = nan_rounded c.args.x c.if-x.true

pub float_to_bits-b : goal.float_to_bits-b
float_to_bits-b c = number (goal.at.float_to_bits-b c).Else-x

pub returns-then-b-lt-SIGN : goal.returns-then-b-lt-SIGN
returns-then-b-lt-SIGN c =
    let held : T (fits binary64 c.args.x) = subst T (sym c.well_formed.0.1) tt in
    let number = number (goal.at.returns-then-b-lt-SIGN c).Else-x in
    let s = c in
    far_plus s.args.x held number c.if-c-ge-WIDE.true (plus s.args.x held number c.if-b-lt-SIGN.true)

pub returns-else-b-lt-SIGN : goal.returns-else-b-lt-SIGN
returns-else-b-lt-SIGN c =
    let held : T (fits binary64 c.args.x) = subst T (sym c.well_formed.0.1) tt in
    let number = number (goal.at.returns-else-b-lt-SIGN c).Else-x in
    let s = c in
    far_minus s.args.x held number c.if-c-ge-WIDE.true (minus s.args.x held number c.if-b-lt-SIGN.false)

pub overflow_sub-result : goal.overflow_sub-result
overflow_sub-result c = turned_fits c.whole_of_bits-n.result c.whole_of_bits-n.ensures.small

pub returns-then-b-lt-SIGN-2 : goal.returns-then-b-lt-SIGN-2
returns-then-b-lt-SIGN-2 c =
    let held : T (fits binary64 c.args.x) = subst T (sym c.well_formed.0.1) tt in
    let number = number (goal.at.returns-then-b-lt-SIGN-2 c).Else-x in
    let bounded = bounded (goal.at.returns-then-b-lt-SIGN-2 c).Else-c-ge-WIDE in
    let w = c in
    let s = w in
    cast_plus s.args.x held bounded w.whole_of_bits-n.result w.whole_of_bits-n.ensures.is w.whole_of_bits-n.ensures.small
    (plus s.args.x held number c.if-b-lt-SIGN-2.true)

pub returns-else-b-lt-SIGN-2 : goal.returns-else-b-lt-SIGN-2
returns-else-b-lt-SIGN-2 c =
    let held : T (fits binary64 c.args.x) = subst T (sym c.well_formed.0.1) tt in
    let number = number (goal.at.returns-else-b-lt-SIGN-2 c).Else-x in
    let bounded = bounded (goal.at.returns-else-b-lt-SIGN-2 c).Else-c-ge-WIDE in
    let w = c in
    let s = w in
    cast_minus s.args.x held bounded w.whole_of_bits-n.result w.whole_of_bits-n.ensures.is w.whole_of_bits-n.ensures.small
    (minus s.args.x held number c.if-b-lt-SIGN-2.false)
