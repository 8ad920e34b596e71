use Rattle.lists.proofs.Bools.{and_next, and_stop}
use borrow.Author.Tests.{eq-eqb, ne_eqb}
use lib.Ieee.{nan_bits}
use mathlib.Core.Path.{sym, refl, ◌∙◌}
use Rattle.replay.proofs.layout.is_nan.Goals as goal

pub returns-then-word-eq2047 : goal.returns-then-word-eq2047
unfolding nan_bits
returns-then-word-eq2047 c = sym (and_next _ _ _ (eq-eqb _ _ c.if-word-eq2047.true) refl)

pub returns-else-word-eq2047 : goal.returns-else-word-eq2047
unfolding nan_bits
returns-else-word-eq2047 c = ne_eqb _ _ c.if-word-eq2047.false ∙ sym (and_stop _ _ (ne_eqb _ _ c.if-word-eq2047.false))
