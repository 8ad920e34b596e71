use Rattle.hypot.proofs.Rounding.{place_even, place_tie, place_more}
use Rattle.hypot.proofs.Halves.placed.Goals as goal

pub returns-then-q-eq0 : goal.returns-then-q-eq0
returns-then-q-eq0 c = place_even _ _ _ c.requires.0 c.requires.1 c.requires.2 c.if-q-eq0.true

pub returns-then-self : goal.returns-then-self
returns-then-self c = place_more _ _ _ c.requires.0 c.requires.1 c.requires.2 c.if-q-eq0.false c.if-self.true

pub returns-else-self : goal.returns-else-self
returns-else-self c = place_tie _ _ _ c.requires.0 c.requires.1 c.requires.2 c.if-q-eq0.false c.if-self.false
