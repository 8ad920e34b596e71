use Rattle.input_tests.specs.Front.{eps_in_range}
use Rattle.input_tests.proofs.Ranges.{contained}
use mathlib.Core.Path.{◌∙◌}
use Rattle.input_tests.proofs.eps_in_range.Goals as goal

pub returns : goal.returns
unfolding eps_in_range
returns c = c.contains.ensures.value ∙ contained c.new.result _ _ _ c.new.ensures.start c.new.ensures.end c.new.ensures.exhausted
