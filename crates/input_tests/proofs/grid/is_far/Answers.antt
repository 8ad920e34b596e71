use mir.Syntax.{w64}
use mir.ValLaws.{to_z-of_z}
use Rattle.rounding.specs.Rounding.{beyond, far_key}
use mathlib.Core.Path.{ap, ◌∙◌}
use Rattle.input_tests.proofs.grid.is_far.Goals as goal

pub returns : goal.returns
unfolding far_key
returns c =
    c.key_beyond.ensures ∙ ap beyond (to_z-of_z w64 c.quantized_key.result (record { sfits = c.quantized_key.type_inv })) ∙ ap beyond
    c.quantized_key.ensures
