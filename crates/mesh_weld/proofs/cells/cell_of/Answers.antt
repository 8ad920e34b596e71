use mir.ValLaws.{to_z-of_z}
use mir.Syntax.{w64}
use Rattle.rounding.specs.Rounding.{key_word}
use Rattle.mesh_weld.specs.Cells.{key_of}
use Rattle.mesh_weld.proofs.Words.{cell_is}
use mathlib.Core.Path.{ap, ◌∙◌}
use Rattle.mesh_weld.proofs.cells.cell_of.Goals as goal

pub returns : goal.returns
unfolding key_of
returns c =
    cell_is (c.key_word.ensures ∙ ap key_word
    (to_z-of_z w64 c.quantized_key.result (record { sfits = c.quantized_key.type_inv })) ∙ ap key_word
    c.quantized_key.ensures)
    (c.key_word-2.ensures ∙ ap key_word (to_z-of_z w64 c.quantized_key-2.result
    (record { sfits = c.quantized_key-2.type_inv })) ∙ ap key_word c.quantized_key-2.ensures)
    (c.key_word-3.ensures ∙ ap key_word (to_z-of_z w64 c.quantized_key-3.result (record { sfits = c.quantized_key-3.type_inv })) ∙ ap key_word
    c.quantized_key-3.ensures)
