use mathlib.Core.Path.{ap, ◌∙◌}
use mathlib.Core.Bool.{false}
use native.Mathlib.Omega.{arith}
use Rattle.std.specs.Prelude.{Some}
use Rattle.std.specs.Option.{option_map}
use Rattle.std.specs.Fmt.{digits, padded_integral, shown_prefix, radix_prefix}
use Rattle.root_steps.proofs.Binary.{in_field, row_of}
use Rattle.root_steps.proofs.spelling.print_row.Goals as goal

pub returns-clause-row : goal.returns-clause-row
returns-clause-row g c =
    row_of c.write.new.self.written _ _ _ c.args.label.now c.args.end.now _ c.args.n c.args.width (omega arith) (omega arith)
    ((λ t.
    option_map (padded_integral (c.laid_out.ensures t) false (shown_prefix (c.laid_out.ensures t) (radix_prefix c.in_radix.result.base))) (c.in_radix.ensures t))
    ∙ ap Some (in_field c.args.width 18446744073709551615 (digits 2 false _))) c.write.ensures.appends
