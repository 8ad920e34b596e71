-- A grid that is cut: test 6 as `Grid::cut` answers it. Assumes nothing.
--   IsCut    the grid with its counts, and none exactly if it is too fine
use Rattle.std.specs.Prelude.{◌≡◌, true, false, Option, None, Some}
use Rattle.input_tests.specs.declared.grid.Grid.{Grid}
use Rattle.input_tests.specs.declared.cuts.Cuts.{Cuts}
use Rattle.input_tests.specs.Front.{by_axis, grid_too_fine}

abbrev pub IsCut : Grid → Option Cuts → Type 0
IsCut g None = grid_too_fine g.extents g.eps (by_axis g.resolution) ≡ true
IsCut g (Some c) = (c.grid ≡ g) × (grid_too_fine g.extents g.eps (by_axis g.resolution) ≡ false)
