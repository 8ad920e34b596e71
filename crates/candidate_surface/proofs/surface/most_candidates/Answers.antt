use mathlib.Core.Path.{ap}
use native.Mathlib.Omega.{arith}
use Prim.Native.Nat.{ℕ, ◌+◌, ◌/◌}
use lib.ListN.{length}
use Rattle.candidate_surface.specs.Asked.{one_resolution}
use Rattle.candidate_surface.proofs.Fitting.{grid_small, size_of}
use Rattle.candidate_surface.proofs.surface.most_candidates.Goals as goal

pub overflow_add-result : goal.overflow_add-result
overflow_add-result c =
    let a = c.args in
    let g = grid_small a.asked.extents a.asked.eps (one_resolution a.asked.resolution) c.requires.1 in
    omega (arith, g, size_of a.asked c.cuts.result.grid _ c.cuts.ensures c.size.ensures, c.requires.0)

pub returns : goal.returns
returns c =
    let a = c.args in
    ap (λ (n : ℕ). length a.vertices.now / 3 + n) (size_of a.asked c.cuts.result.grid _ c.cuts.ensures c.size.ensures)
