use Prim.Native.Nat.{ℕ}
use mathlib.Core.Path.{sym, ap}
use Rattle.edges.proofs.Sides.{side_at_lem}
use Rattle.edges.proofs.ends.edge_from.Goals as goal

pub returns : goal.returns
returns c = sym (ap (λ (s : ℕ × ℕ). s.0) (side_at_lem c.args.facets.now c.args.side c.requires.0 c.requires.1))
