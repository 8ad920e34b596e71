use Prim.Native.Nat.{ℕ}
use mathlib.Core.Path.{sym, ap, ◌∙◌}
use lib.ListN.{get_or}
use Rattle.edges.proofs.Sides.{side_at_lem}
use Rattle.edges.proofs.ends.edge_to.Goals as goal

pub returns : goal.returns
returns c =
    let s = c in
    ap (λ (n : ℕ). get_or s.args.facets.now n 0) c.next_side-next.ensures ∙ sym
    (ap (λ (e : ℕ × ℕ). e.1) (side_at_lem s.args.facets.now s.args.side s.requires.0 s.requires.1))
