use Rattle.irregular_edges.proofs.Walking.{other_run, two_run, number, number_next}
use Rattle.edges.specs.Edges.{sides}
use Rattle.geometry.specs.Triangles.{threes}
use Prim.Native.Nat.{◌*◌, ◌-◌}
use native.Mathlib.Omega.{arith}
use Rattle.irregular_edges.proofs.is_irregular.Goals as goal

-- `is_irregular` meets its contract: the length of the run decides, and of two records where their sides begin. Assumes nothing.
pub returns-then-e-i-ne2 : goal.returns-then-e-i-ne2
returns-then-e-i-ne2 c = let s = c in other_run (sides (threes s.args.facets.now)) s.args.w.now (2 * s.args.i) (s.args.e - s.args.i) (omega arith)

pub returns : goal.returns
returns c =
    let s = c in
    two_run (sides (threes s.args.facets.now)) s.args.w.now (2 * s.args.i) (s.args.e - s.args.i) (omega arith)
    c.edge_from-first.result c.edge_from-second.result c.edge_from-first.ensures c.edge_from-second.ensures

pub edge_from-first-requires : goal.edge_from-first-requires
edge_from-first-requires c =
    let s = c in (
      s.requires.facets_len.0,
      number s.args.facets.now s.args.w.now s.requires.facets_len.0
          (λ i. omega (arith, c.type_inv.facets i)) s.requires.facets_len.3 s.requires.w_value s.args.i (omega arith),
    )

pub edge_from-second-requires : goal.edge_from-second-requires
edge_from-second-requires c =
    let s = c in (
      s.requires.facets_len.0,
      number_next s.args.facets.now s.args.w.now s.requires.facets_len.0 (λ i. omega (
        arith,
        c.type_inv.facets i,
      )) s.requires.facets_len.3 s.requires.w_value s.args.i (omega arith),
    )
