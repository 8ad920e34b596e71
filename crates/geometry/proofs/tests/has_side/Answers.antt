use mathlib.Core.Path.{refl, ◌∙◌}
use Rattle.geometry.proofs.Triangles.{edge_of_numbers}
use Rattle.geometry.specs.declared.numbers.CandidateVertexId.{CandidateVertexId}
use Rattle.geometry.proofs.tests.has_side.Goals as goal

pub returns : goal.returns
returns c = c.contains_oriented_edge.ensures ∙ edge_of_numbers (λ (v : CandidateVertexId). v.0) _ (λ x y. refl) c.args.t c.args.from c.args.to
