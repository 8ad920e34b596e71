use mathlib.Core.Path.{ap, ◌∙◌}
use mathlib.Core.List.{List, map}
use Rattle.geometry.proofs.Triangles.{sorted_numbers, number_less}
use Rattle.geometry.specs.declared.numbers.MeshVertexId.{MeshVertexId}
use Rattle.geometry.proofs.tests.in_order.Goals as goal

pub returns : goal.returns
returns c =
    ap (λ (l : List MeshVertexId). map (λ v. v.0) l) c.sorted_vertices.ensures
    ∙ sorted_numbers (λ (v : MeshVertexId). v.0) _ (λ x y. number_less x.0 y.0) c.args.t
