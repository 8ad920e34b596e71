use Rattle.std.proofs.Common.{rules, tests, arith, ◌/◌}
use Prim.Native.Nat.{ℕ}
use mathlib.Core.Path.{refl, ◌∙◌}
use lib.ListN.{length}
use Rattle.std.proofs.lemmas.Iterator.{YieldsList-from_range}
use Rattle.std.proofs.lemmas.Iterator.Search.{all_from_yields_List}
use Rattle.geometry.specs.Meshes.{vertex_of, points_of}
use Rattle.geometry.proofs.Meshes.{length_points_of}
use Rattle.aabb_facets.specs.Clipped.{inside_box}
use Rattle.aabb_facets.proofs.MarkLists.{by_places}
use Rattle.aabb_facets.proofs.marks.wholly_inside.Goals as goal

pub returns : goal.returns
unfolding inside_box
returns c =
    let vs = c.args.vertices.now in
    let n = length vs / 3 in
    all_from_yields_List (λ (k : ℕ). inside_box c.args.clip.extents c.args.clip.eps (vertex_of vs k)) _ _ c.all.result c.all.ensures.ran
    (YieldsList-from_range 0 n n refl (omega arith)) (λ x b q k. search (rules, tests))
    ∙ by_places (inside_box c.args.clip.extents c.args.clip.eps) (points_of vs) n 0 (omega (arith, length_points_of vs))
