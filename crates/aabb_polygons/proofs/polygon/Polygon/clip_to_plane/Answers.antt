use Rattle.std.proofs.Common.{rules, tests}
use mathlib.Core.Path.{sym, ◌∙◌}
use Rattle.std.proofs.lemmas.Iterator.{YieldsList-from_slice}
use Rattle.std.proofs.lemmas.Iterator.Search.{all_from_yields_List, any_from_yields_List}
use Rattle.geometry.specs.declared.point.Point.{Point}
use Rattle.geometry.specs.Boxes.{face_of}
use Rattle.aabb_planes.specs.Planes.{inside}
use Rattle.aabb_polygons.proofs.Planes.{whole, gone, unsnapped_same}
use Rattle.aabb_polygons.proofs.polygon.Polygon.clip_to_plane.Goals as goal

pub returns-then-all-clause-unsnapped : goal.returns-then-all-clause-unsnapped
returns-then-all-clause-unsnapped c =
    let all = all_from_yields_List (λ (p : Point). inside c.args.clip.extents c.args.clip.eps (face_of c.args.plane) p) _ _ c.all.result c.all.ensures.ran
    (YieldsList-from_slice c.args.self.now cc) (λ x b q k. search (rules, tests)) in
    whole _ _ _ _ c.requires.0 (sym all ∙ c.if-all.true)

pub returns-then-all-clause-if_snapped : goal.returns-then-all-clause-if_snapped
returns-then-all-clause-if_snapped c = λ s. returns-then-all-clause-unsnapped c ∙ unsnapped_same _ _ _ _ s

pub returns-then-not-any-clause-unsnapped : goal.returns-then-not-any-clause-unsnapped
returns-then-not-any-clause-unsnapped c =
    let any = any_from_yields_List (λ (p : Point). inside c.args.clip.extents c.args.clip.eps (face_of c.args.plane) p) _ _ c.any.result c.any.ensures.ran
    (YieldsList-from_slice c.args.self.now cc) (λ x b q k. search (rules, tests)) in
    c.clear.ensures ∙ gone _ _ _ _ c.requires.0 (sym any ∙ c.if-not-any.true)

pub returns-then-not-any-clause-if_snapped : goal.returns-then-not-any-clause-if_snapped
returns-then-not-any-clause-if_snapped c = λ s. returns-then-not-any-clause-unsnapped c ∙ unsnapped_same _ _ _ _ s

pub returns-clause-if_snapped : goal.returns-clause-if_snapped
returns-clause-if_snapped c = λ s. c.copy_from.ensures ∙ c.walk_sides.ensures ∙ unsnapped_same _ _ _ _ s
