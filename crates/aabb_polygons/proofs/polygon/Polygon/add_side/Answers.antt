use Rattle.std.proofs.Common.{arith}
use mathlib.Core.Path.{ap, ◌∙◌}
use mathlib.Core.List.{List, ◌++◌}
use lib.ListN.{length}
use Rattle.geometry.specs.declared.point.Point.{Point}
use Rattle.geometry.specs.Boxes.{face_of}
use Rattle.aabb_polygons.proofs.Walks.{side_room, side_more, side_in, side_out, differ, agree}
use Rattle.aabb_polygons.proofs.polygon.Polygon.add_side.Goals as goal
use Rattle.aabb_polygons.proofs.polygon.Polygon.add_side.Goals.{then-curr_inside-prev_inside, else-curr_inside-prev_inside}

pub add_crossing-requires : goal.add_crossing-requires
add_crossing-requires c =
    let i = c.point_inside_plane-curr_inside in
    let self = c.args.self.now in
    omega (
      arith,
      side_room _ _ _ _ _ _ _ self self i.ensures c.requires.prev c.requires.room,
      ap length (differ c.args.clip.extents c.args.clip.eps (face_of c.args.plane) c.args.prev c.args.curr _ _ c.if-curr_inside-prev_inside.true),
    )

pub push-requires : goal.push-requires
push-requires c =
    let i = c.point_inside_plane-curr_inside in
    side_more _ _ _ _ _ _ _ c.args.self.now _ i.ensures c.requires.prev c.requires.room c.if-curr_inside.true
    (elim c.if-curr_inside-prev_inside.branch [
      | then-curr_inside-prev_inside w ↦ w.self-is ∙ w.add_crossing.ensures ∙ ap (λ (l : List Point). c.args.self.now ++ l) (differ _ _ _ _ _ _ _ w.if-curr_inside-prev_inside.true)
      | else-curr_inside-prev_inside w ↦ w.self-is ∙ agree _ _ _ _ _ _ _ c.args.self.now w.if-curr_inside-prev_inside.false
    ])

pub returns-then-curr_inside-clause-corners : goal.returns-then-curr_inside-clause-corners
returns-then-curr_inside-clause-corners c =
    let i = c.point_inside_plane-curr_inside in
    c.push.ensures ∙ side_in _ _ _ _ _ _ _ c.args.self.now _ i.ensures c.requires.prev c.if-curr_inside.true
    (elim c.if-curr_inside-prev_inside.branch [
      | then-curr_inside-prev_inside w ↦ w.self-is ∙ w.add_crossing.ensures ∙ ap (λ (l : List Point). c.args.self.now ++ l) (differ _ _ _ _ _ _ _ w.if-curr_inside-prev_inside.true)
      | else-curr_inside-prev_inside w ↦ w.self-is ∙ agree _ _ _ _ _ _ _ c.args.self.now w.if-curr_inside-prev_inside.false
    ])

pub returns-else-curr_inside-clause-corners : goal.returns-else-curr_inside-clause-corners
returns-else-curr_inside-clause-corners c =
    let i = c.point_inside_plane-curr_inside in
    side_out _ _ _ _ _ _ _ c.args.self.now _ i.ensures c.requires.prev c.if-curr_inside.false
    (elim c.if-curr_inside-prev_inside.branch [
      | then-curr_inside-prev_inside w ↦ w.self-is ∙ w.add_crossing.ensures ∙ ap (λ (l : List Point). c.args.self.now ++ l) (differ _ _ _ _ _ _ _ w.if-curr_inside-prev_inside.true)
      | else-curr_inside-prev_inside w ↦ w.self-is ∙ agree _ _ _ _ _ _ _ c.args.self.now w.if-curr_inside-prev_inside.false
    ])
