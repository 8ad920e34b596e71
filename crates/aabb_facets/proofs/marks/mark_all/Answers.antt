use Rattle.std.proofs.Common.{arith}
use mathlib.Core.Bool.{Bool}
use mathlib.Core.Path.{ap, ◌∙◌}
use Rattle.aabb_facets.specs.Clipped.{inside_box}
use Rattle.aabb_facets.specs.Rooms.{mark}
use Rattle.aabb_facets.proofs.MarkLists.{mark_byte, marking_none, marking_more, marking_end}
use Rattle.aabb_facets.proofs.marks.mark_all.Goals as goal

pub loop-v-init : goal.loop-v-init
loop-v-init c = let a = c.args in marking_none a.vertices.now a.clip.extents a.clip.eps a.ids.now

pub loop-v-preserved : goal.loop-v-preserved
unfolding inside_box
loop-v-preserved c =
    let l = c.loop-v in
    let a = c.args in
    let test = c.point_inside_aabb in
    (marking_more a.vertices.now a.clip.extents a.clip.eps a.ids.now l.ids l.v _ l.invariant (omega arith) (omega arith)
    (mark_byte test.result ∙ ap (λ (b : Bool). mark b 0) (test.ensures ∙ ap (inside_box a.clip.extents a.clip.eps) c.vertex_at.ensures))).1

pub returns : goal.returns
returns c =
    let l = c.loop-v in
    let a = c.args in
    marking_end a.vertices.now a.clip.extents a.clip.eps a.ids.now l.ids l.v l.invariant (omega arith) (omega arith)
