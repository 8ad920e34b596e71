use mathlib.Core.Path.{ap, ◌∙◌}
use native.Mathlib.Omega.{arith}
use Rattle.cap_triangles.specs.Room.{closing_at}
use Rattle.cap_closing.specs.Steps.{point_in}
use Rattle.cap_closing.proofs.Corners.{own_point, new_point}
use Rattle.cap_closing.proofs.entering.entered_point.Goals as goal

pub returns-then-v-nv : goal.returns-then-v-nv
returns-then-v-nv c =
    let s = c in
    let a = s.args in
    let b = closing_at a.room.n a.room.nf a.room.nc in
    let E = s.requires.names_entering in
    c.vertex_at.ensures ∙ own_point a.vertices.now b a.room.n a.room.nc a.w.now E a.v.0 c.if-v-nv.true

pub returns : goal.returns
returns c =
    let s = c in
    let a = s.args in
    let b = closing_at a.room.n a.room.nf a.room.nc in
    c.point_of.ensures ∙ ap (point_in a.w.now) c.candidate_of_vertex.ensures
    ∙ new_point a.vertices.now b a.room.n a.room.nc a.w.now s.requires.names_entering a.v.0 (omega (arith, c.if-v-nv.false)) s.requires.low
