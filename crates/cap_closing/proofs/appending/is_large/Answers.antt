use mathlib.Core.Bool.{not}
use mathlib.Core.Path.{sym, subst, ap, ◌∙◌}
use lib.Ieee.{Float, le}
use Rattle.root.specs.Doubles.{1e-12}
use Rattle.geometry.specs.Points.{area2}
use Rattle.geometry.specs.Triangles.{tri}
use Rattle.candidate_pool.specs.Standing.{PointIn}
use Rattle.cap_triangles.specs.Room.{closing_at}
use Rattle.cap_closing.specs.Closing.{is_large}
use Rattle.cap_closing.proofs.Corners.{vertex_in, has_root}
use Rattle.cap_closing.proofs.appending.is_large.Goals as goal

pub area2-double_area-requires : goal.area2-double_area-requires
area2-double_area-requires c =
    let s = c in
    let a = s.args in
    let b = closing_at a.room.n a.room.nf a.room.nc in
    let E = s.requires.names_entering in
    let H = s.requires.shaped in
    has_root c.entered_point-a.result c.entered_point-b.result c.entered_point-c.result
    (subst PointIn (sym c.entered_point-a.ensures) (vertex_in a.vertices.now b a.room.n a.room.nc a.w.now E H a.t.a.0 s.requires.below.a))
    (subst PointIn (sym c.entered_point-b.ensures) (vertex_in a.vertices.now b a.room.n a.room.nc a.w.now E H a.t.b.0 s.requires.below.b))
    (subst PointIn (sym c.entered_point-c.ensures) (vertex_in a.vertices.now b a.room.n a.room.nc a.w.now E H a.t.c.0 s.requires.below.c))

pub returns : goal.returns
unfolding is_large
returns c =
    let s = c in
    let a = s.args in
    let E = s.requires.names_entering in
    ap (λ (x : Float). not (le x 1e-12)) (c.area2-double_area.ensures ∙ (λ i. area2
    (tri (c.entered_point-a.ensures i) (c.entered_point-b.ensures i) (c.entered_point-c.ensures i))))
