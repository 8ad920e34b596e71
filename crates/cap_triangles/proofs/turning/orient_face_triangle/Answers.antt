use mathlib.Core.Path.{ap}
use Rattle.cap_triangles.proofs.Turns.{turned_as, reversed_as}
use Rattle.geometry.specs.Boxes.{face_of}
use Rattle.geometry.specs.Numbers.{candidates_of}
use Rattle.cap_triangles.proofs.turning.orient_face_triangle.Goals as goal

-- `orient_face_triangle` meets its contract, by the side of the test. Assumes nothing.
pub returns-then-signed_area2-ccw_is_outward : goal.returns-then-signed_area2-ccw_is_outward
returns-then-signed_area2-ccw_is_outward c =
    let start = c in
    let a = start.args in
    turned_as a.w.now (face_of a.face) (candidates_of a.t) c.point_of.result
    c.point_of-2.result c.point_of-3.result
    c.project-a.result c.project-b.result
    c.project-c.result c.signed_area2.result c.ccw_is_outward.result
    c.point_of.ensures c.point_of-2.ensures
    c.point_of-3.ensures c.project-a.ensures
    c.project-b.ensures c.project-c.ensures c.signed_area2.ensures
    c.ccw_is_outward.ensures c.if-signed_area2-ccw_is_outward.true

pub returns-else-signed_area2-ccw_is_outward : goal.returns-else-signed_area2-ccw_is_outward
returns-else-signed_area2-ccw_is_outward c =
    let start = c in
    let a = start.args in
    reversed_as a.w.now (face_of a.face) (candidates_of a.t) c.point_of.result
    c.point_of-2.result c.point_of-3.result
    c.project-a.result c.project-b.result
    c.project-c.result c.signed_area2.result c.ccw_is_outward.result
    c.point_of.ensures
    c.point_of-2.ensures c.point_of-3.ensures
    c.project-a.ensures c.project-b.ensures
    c.project-c.ensures c.signed_area2.ensures c.ccw_is_outward.ensures
    c.if-signed_area2-ccw_is_outward.false (candidates_of c.reversed.result)
    (ap candidates_of c.reversed.ensures)
