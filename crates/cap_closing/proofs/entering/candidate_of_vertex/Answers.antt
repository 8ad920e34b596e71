use native.Mathlib.Omega.{arith}
use Rattle.cap_triangles.specs.Room.{closing_at}
use Rattle.cap_closing.proofs.Numbering.{most_vertices}
use Rattle.cap_closing.proofs.entering.candidate_of_vertex.Goals as goal

pub overflow_add-result : goal.overflow_add-result
overflow_add-result c =
    let s = c in
    let a = s.args in
    let m = most_vertices (closing_at a.room.n a.room.nf a.room.nc) a.room.n a.room.nc a.nv a.w.now s.requires.names_entering in
    omega (arith, s.requires.own.1, s.requires.names_entering.size, s.requires.names_entering.count, c.fresh_at.ensures)

pub offset_bounds-w-fresh_at : goal.offset_bounds-w-fresh_at
offset_bounds-w-fresh_at c =
    let s = c in
    let a = s.args in
    let m = most_vertices (closing_at a.room.n a.room.nf a.room.nc) a.room.n a.room.nc a.nv a.w.now s.requires.names_entering in
    omega (arith, s.requires.own.1, s.requires.names_entering.size, s.requires.names_entering.count, c.fresh_at.ensures)

pub bounds-w-fresh_at : goal.bounds-w-fresh_at
bounds-w-fresh_at c =
    let s = c in
    let a = s.args in
    let m = most_vertices (closing_at a.room.n a.room.nf a.room.nc) a.room.n a.room.nc a.nv a.w.now s.requires.names_entering in
    omega (arith, s.requires.own.1, s.requires.names_entering.size, s.requires.names_entering.count, c.fresh_at.ensures)
