use Prim.Native.Nat.{ℕ, ◌+◌, ◌-◌, ◌≤◌, ◌<◌}
use mathlib.Core.Path.{refl}
use native.Mathlib.Omega.{arith}
use lib.ListN.{get_or, length-set}
use Rattle.cap_triangles.specs.Room.{closing_at}
use Rattle.cap_closing.proofs.Numbering.{old_at, new_at, top_room}
use Rattle.cap_closing.proofs.entering.materialize_candidate.Goals.{After-vertices_at-count}
use Rattle.cap_closing.proofs.entering.materialize_candidate.Goals as goal

pub returns-then-known-ne0 : goal.returns-then-known-ne0
returns-then-known-ne0 c =
    let s = c in
    let a = s.args in
    let b = closing_at a.room.n a.room.nf a.room.nc in
    old_at b a.room.n a.room.nc a.nv a.w.now s.requires.names_entering a.id.0 s.requires.low c.given_at.result c.given_at.ensures
    c.if-known-ne0.true

-- how many vertices there are: no fewer than the mesh's own, and so few that a new one has its place
top : (c : After-vertices_at-count) → let v : ℕ = get_or c.args.w.now c.vertices_at-count.result 0 in (c.args.nv ≤ v) × ((v - c.args.nv < c.args.room.n) × (v < 2097152))
top c =
    let a = c.args in
    let b = closing_at a.room.n a.room.nf a.room.nc in
    top_room b a.room.n a.room.nc a.nv a.w.now c.requires.names_entering a.id.0 c.requires.low c.given_at.result c.given_at.ensures (b + a.room.n)
    c.vertices_at-count.result refl c.vertices_at-count.ensures c.if-known-ne0.false

pub overflow_add-w : goal.overflow_add-w
overflow_add-w c = omega (arith, top (goal.at.overflow_add-w c).After-vertices_at-count)

pub overflow_add-w-2 : goal.overflow_add-w-2
overflow_add-w-2 c = omega (arith, top (goal.at.overflow_add-w-2 c).After-vertices_at-count, c.requires.names_entering.size, c.fresh_at.ensures)

pub offset_bounds-w-fresh_at : goal.offset_bounds-w-fresh_at
offset_bounds-w-fresh_at c = omega (arith, top (goal.at.offset_bounds-w-fresh_at c).After-vertices_at-count, c.requires.names_entering.size, c.fresh_at.ensures)

pub bounds-w-fresh_at : goal.bounds-w-fresh_at
bounds-w-fresh_at c =
    simp length-set (omega (arith, top (goal.at.bounds-w-fresh_at c).After-vertices_at-count, c.requires.names_entering.size, c.fresh_at.ensures))

pub overflow_add-w-3 : goal.overflow_add-w-3
overflow_add-w-3 c = omega (arith, top (goal.at.overflow_add-w-3 c).After-vertices_at-count, c.requires.names_entering.size, c.fresh_at.ensures)

pub returns : goal.returns
returns c =
    let s = c in
    let a = s.args in
    let b = closing_at a.room.n a.room.nf a.room.nc in
    new_at b a.room.n a.room.nc a.nv a.w.now s.requires.names_entering a.id.0 s.requires.low c.given_at.result
    c.given_at.ensures c.fresh_at.result c.vertices_at-count.result c.fresh_at.ensures
    c.vertices_at-count.ensures c.if-known-ne0.false
