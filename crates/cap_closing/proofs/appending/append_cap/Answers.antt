use Prim.Native.Nat.{ℕ}
use mathlib.Core.Path.{sym, subst, ◌∙◌}
use Rattle.geometry.specs.Numbers.{candidates_of, mesh_vertices_of}
use Rattle.geometry.specs.Triangles.{Triangle}
use Rattle.mesh_filter.specs.Room.{Below}
use Rattle.candidate_pool.specs.Standing.{count_at}
use Rattle.cap_triangles.specs.Room.{closing_at}
use Rattle.cap_closing.specs.Steps.{put_left, cap_at_room, Appended}
use Rattle.cap_closing.proofs.Remaining.{append_small, appended_large, appended_small}
use Rattle.cap_closing.proofs.appending.append_cap.Goals as goal

pub put_left-requires : goal.put_left-requires
put_left-requires c =
    let s = c in
    let a = s.args in
    let b = closing_at a.room.n a.room.nf a.room.nc in
    let E = s.requires.names_entering in
    let K = s.requires.taking in
    let R = s.requires.left_below in
    let low = subst (Below (count_at a.w.now)) (sym c.turned_cap-t.ensures) (K.corners a.i R.0) in
    let e = c.materialize_triangle-ids.ensures.0 in
    let N = c.materialize_triangle-ids.ensures.1 in
    let t = candidates_of c.turned_cap-t.result in
    let r = mesh_vertices_of c.materialize_triangle-ids.result in
    let w₁ = c.materialize_triangle-ids.new.w in
    let F = e.entering in
    let x = F.small in
    let y = F.caps in record { left_below = (R.1, F.size); below = append_small a.vertices.now b a.room.n a.room.nc a.left t r a.w.now w₁ R.1 low e N }

pub returns-then-is_large : goal.returns-then-is_large
returns-then-is_large c =
    let s = c in
    let a = s.args in
    let b = closing_at a.room.n a.room.nf a.room.nc in
    let E = s.requires.names_entering in
    let K = s.requires.taking in
    let R = s.requires.left_below in
    let low = subst (Below (count_at a.w.now)) (sym c.turned_cap-t.ensures)
    (K.corners a.i R.0) in
    let e = c.materialize_triangle-ids.ensures.0 in
    let N = c.materialize_triangle-ids.ensures.1 in
    let t = candidates_of c.turned_cap-t.result in
    let r = mesh_vertices_of c.materialize_triangle-ids.result in
    let w₁ = c.materialize_triangle-ids.new.w in
    subst (Appended a.vertices.now b a.room.n a.room.nc (cap_at_room a.room.n a.room.nf a.room.nc a.w.now a.i) a.left 1 a.w.now) (sym c.put_left.ensures)
    (subst (λ (u : Triangle ℕ). Appended a.vertices.now b a.room.n a.room.nc u a.left 1 a.w.now (put_left b a.room.n a.room.nc a.left r w₁))
    c.turned_cap-t.ensures
    (appended_large a.vertices.now b a.room.n a.room.nc a.left t r a.w.now w₁ R.1 low e N
    (sym c.is_large.ensures ∙ c.if-is_large.true)))

pub returns : goal.returns
returns c =
    let s = c in
    let a = s.args in
    let b = closing_at a.room.n a.room.nf a.room.nc in
    let E = s.requires.names_entering in
    let K = s.requires.taking in
    let R = s.requires.left_below in
    let low = subst (Below (count_at a.w.now)) (sym c.turned_cap-t.ensures) (K.corners a.i R.0) in
    let e = c.materialize_triangle-ids.ensures.0 in
    let N = c.materialize_triangle-ids.ensures.1 in
    let t = candidates_of c.turned_cap-t.result in
    let r = mesh_vertices_of c.materialize_triangle-ids.result in
    let w₁ = c.materialize_triangle-ids.new.w in
    subst (λ (u : Triangle ℕ). Appended a.vertices.now b a.room.n a.room.nc u a.left 0 a.w.now w₁)
    c.turned_cap-t.ensures
    (appended_small a.vertices.now b a.room.n a.room.nc a.left t r a.w.now w₁ R.1 low e N (sym c.is_large.ensures ∙ c.if-is_large.false))
