use Prim.Native.Nat.{◌<◌}
use native.Mathlib.Omega.{arith}
use Rattle.candidate_pool.specs.Standing.{faces_in}
use Rattle.candidate_edges.proofs.Ends.{vertex_in, vertex_room, vertex_entered}
use Rattle.candidate_edges.proofs.open.enter_vertex.Goals as goal

pub insert_candidate-requires : goal.insert_candidate-requires
insert_candidate-requires c =
    let s = c in
    let a = s.args in
    let v = c.vertex_at in
    let small : a.v.0 < a.room.n = omega (arith, s.requires.sources_ready.vertices, s.requires.v_in_bounds.0) in record {
      holds = s.requires.sources_ready.holds;
      point_in = (vertex_in a.vertices.now a.eps a.room.n a.w.now a.v.0 v.result s.requires.sources_ready s.requires.v_in_bounds.0 v.ensures, s.requires.v_in_bounds.1, small);
      room_for = vertex_room
          a.vertices.now a.eps a.room.n a.w.now a.v.0 v.result s.requires.sources_ready s.requires.v_in_bounds.0 v.ensures (faces_in a.mask.0);
    }

pub returns : goal.returns
returns c =
    let s = c in
    let a = s.args in
    let v = c.vertex_at in
    let i = c.insert_candidate in
    vertex_entered a.vertices.now a.eps a.room.n a.w.now a.v.0 v.result s.requires.sources_ready s.requires.v_in_bounds.0 v.ensures a.mask.0 i.result.0 i.new.w
    i.ensures.0 i.ensures.1
