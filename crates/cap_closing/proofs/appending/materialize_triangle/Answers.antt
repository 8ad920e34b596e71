use Rattle.geometry.specs.Triangles.{tri}
use Rattle.geometry.specs.Numbers.{candidates_of}
use Rattle.cap_triangles.specs.Room.{closing_at}
use Rattle.cap_closing.proofs.Corners.{entered_three, numbers_three}
use Rattle.cap_closing.proofs.appending.materialize_triangle.Goals as goal

pub returns : goal.returns
returns c =
    let s = c in
    let a = s.args in
    let b = closing_at a.room.n a.room.nf a.room.nc in
    let E = s.requires.names_entering in (
      entered_three b a.room.n a.room.nc a.nv a.w.now E (candidates_of a.t) s.requires.below
          (tri c.materialize_candidate-a.result.0
          c.materialize_candidate-b.result.0 c.materialize_candidate-c.result.0)
          c.materialize_candidate-a.new.w
          c.materialize_candidate-b.new.w c.materialize_candidate-c.new.w
          c.materialize_candidate-a.ensures.0
          c.materialize_candidate-b.ensures.0 c.materialize_candidate-c.ensures.0
          c.materialize_candidate-a.ensures.1
          c.materialize_candidate-b.ensures.1 c.materialize_candidate-c.ensures.1,
      numbers_three b a.room.n
          a.room.nc a.nv a.w.now E (candidates_of a.t) s.requires.below
          (tri c.materialize_candidate-a.result.0
          c.materialize_candidate-b.result.0 c.materialize_candidate-c.result.0)
          c.materialize_candidate-a.new.w
          c.materialize_candidate-b.new.w c.materialize_candidate-c.new.w
          c.materialize_candidate-a.ensures.0
          c.materialize_candidate-b.ensures.0 c.materialize_candidate-c.ensures.0
          c.materialize_candidate-a.ensures.1
          c.materialize_candidate-b.ensures.1 c.materialize_candidate-c.ensures.1,
    )
