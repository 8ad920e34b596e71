use Prim.Native.Nat.{◌+◌}
use mathlib.Core.Path.{refl, ◌∙◌}
use native.Mathlib.Omega.{arith}
use Rattle.candidate_pool.specs.Pool.{by_key}
use Rattle.candidate_pool.specs.Standing.{faces_in, candidate, pool_at}
use Rattle.candidate_pool.proofs.Adding.{number_in, same_number, inserted_faces, vertex_inserted}
use Rattle.candidate_pool.proofs.pool.insert_candidate.Goals as goal

pub push_faces-requires-clause-id_bound : goal.push_faces-requires-clause-id_bound
push_faces-requires-clause-id_bound c =
    let place = c.place_candidate-id in
    number_in c.args.eps c.args.room.n c.args.w.now place.new.w _ place.result.0 place.ensures.0 place.ensures.1

pub overflow_add-w : goal.overflow_add-w
overflow_add-w c =
    let s = c in
    let place-candidate' = c.place_candidate-id in
    omega (
      arith,
      number_in s.args.eps s.args.room.n s.args.w.now place-candidate'.new.w _ place-candidate'.result.0 place-candidate'.ensures.0
          place-candidate'.ensures.1,
      place-candidate'.ensures.0.holds.table.few,
      place-candidate'.ensures.0.holds.table.small,
    )

pub returns : goal.returns
returns c =
    let a = c.args in
    let place = c.place_candidate-id in
    let push = c.push_faces in
    let on = faces_in a.mask.0 in
    let number = place.ensures.1 ∙ same_number (by_key a.eps) (pool_at a.room.n a.w.now) a.p (a.v.0 + 1) (a.v.0 + 1) on in
    let inserted = inserted_faces a.eps a.room.n a.w.now place.new.w push.new.w a.p (a.v.0 + 1) place.result.0 c.requires.holds place.ensures.0 place.ensures.1
    a.mask.0 push.ensures in (
      vertex_inserted a.eps a.room.n a.v.0 place.result.0 (candidate a.p (a.v.0 + 1) on) a.w.now push.new.w inserted c.requires.point_in.2 number _
          c.joined_at.result c.joined_at.ensures refl,
      number,
    )
