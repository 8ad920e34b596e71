use Rattle.geometry.specs.Boxes.{face_of}
use Rattle.geometry.proofs.Faces.{face_in}
use Rattle.candidate_pool.proofs.Adding.{number_in, inserted_face}
use Rattle.candidate_pool.proofs.pool.insert_grid_point.Goals as goal

pub push_face-requires-clause-id_bound : goal.push_face-requires-clause-id_bound
push_face-requires-clause-id_bound c =
    let place = c.place_candidate-id in
    number_in c.args.eps c.args.room.n c.args.w.now place.new.w _ place.result.0 place.ensures.0 place.ensures.1

pub returns : goal.returns
returns c =
    let s = c in
    let place-candidate' = c.place_candidate-id in
    let push-face' = c.push_face in
    inserted_face s.args.eps s.args.room.n s.args.w.now place-candidate'.new.w push-face'.new.w s.args.p 0 place-candidate'.result.0
    s.requires.holds place-candidate'.ensures.0 place-candidate'.ensures.1 (face_of s.args.face) (face_in s.args.face) push-face'.ensures
