use Prim.Native.Nat.{ℕ, ◌+◌, ◌*◌}
use mathlib.Core.Path.{◌≡◌, sym, ◌∙◌}
use mathlib.Core.List.{List}
use mathlib.Core.Bool.{true}
use lib.ListN.{get_or}
use native.Mathlib.Omega.{arith}
use Rattle.lists.specs.Lists.{has}
use Rattle.candidate_pool.specs.Pool.{face_list}
use Rattle.candidate_pool.specs.Standing.{pool_at}
use Rattle.candidate_constraints.proofs.Noting.{member_low, noted_place}
use Rattle.candidate_constraints.proofs.Pairing.{edge_ends, edge_pushed}
use Rattle.candidate_constraints.proofs.pairs.push_open_edge.Goals.{Then-has_face}
use Rattle.geometry.specs.Boxes.{face_of}
use Rattle.geometry.proofs.Faces.{face_in}
use Rattle.candidate_constraints.proofs.pairs.push_open_edge.Goals as goal

-- the candidates of the edge's two ends are in the face's list
ends : (c : Then-has_face) →
    let edge : ℕ = c.open_edges_at.result + 3 * c.args.i in
    let listed : List ℕ = face_list (pool_at c.args.room.n c.args.w.now) (face_of c.args.face) in
    (has listed (get_or c.args.w.now edge 0) ≡ true) × (has listed (get_or c.args.w.now (edge + 1) 0) ≡ true)
ends c =
    let s = c in
    let at = c.open_edges_at in
    edge_ends s.args.room.n s.args.room.nf s.args.i (face_of s.args.face) s.args.w.now s.requires.edges_held (face_in s.args.face) at.result at.ensures
    (sym c.has_face.ensures ∙ c.if-has_face.true)

pub place_of_candidate-a-requires : goal.place_of_candidate-a-requires
place_of_candidate-a-requires c =
    let ends = ends (goal.at.place_of_candidate-a-requires c).Then-has_face in
    let s = c in
    omega (arith, member_low s.args.room.n (face_of s.args.face) s.args.w.now s.requires.shown (face_in s.args.face) _ ends.0, s.requires.roomy.room)

pub place_of_candidate-b-requires : goal.place_of_candidate-b-requires
place_of_candidate-b-requires c =
    let ends = ends (goal.at.place_of_candidate-b-requires c).Then-has_face in
    let s = c in
    omega (arith, member_low s.args.room.n (face_of s.args.face) s.args.w.now s.requires.shown (face_in s.args.face) _ ends.1, s.requires.roomy.room)

pub put_pair-requires : goal.put_pair-requires
put_pair-requires c =
    let ends = ends (goal.at.put_pair-requires c).Then-has_face in
    let s = c in
    let IF' = c in (
      omega (arith, c.pairs_at.ensures, s.requires.roomy.room, s.requires.bounds.1),
      omega (
        arith,
        c.place_of_candidate-a.ensures,
        noted_place s.args.room.n (face_of s.args.face) s.args.w.now s.requires.shown
            (face_in s.args.face) s.requires.placed _ ends.0,
        s.requires.roomy.small,
      ),
      omega (
        arith,
        c.place_of_candidate-b.ensures,
        noted_place s.args.room.n (face_of s.args.face) s.args.w.now s.requires.shown (face_in s.args.face)
            s.requires.placed _ ends.1,
        s.requires.roomy.small,
      ),
    )

pub returns-then-has_face : goal.returns-then-has_face
returns-then-has_face c =
    let s = c in
    let open-edges-at' = c.open_edges_at in
    let place-of-candidate' = c.place_of_candidate-a in
    let place-of-candidate2' = c.place_of_candidate-b in
    let pairs-at' = c.pairs_at in
    let put-pair' = c.put_pair in
    edge_pushed s.args.room.n s.args.room.nf s.args.i (face_of s.args.face) s.args.c s.args.w.now s.requires.roomy s.requires.placed s.requires.edges_held
    (face_in s.args.face) s.requires.bounds.1 open-edges-at'.result open-edges-at'.ensures (sym c.has_face.ensures ∙ c.if-has_face.true)
    place-of-candidate'.result.0 place-of-candidate2'.result.0 pairs-at'.result put-pair'.new.w
    place-of-candidate'.ensures place-of-candidate2'.ensures pairs-at'.ensures put-pair'.ensures
