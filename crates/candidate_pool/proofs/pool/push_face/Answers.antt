use Prim.Native.Nat.{ℕ, ◌+◌, ◌*◌, ◌^◌, ◌%◌, ◌<◌}
use mathlib.Core.Path.{◌≡◌, sym, ap, ◌∙◌}
use mathlib.Core.Bool.{Bool, false}
use mathlib.Core.List.{List}
use lib.ListN.{get_or}
use Rattle.geometry.specs.Boxes.{face_of}
use Rattle.geometry.proofs.Faces.{face_in}
use Rattle.box_faces.specs.Faces.{has_bit}
use Rattle.candidate_pool.specs.Offsets.{entry_at, joined_at}
use Rattle.candidate_pool.proofs.Masking.{shifted}
use Rattle.candidate_pool.proofs.Facing.{face_there, list_end, face_added}
use Rattle.candidate_pool.proofs.pool.push_face.Goals.{After-contains, After-list_at}
use Rattle.candidate_pool.proofs.pool.push_face.Goals as goal

-- the candidate's word of faces
abbrev faces : List ℕ → ℕ → ℕ
faces w id = get_or w (entry_at id + 4) 0

-- whether that word has the face is what contains said
bit_is : (c : After-contains) (b : Bool) → c.contains.result ≡ b → has_bit (faces c.args.w.now c.args.id.0) (face_of c.args.face) ≡ b
bit_is c b said =
    sym (c.contains.ensures ∙ ap (λ (at : ℕ). has_bit (get_or c.args.w.now (at + 4) 0) (face_of c.args.face)) c.entry_at-at.ensures) ∙ said

-- where the candidate goes in the face's list
end_in : (c : After-list_at) → has_bit (faces c.args.w.now c.args.id.0) (face_of c.args.face) ≡ false → c.list_at.result + get_or c.args.w.now (face_of c.args.face) 0 < joined_at c.args.room.n
end_in c bit-off =
    list_end c.args.eps c.args.room.n c.args.w.now c.requires.holds c.args.id.0 (face_of c.args.face) c.requires.id_bound (face_in c.args.face)
    bit-off c.list_at.result c.list_at.ensures

pub returns-then-contains : goal.returns-then-contains
returns-then-contains c =
    face_there c.args.eps c.args.room.n c.args.w.now c.requires.holds c.args.id.0 (face_of c.args.face) c.requires.id_bound (face_in c.args.face)
    (bit_is (goal.at.returns-then-contains c).After-contains _ c.if-contains.true)

pub returns : goal.returns
returns c =
    rw (c.entry_at-at.ensures, c.index-f.ensures.value)
    (face_added c.args.eps c.args.room.n c.args.w.now c.requires.holds c.args.id.0 (face_of c.args.face) c.requires.id_bound (face_in c.args.face)
    (bit_is (goal.at.returns c).After-contains _ c.if-contains.false) (1 * 2 ^ (face_of c.args.face) % 18446744073709551616) c.list_at.result
    (shifted (face_of c.args.face) (face_in c.args.face)) c.list_at.ensures)
