use lib.ListN.{length, get_or, take, drop}
use lib.Seq.{sets}
use Prim.Native.Nat.{ℕ, ◌+◌, ◌-◌, ◌≤◌}
use mathlib.Core.Path.{◌≡◌, refl, ap, ◌∙◌}
use native.Mathlib.Omega.{arith}
use Rattle.lists.proofs.Regions.{view_length}
use Rattle.geometry.proofs.Faces.{face_at}
use Rattle.candidate_pool.specs.Offsets.{list_at}
use Rattle.candidate_outputs.proofs.Blocks.{list_block, lists_long, block_long, block_read, lists_stored}
use Rattle.lists.proofs.Blocks.{blocks_start, blocks_turn, blocks_room, blocks_long, blocks_end}
use Rattle.candidate_outputs.proofs.outputs.write_face_lists.Goals.{After-list_at-list}
use Rattle.candidate_outputs.proofs.outputs.write_face_lists.Goals as goal

pub write_words-requires : goal.write_words-requires
write_words-requires c =
    let a = c.args in
    let l = lists_long a.room.n a.w.now c.requires.n_bound c.requires.by_index in
    let k : length (take 6 a.w.now) ≡ 6 = view_length a.w.now 0 6 (omega (arith, c.requires.n_bound)) in
    omega (arith, l, k, c.requires.w_in_bounds)

pub loop-face-init : goal.loop-face-init
loop-face-init c =
    let a = c.args in
    (omega arith, blocks_start (list_block a.room.n a.w.now) c.write_words.new.out 6 _ refl)

-- the face's list, as it is read, and the room that it takes
block : (c : After-list_at-list) → let list : ℕ = c.list_at-list.result in let count : ℕ = get_or c.args.w.now c.index.result 0 in
    (take (list + count - list) (drop list c.args.w.now) ≡ list_block c.args.room.n c.args.w.now c.loop-face.face-index)
block c =
    let a = c.args in
    let e = face_at c.loop-face.face-index _ c.loop-face-test.true in
    block_read a.room.n a.w.now c.loop-face.face-index c.list_at-list.result (get_or a.w.now c.index.result 0)
    (c.list_at-list.ensures ∙ ap (list_at a.room.n) e) (ap (λ (f : ℕ). get_or a.w.now f 0) (c.index.ensures.value ∙ e))

-- there is room for it behind what was written
fits : (c : After-list_at-list) → c.loop-face.at + length (list_block c.args.room.n c.args.w.now c.loop-face.face-index) ≤ length c.loop-face.out
fits c =
    let a = c.args in
    let l = lists_long a.room.n a.w.now c.requires.n_bound c.requires.by_index in
    blocks_room (list_block a.room.n a.w.now) c.write_words.new.out c.loop-face.out 6 c.loop-face.face-index c.loop-face.at c.loop-face.invariant.1 6
    c.loop-face-test.true
    (omega (arith, c.write_words.auto.out, l, c.requires.w_in_bounds))

-- how long it is, and where it ends
ends : (c : After-list_at-list) → (length (list_block c.args.room.n c.args.w.now c.loop-face.face-index) ≡ get_or c.args.w.now c.index.result 0)
    × (c.list_at-list.result + get_or c.args.w.now c.index.result 0 ≤ length c.args.w.now)
ends c =
    let a = c.args in
    let e = c.index.ensures.value ∙ face_at c.loop-face.face-index _ c.loop-face-test.true in
    let f = ap (λ (x : ℕ). get_or a.w.now x 0) e in
    let l = c.list_at-list.ensures ∙ ap (list_at a.room.n) (face_at c.loop-face.face-index _ c.loop-face-test.true) in
    let q = block_long a.room.n a.w.now c.requires.n_bound c.requires.by_index c.loop-face.face-index c.loop-face-test.true in
    (omega (arith, q.0, f), omega (arith, q.1, f, l))

pub write_words-requires-in-loop-face : goal.write_words-requires-in-loop-face
write_words-requires-in-loop-face c =
    let s = (goal.at.write_words-requires-in-loop-face c).After-list_at-list in
    let q = ap length (block s) in
    omega (arith, q, fits s)

pub overflow_add-at : goal.overflow_add-at
overflow_add-at c =
    let s = (goal.at.overflow_add-at c).After-list_at-list in
    let a = c.args in
    let l = blocks_long (list_block a.room.n a.w.now) c.write_words.new.out c.loop-face.out 6 c.loop-face.face-index c.loop-face.at c.loop-face.invariant.1 in
    omega (arith, fits s, ends s, l, c.write_words.auto.out)

pub loop-face-preserved : goal.loop-face-preserved
loop-face-preserved c =
    let s = (goal.at.loop-face-preserved c).After-list_at-list in
    let a = c.args in (
      omega arith,
      blocks_turn (list_block a.room.n a.w.now) c.write_words.new.out c.loop-face.out 6 c.loop-face.face-index c.loop-face.at c.loop-face.invariant.1 _ _
          (c.write_words-in-loop-face.ensures ∙ ap (sets c.loop-face.out c.loop-face.at) (block s))
          (omega (arith, ends s)),
    )

pub returns : goal.returns
returns c =
    let a = c.args in
    blocks_end (list_block a.room.n a.w.now) c.write_words.new.out c.loop-face.out 6 c.loop-face.face-index c.loop-face.at c.loop-face.invariant.1 6
    c.loop-face.invariant.0 c.loop-face-test.false _ refl
    ∙ lists_stored a.room.n a.w.now c.requires.n_bound c.requires.by_index a.out.now _ c.write_words.ensures
