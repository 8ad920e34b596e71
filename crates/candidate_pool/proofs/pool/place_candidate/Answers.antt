use Prim.Native.Nat.{ℕ}
use mathlib.Core.Path.{◌≡◌, refl, sym, ◌∙◌}
use mathlib.Core.Bool.{true, false}
use mathlib.Core.List.{[]}
use native.Mathlib.Omega.{arith}
use Rattle.std.specs.Prelude.{Option, Some, None, is_some}
use Rattle.geometry.specs.declared.numbers.MeshVertexId.{MeshVertexId}
use Rattle.candidate_pool.specs.Standing.{mesh_word, candidate}
use Rattle.candidate_pool.proofs.Reading.{some_room}
use Rattle.candidate_pool.proofs.Placing.{miss_room, hit_room, placed_new, placed_moved, placed_kept, number_miss, number_hit}
use Rattle.candidate_pool.proofs.pool.place_candidate.Goals as goal

word_some : (o : Option MeshVertexId) → is_some o ≡ true → mesh_word o ≡ 0 → ⊥
word_some (Some v) e z = omega arith
word_some None e z = let q : ◌≡◌ {A = ℕ} 0 1 = cc in omega arith

word_none : (o : Option MeshVertexId) → is_some o ≡ false → mesh_word o ≡ 0
word_none (Some v) e = let q : ◌≡◌ {A = ℕ} 0 1 = cc in absurd (omega arith)
word_none None e = refl

pub invariant_of-table-clause-some : goal.invariant_of-table-clause-some
invariant_of-table-clause-some c =
    let a = c.args in some_room a.eps a.room.n a.w.now c.requires.holds (candidate a.entry.p (mesh_word a.entry.mesh) []) c.requires.room_for

pub push_candidate-requires-clause-bounds : goal.push_candidate-requires-clause-bounds
push_candidate-requires-clause-bounds c =
    let a = c.args in
    let k = c.cell_of-key in
    let b = c.bucket-b in
    let f = c.find_key in (
      miss_room a.eps a.room.n a.w.now c.requires.holds a.entry.p (mesh_word a.entry.mesh) k.result b.result f.result k.ensures b.ensures f.ensures c.in-None.is
          c.requires.room_for,
      b.ensures.low,
    )

pub returns-in-None : goal.returns-in-None
returns-in-None c =
    let a = c.args in
    let k = c.cell_of-key in
    let b = c.bucket-b in
    let f = c.find_key in
    let u = c.push_candidate in (
      placed_new a.eps a.room.n a.w.now c.requires.holds a.entry.p (mesh_word a.entry.mesh) k.result b.result f.result k.ensures b.ensures f.ensures
          u.new.w c.in-None.is c.requires.room_for a.entry.fits.0 u.ensures.2 u.ensures.1,
      u.ensures.0
          ∙ number_miss a.eps a.room.n a.w.now c.requires.holds a.entry.p (mesh_word a.entry.mesh) k.result b.result f.result k.ensures b.ensures f.ensures c.in-None.is,
    )

pub put_point-requires : goal.put_point-requires
put_point-requires c =
    let a = c.args in
    let k = c.cell_of-key in
    let b = c.bucket-b in
    let f = c.find_key in
    hit_room a.eps a.room.n a.w.now c.requires.holds a.entry.p (mesh_word a.entry.mesh) k.result b.result f.result k.ensures b.ensures f.ensures c.in-Some.i c.in-Some.is

pub returns-then-is_some : goal.returns-then-is_some
returns-then-is_some c =
    let a = c.args in
    let k = c.cell_of-key in
    let b = c.bucket-b in
    let f = c.find_key in
    let u = c.put_point in
    let s = c.in-Some in (
      placed_moved a.eps a.room.n a.w.now c.requires.holds a.entry.p (mesh_word a.entry.mesh) k.result b.result f.result k.ensures b.ensures f.ensures
          u.new.w s.i s.is (word_some a.entry.mesh (sym c.is_some.ensures ∙ c.if-is_some.true)) a.entry.fits.0 u.ensures.1 u.ensures.0,
      number_hit a.eps a.room.n a.w.now c.requires.holds a.entry.p (mesh_word a.entry.mesh) k.result b.result f.result k.ensures b.ensures f.ensures s.i s.is,
    )

pub returns-else-is_some : goal.returns-else-is_some
returns-else-is_some c =
    let a = c.args in
    let k = c.cell_of-key in
    let b = c.bucket-b in
    let f = c.find_key in
    let s = c.in-Some in (
      placed_kept a.eps a.room.n a.w.now c.requires.holds a.entry.p (mesh_word a.entry.mesh) k.result b.result f.result k.ensures b.ensures f.ensures
          s.i s.is (word_none a.entry.mesh (sym c.is_some.ensures ∙ c.if-is_some.false)),
      number_hit a.eps a.room.n a.w.now c.requires.holds a.entry.p (mesh_word a.entry.mesh) k.result b.result f.result k.ensures b.ensures f.ensures s.i s.is,
    )
