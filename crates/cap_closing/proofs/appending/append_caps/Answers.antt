use Prim.Native.Nat.{ℕ}
use mathlib.Core.Bool.{Bool, true, false}
use mir.Val.{bool_byte}
use native.Mathlib.Omega.{arith}
use Rattle.cap_triangles.specs.Room.{closing_at}
use Rattle.cap_closing.specs.Steps.{Turned, bit}
use Rattle.cap_closing.proofs.Turns.{appending_none, appending_turn}
use Rattle.cap_closing.proofs.appending.append_caps.Goals as goal

-- a truth value counted, as the code has it
by_byte : (b : Bool) (P : ℕ → Type 0) → P (bit b) → P (bool_byte b)
by_byte true P h = h
by_byte false P h = h

pub loop-i-init : goal.loop-i-init
loop-i-init c =
    let s = c in
    let a = s.args in
    let E = s.requires.names_entering in
    let K = s.requires.taking in
    (appending_none a.vertices.now a.room.n a.room.nf a.room.nc a.positive a.w.now E K, omega arith)

pub loop-i-preserved : goal.loop-i-preserved
loop-i-preserved c =
    let s = c in
    let a = s.args in
    let E = s.requires.names_entering in
    let K = s.requires.taking in (
      appending_turn a.vertices.now a.room.n a.room.nf a.room.nc a.positive a.w.now E K c.loop-i.i
          c.loop-i.left c.loop-i.w c.loop-i-test.true
          c.loop-i.invariant.0 (bool_byte c.append_if_taken.result) c.append_if_taken.new.w
          (by_byte c.append_if_taken.result
          (λ r. Turned a.vertices.now (closing_at a.room.n a.room.nf a.room.nc) a.room.n a.room.nf a.room.nc a.positive c.loop-i.i c.loop-i.left r c.loop-i.w c.append_if_taken.new.w)
          c.append_if_taken.ensures),
      omega (arith, c.loop-i-test.true),
    )
