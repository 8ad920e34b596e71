use mathlib.Core.Path.{subst, sym}
use Prim.Native.Nat.{ℕ, ◌+◌, ◌*◌, ◌%◌, ◌^◌}
use native.Mathlib.Omega.{arith}
use lib.Dec.{leb}
use mir.Val.{bool_byte}
use Rattle.root.specs.Drawn.{Appended}
use Rattle.root.proofs.Digits.{append_one, append_zero}
use Rattle.root.proofs.Drawing.draw.Goals as goal
use Rattle.root.proofs.Drawing.draw.Goals.{then-goes, else-goes}

pub returns : goal.returns
returns c =
    let r = c.args.self.root in
    let s = c.args.self.rest in
    let d : ℕ = r * 2 % 2 ^ 64 + bool_byte (leb (r * 4 % 2 ^ 64 + 1) (s * 4 % 2 ^ 64 + c.args.pair)) in
    elim c.if-goes.branch [
      | then-goes w ↦ subst (Appended 1 c.args.pair r s d) (sym w.result-is) (append_one c.args.self.left_over c.requires.1 (omega arith) (omega arith) (omega arith) w.if-goes.true)
      | else-goes w ↦ subst (Appended 1 c.args.pair r s d) (sym w.result-is) (append_zero c.args.self.left_over c.requires.1 (omega arith) (omega arith) (omega arith) w.if-goes.false)
    ]
