use Rattle.cap_pairs.proofs.Adding.{added_new}
use Prim.Native.Nat.{ℕ, ◌+◌, ◌*◌, ◌^◌, ◌%◌}
use lib.ListN.{get_or}
use mathlib.Core.Path.{sym, ap, ◌∙◌}
use Rattle.geometry.specs.Boxes.{face_of}
use Rattle.geometry.proofs.Faces.{face_in}
use Rattle.cap_pairs.proofs.noting.add_face.Goals as goal

pub returns : goal.returns
returns c =
    let s = c in
    let a = s.args in
    let has-face' = c.has_face in
    let branch = c.if-has_face in
    added_new a.w.now a.at (face_of a.face) s.requires.0 s.requires.1 (face_in a.face) _
    (ap (λ (f : ℕ). get_or a.w.now a.at 0 + 1 * 2 ^ f % 18446744073709551616) c.index.ensures.value) (sym has-face'.ensures ∙ branch.false)
