use Prim.Native.Nat.{◌≤◌}
use Rattle.cap_pairs.proofs.Adding.{Below}
use Rattle.cap_pairs.specs.Steps.{Added}
use Rattle.cap_pairs.proofs.noting.add_faces.Given as goal

-- `add_faces` meets its contract: the mask's faces among those before `face` are added. Assumes nothing.
abbrev pub invariant-loop-face : goal.invariant-loop-face
invariant-loop-face l = Added l.initial.w l.w l.at (Below l.mask.0 l.face-index) × (l.face-index ≤ 6)
