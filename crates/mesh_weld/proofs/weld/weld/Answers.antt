use Rattle.mesh_weld.proofs.Steps.{going_start}
use mathlib.Core.Path.{refl}
use Rattle.mesh_weld.proofs.weld.weld.Goals as goal

pub loop-i-init : goal.loop-i-init
loop-i-init c =
    let a = c.args in
    (going_start a.vs.now a.eps a.n a.m.now c.zero_part.new.w c.requires.n_bound.0 c.requires.n_bound.1 c.requires.n_bound.2 c.zero_part.ensures, refl)
