use Rattle.aabb_planes.specs.Planes.{snap_to}
use mathlib.Core.Path.{sym, ◌∙◌}
use Rattle.aabb_planes.proofs.clip.Clip.snap_to.Goals as goal

pub returns-then-within : goal.returns-then-within
unfolding snap_to
returns-then-within c = simp (sym c.within.ensures ∙ c.if-within.true)

pub returns-else-within : goal.returns-else-within
unfolding snap_to
returns-else-within c = simp (sym c.within.ensures ∙ c.if-within.false)
