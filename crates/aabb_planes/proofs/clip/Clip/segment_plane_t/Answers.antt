use mathlib.Core.Path.{sym, ◌∙◌}
use Rattle.aabb_planes.specs.Planes.{crossing}
use Rattle.aabb_planes.proofs.clip.Clip.segment_plane_t.Goals as goal

pub returns-then-within : goal.returns-then-within
unfolding crossing
returns-then-within c =
    rw (← c.place-coord.ensures, ← c.axis-axis.ensures, ← c.along-start.ensures, ← c.along-end.ensures)
    (simp (sym c.within.ensures ∙ c.if-within.true))

pub returns-then-within-2 : goal.returns-then-within-2
unfolding crossing
returns-then-within-2 c =
    let within = c.within in
    let if1 = c.if-within in
    rw (← c.place-coord.ensures, ← c.axis-axis.ensures, ← c.along-start.ensures, ← c.along-end.ensures)
    (simp (sym within.ensures ∙ if1.false, sym c.within-2.ensures ∙ c.if-within-2.true))

pub returns-then-da-db : goal.returns-then-da-db
unfolding crossing
returns-then-da-db c =
    let within = c.within in
    let if1 = c.if-within in
    let within2 = c.within-2 in
    let if2 = c.if-within-2 in
    rw (← c.place-coord.ensures, ← c.axis-axis.ensures, ← c.along-start.ensures, ← c.along-end.ensures)
    (simp (sym within.ensures ∙ if1.false, sym within2.ensures ∙ if2.false, c.if-da-db.true))

pub returns : goal.returns
unfolding crossing
returns c =
    let within = c.within in
    let if1 = c.if-within in
    let within2 = c.within-2 in
    let if2 = c.if-within-2 in
    rw (← c.place-coord.ensures, ← c.axis-axis.ensures, ← c.along-start.ensures, ← c.along-end.ensures)
    (simp (sym within.ensures ∙ if1.false, sym within2.ensures ∙ if2.false, c.if-da-db.false))
