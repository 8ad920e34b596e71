use Rattle.aabb_facets.proofs.MarkLists.{MarkedTo}
use Rattle.aabb_facets.proofs.marks.mark_all.Given as goal

abbrev pub invariant-loop-v : goal.invariant-loop-v
invariant-loop-v l = MarkedTo l.vertices l.clip.extents l.clip.eps l.initial.ids l.ids l.v
