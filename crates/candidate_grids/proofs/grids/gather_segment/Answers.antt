use borrow.Author.Rules.{rules}
use Rattle.candidate_grids.proofs.Segmenting.{bound_in, end_in, UvIn, edge_in_lem, segment_in, gathered}
use Rattle.candidate_grids.proofs.grids.gather_segment.Goals.{After-project-b}
use Rattle.candidate_grids.proofs.grids.gather_segment.Goals as goal

-- ---- both ends are projected
first-in : (c : After-project-b) → UvIn c.project-a.result
first-in c = end_in _ _ _ _ _ c.requires.from c.point_of.ensures c.project-a.ensures

second-in : (c : After-project-b) → UvIn c.project-b.result
second-in c = end_in _ _ _ _ _ c.requires.to c.point_of-2.ensures c.project-b.ensures

-- which of the two bounds is meant is looked for, so that this does not say which end goes where
pub segment_bound-bound-requires : goal.segment_bound-bound-requires
segment_bound-bound-requires c =
    let p = (goal.at.segment_bound-bound-requires c).After-project-b in
    let A = first-in p in
    let B = second-in p in
    edge_in_lem _ _ (search rules) (search rules)

pub write-requires : goal.write-requires
write-requires c =
    let p = (goal.at.write-requires c).After-project-b in
    let A = first-in p in
    let B = second-in p in
    (c.requires.size, segment_in _ _ _ A B (bound_in _ _ (search rules) (search rules) _ _ c.segment_bound-bound.ensures c.requires.tolerance_in))

pub returns : goal.returns
returns c =
    let p = (goal.at.returns c).After-project-b in
    let A = first-in p in
    let B = second-in p in
    let e = c.segment_bound-bound.ensures in
    gathered _ _ _ _ _ _ _ _ _ _ _ c.point_of.ensures c.point_of-2.ensures c.project-a.ensures
    c.project-b.ensures e
    (segment_in _ _ _ A B (bound_in _ _ A B _ _ e c.requires.tolerance_in)) c.write.ensures
