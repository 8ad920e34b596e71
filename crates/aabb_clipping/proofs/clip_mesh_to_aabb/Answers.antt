use Rattle.refusals.proofs.Answers.{answered}
use Rattle.aabb_clipping.proofs.clip_mesh_to_aabb.Goals as goal

pub returns : goal.returns
returns c = let p = c.clip_lent-reply in answered _ _ c.args.work.now p.new.work _ _ p.ensures p.auto.work c.zero.ensures
