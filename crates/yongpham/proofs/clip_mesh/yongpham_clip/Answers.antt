use mathlib.Core.Path.{sym}
use Rattle.refusals.proofs.Answers.{called}
use Rattle.yongpham.proofs.clip_mesh.yongpham_clip.Goals as goal

pub returns : goal.returns
returns c = rw (sym c.box_of-extents.ensures) (called _ _ _ _ _ _ _ c.clip_mesh_to_aabb-reply.ensures c.report_reply.ensures)
