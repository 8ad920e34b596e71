use Rattle.yongpham_c.proofs.yongpham_clip.Goals as goal

pub returns : goal.returns
returns c = c.yongpham_clip.ensures
