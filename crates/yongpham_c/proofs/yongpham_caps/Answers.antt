use Rattle.yongpham_c.proofs.yongpham_caps.Goals as goal

pub returns : goal.returns
returns c = c.yongpham_caps.ensures
