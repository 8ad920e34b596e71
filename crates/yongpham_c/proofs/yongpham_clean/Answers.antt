use Rattle.yongpham_c.proofs.yongpham_clean.Goals as goal

pub returns : goal.returns
returns c = c.yongpham_clean.ensures
