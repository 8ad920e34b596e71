use Rattle.yongpham_c.proofs.yongpham_tolerance.Goals as goal

pub returns : goal.returns
returns c = c.yongpham_tolerance.ensures
