use Rattle.yongpham_c.proofs.yongpham_candidates.Goals as goal

pub returns : goal.returns
returns c = c.yongpham_candidates.ensures
