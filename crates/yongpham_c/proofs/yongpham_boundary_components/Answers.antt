use Rattle.yongpham_c.proofs.yongpham_boundary_components.Goals as goal

pub returns : goal.returns
returns c = c.yongpham_boundary_components.ensures
