use Rattle.mesh_compact.proofs.Naming.{cornered}
use Rattle.mesh_compact.proofs.renumber.Renumbering.number_corner.Goals as goal

pub returns : goal.returns
returns c =
    let s = c.args.self.now in
    cornered s.kept s.at s.n s.k c.args.v.0 c.args.w c.args.m.now c.number_vertex-vertices.new.m
    c.number_vertex-vertices.result c.number_vertex-vertices.ensures c.requires.v_lt_n.0 c.requires.v_lt_n.1 c.requires.k_in_bounds
    c.requires.corners_bound _
