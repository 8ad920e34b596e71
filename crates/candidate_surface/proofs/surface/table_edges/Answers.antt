use Rattle.candidate_surface.proofs.Frames.{table_put}
use Rattle.candidate_surface.proofs.surface.table_edges.Goals as goal

pub returns : goal.returns
returns c =
    let a = c.args in
    table_put a.facets.now a.w.now c.open_edges.new.w a.n _ c.edge_table_at-table.result
    c.edge_table_at-table.ensures c.requires.facets_len
    c.requires.facets_in_bounds c.open_edges.ensures
