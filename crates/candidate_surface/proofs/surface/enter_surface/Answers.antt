use native.Mathlib.Omega.{arith}
use Rattle.candidate_surface.proofs.Completing.{fits_same, table_left, surfaced}
use Rattle.candidate_surface.proofs.surface.enter_surface.Goals as goal

pub clear_pool-requires : goal.clear_pool-requires
clear_pool-requires c = omega (arith, c.requires.mesh_fits.size)

pub enter_edges-requires : goal.enter_edges-requires
enter_edges-requires c =
    let a = c.args in record {
      mesh_fits = fits_same a.mesh.vertices.now a.mesh.facets.now a.n a.w.now c.clear_pool.new.w c.clear_pool.auto.w
          c.requires.mesh_fits;
      table_at = table_left a.mesh.vertices.now a.mesh.facets.now a.clip.extents a.clip.eps a.n a.k a.w.now c.clear_pool.new.w
          (c.clear_pool.ensures a.clip.eps) c.requires.tabled;
      vertices_in = c.requires.vertices_in;
      holds = let clear = c.clear_pool.ensures a.clip.eps in (clear.holds, clear.pool, clear.joined);
    }

pub returns : goal.returns
returns c =
    let a = c.args in (
      surfaced a.mesh.vertices.now a.mesh.facets.now a.clip.extents a.clip.eps a.n a.k _ c.clear_pool.new.w
          c.enter_edges.new.w c.enter_edges.ensures,
      c.enter_edges.ensures.listed,
    )
