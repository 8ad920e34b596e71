use mathlib.Core.Path.{refl}
use lib.Dec.{lit≤}
use lib.Ieee.{of_bits}
use Rattle.geometry.specs.Meshes.{points_of}
use Rattle.candidate_pool.specs.Standing.{joined_in, pool_at, Holds}
use Rattle.candidate_edges.specs.Steps.{Sourced, CornersEntered}
use Rattle.candidate_surface.proofs.Fitting.{skip_within, vertices_in, of_clip, to_clip}
use Rattle.candidate_surface.proofs.Completing.{grids_ready, completed}
use Rattle.candidate_surface.proofs.surface.complete.Goals.{After-enter_corners}
use Rattle.candidate_surface.proofs.surface.complete.Goals as goal

pub enter_corners-requires : goal.enter_corners-requires
enter_corners-requires c =
    let a = c.args in record {
      holds = (to_clip a.asked _ (λ box eps. Holds eps a.n a.w.now) c.clip.ensures c.requires.surfaced.holds, c.requires.mesh_fits.0.vertices);
      vertices_in = vertices_in a.mesh.vertices.now a.mesh.facets.now a.asked c.requires.sound;
      sourced = to_clip a.asked _ (λ box eps. Sourced (points_of a.mesh.vertices.now) eps (pool_at a.n a.w.now) (joined_in a.n a.w.now)) c.clip.ensures
          c.requires.surfaced.sourced;
    }

-- the corner vertices of the box that is asked
corners_in : (c : After-enter_corners) → CornersEntered c.args.mesh.vertices.now c.args.asked.extents c.args.asked.eps c.args.n c.args.w.now c.enter_corners.new.w
corners_in c =
    let a = c.args in
    of_clip a.asked _ (λ box eps. CornersEntered a.mesh.vertices.now box eps a.n a.w.now c.enter_corners.new.w) c.clip.ensures c.enter_corners.ensures

pub enter_grids-requires : goal.enter_grids-requires
unfolding of_bits
enter_grids-requires c =
    let a = c.args in
    (grids_ready a.mesh.vertices.now a.mesh.facets.now a.asked.extents a.asked.eps a.n a.k a.asked.resolution c.requires.sound
    a.w.now c.enter_corners.new.w c.requires.mesh_fits.0
    c.requires.mesh_fits.1 c.requires.mesh_fits.2
    c.requires.surfaced c.enter_corners.auto.w
    (corners_in (goal.at.enter_grids-requires c).After-enter_corners) c.cuts.result.grid c.cuts.ensures _
    (skip_within a.asked.resolution _ c.requires.sound.resolution_in (record { is_finite = tt; size = lit≤ tt })))

pub returns : goal.returns
returns c =
    let a = c.args in
    completed a.mesh.vertices.now a.mesh.facets.now a.asked.extents a.asked.eps a.n a.k a.asked.resolution
    c.requires.sound a.w.now
    c.enter_corners.new.w
    c.requires.mesh_fits.0
    c.requires.mesh_fits.1
    c.requires.mesh_fits.2
    c.requires.surfaced
    c.enter_corners.auto.w (corners_in (goal.at.returns c).After-enter_corners) c.cuts.result.grid c.cuts.ensures _ refl _
    c.enter_grids.ensures
