use mathlib.Core.Path.{◌∙◌}
use native.Mathlib.Omega.{arith}
use lib.ListN.{length}
use Prim.Native.Nat.{◌/◌}
use Rattle.candidate_pool.specs.Standing.{Holds}
use Rattle.candidate_constraints.specs.Steps.{Constrained}
use Rattle.boundary_closure.proofs.Listing.{no_ends_left, ends_left, Made, made_of}
use Rattle.boundary_closure.proofs.Delivery.{no_ends, some_ends}
use Rattle.candidate_surface.proofs.Fitting.{vertices_in, most_small, of_clip, to_clip}
use Rattle.candidate_surface.proofs.Completing.{fits_same, Entered, entered}
use Rattle.boundary_closure.proofs.front.list_candidates.Goals.{After-enter_surface-listed}
use Rattle.boundary_closure.proofs.front.list_candidates.Goals as goal

-- the open edges' ends, of the box that is asked
entered_in : (c : After-enter_surface-listed) → let a = c.args in
    Entered a.mesh.vertices.now a.mesh.facets.now a.asked.extents a.asked.eps a.n a.k c.enter_surface-listed.result c.enter_surface-listed.new.w
entered_in c = entered c.args.mesh.vertices.now c.args.mesh.facets.now c.args.asked _ c.args.n c.args.k _ _ c.clip-clip.ensures c.enter_surface-listed.ensures

pub enter_surface-listed-requires : goal.enter_surface-listed-requires
enter_surface-listed-requires c =
    let a = c.args in record {
      mesh_fits = c.requires.mesh_fits.0;
      tabled = c.requires.tabled;
      vertices_in = vertices_in a.mesh.vertices.now a.mesh.facets.now a.asked
          c.requires.sound;
    }

pub returns-then-listed-eq0 : goal.returns-then-listed-eq0
returns-then-listed-eq0 c =
    let a = c.args in
    no_ends a.mesh.vertices.now a.mesh.facets.now a.asked a.candidates.now a.face_lists.now a.constraints.now a.open_edges.now
    (no_ends_left a.mesh.vertices.now a.mesh.facets.now a.asked c.enter_surface-listed.result
    (entered_in (goal.at.returns-then-listed-eq0 c).After-enter_surface-listed).1 c.if-listed-eq0.true)

pub complete-requires : goal.complete-requires
complete-requires c =
    let a = c.args in record {
      sound = c.requires.sound;
      mesh_fits = (
        (fits_same a.mesh.vertices.now a.mesh.facets.now a.n a.w.now c.enter_surface-listed.new.w
            c.enter_surface-listed.auto.w
            c.requires.mesh_fits.0),
        c.requires.mesh_fits.1,
        c.requires.tabled.table.within,
      );
      surfaced = (entered_in (goal.at.complete-requires c).After-enter_surface-listed).0;
    }

pub invariant_of-room : goal.invariant_of-room
invariant_of-room c = let M = c.requires.mesh_fits.0 in record { small = (M.small, M.few) }

pub all_constraints-total-requires : goal.all_constraints-total-requires
all_constraints-total-requires c =
    let s = c in
    let a = s.args in
    let M = s.requires.mesh_fits.0 in
    let m = most_small a.mesh.vertices.now a.mesh.facets.now a.asked s.requires.sound in record {
      holds = to_clip a.asked _ (λ box eps. Holds eps a.n c.complete.new.w) c.clip-clip.ensures c.complete.ensures.holds;
      edges_held = c.complete.ensures.held;
      n_bound = (
        omega (arith, s.requires.mesh_fits.1, m),
        omega (arith, M.threes, s.requires.tabled.table.within),
        omega (arith, M.size, c.enter_surface-listed.auto.w, c.complete.auto.w),
      );
    }

pub deliver-requires : goal.deliver-requires
deliver-requires c =
    let made : Made c.args.mesh.vertices.now c.args.mesh.facets.now c.args.asked c.args.n
    c.args.k c.enter_surface-listed.result c.all_constraints-total.result c.all_constraints-total.new.w = let completed = c in
    let a = c.args in
    let w = completed.complete.new.w in
    made_of a.mesh.vertices.now a.mesh.facets.now a.asked c.enter_surface-listed.result (entered_in (goal.at.deliver-requires c).After-enter_surface-listed).1 a.n a.k
    c.all_constraints-total.result w c.all_constraints-total.new.w
    (fits_same a.mesh.vertices.now a.mesh.facets.now a.n a.w.now w
    (completed.complete.auto.w ∙ c.enter_surface-listed.auto.w) c.requires.mesh_fits.0) c.requires.tabled.table.within
    completed.complete.ensures
    (of_clip a.asked _ (λ box eps. Constrained box eps a.n (length a.mesh.facets.now / 3) a.k c.all_constraints-total.result w c.all_constraints-total.new.w) c.clip-clip.ensures
    c.all_constraints-total.ensures) in
    made.readable

pub returns : goal.returns
returns c =
    let made : Made c.args.mesh.vertices.now c.args.mesh.facets.now c.args.asked c.args.n
    c.args.k c.enter_surface-listed.result c.all_constraints-total.result c.all_constraints-total.new.w = let completed = c in
    let a = c.args in
    let w = completed.complete.new.w in
    made_of a.mesh.vertices.now a.mesh.facets.now a.asked c.enter_surface-listed.result (entered_in (goal.at.returns c).After-enter_surface-listed).1 a.n a.k
    c.all_constraints-total.result w c.all_constraints-total.new.w
    (fits_same a.mesh.vertices.now a.mesh.facets.now a.n a.w.now w
    (completed.complete.auto.w ∙ c.enter_surface-listed.auto.w) c.requires.mesh_fits.0) c.requires.tabled.table.within
    completed.complete.ensures
    (of_clip a.asked _ (λ box eps. Constrained box eps a.n (length a.mesh.facets.now / 3) a.k c.all_constraints-total.result w c.all_constraints-total.new.w) c.clip-clip.ensures
    c.all_constraints-total.ensures) in
    let m = c in
    let a = c.args in
    let q = a.asked in
    some_ends a.mesh.vertices.now a.mesh.facets.now q a.candidates.now _ a.face_lists.now _ a.constraints.now _ a.open_edges.now _
    (ends_left a.mesh.vertices.now a.mesh.facets.now q c.enter_surface-listed.result (entered_in (goal.at.returns c).After-enter_surface-listed).1
    m.if-listed-eq0.false) _ made.standing _ c.deliver.ensures
