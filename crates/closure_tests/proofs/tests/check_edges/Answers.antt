use Prim.Native.Nat.{ℕ, ◌+◌, ◌*◌, ◌<◌}
use native.Mathlib.Omega.{arith}
use lib.ListN.{length, get_or}
use lib.Dec.{eqb}
use mathlib.Core.Path.{◌≡◌, sym, ap, ◌∙◌}
use Rattle.lists.proofs.Bools.{or_next, or_stop}
use Rattle.lists.proofs.Found.{some_found, none_found}
use Rattle.lists.specs.Found.{found}
use Rattle.geometry.specs.Triangles.{threes}
use Rattle.geometry.specs.Meshes.{mesh_of}
use Rattle.edges.specs.Edges.{open_edges}
use Rattle.candidate_edges.specs.Surface.{edge_faces}
use Rattle.candidate_surface.proofs.Fitting.{of_clip}
use Rattle.closure_tests.proofs.Checking.{key_refused, edge_refused, edges_passed, ends_of}
use Rattle.closure_tests.proofs.tests.check_edges.Goals as goal
use Rattle.closure_tests.proofs.tests.check_edges.Goals.{After-stray_edge, After-edge_table_at, then-has_far_key-via-then-has_far_key, then-has_far_key-via-else-has_far_key+then-box_has_far_key}

-- the first open edge on no face of the box that is asked
stray_is : (c : After-stray_edge) → let a = c.args in
    c.stray_edge.result ≡ found (λ e. eqb (length (edge_faces a.asked.extents a.asked.eps (mesh_of a.mesh.vertices.now a.mesh.facets.now) e)) 0)
    (open_edges (threes a.mesh.facets.now))
stray_is c =
    let a = c.args in
    of_clip a.asked _ (λ box eps. c.stray_edge.result ≡ found (λ e. eqb (length (edge_faces box eps (mesh_of a.mesh.vertices.now a.mesh.facets.now) e)) 0)
    (open_edges (threes a.mesh.facets.now))) c.clip.ensures c.stray_edge.ensures

-- the word that the key is read from
stray_in : (c : After-edge_table_at) → (c.in-Some.stray < c.args.k) × (c.edge_table_at.result + 2 * c.in-Some.stray + 1 < length c.args.w.now)
stray_in c =
    let f = some_found _ _ _ (sym c.stray_edge.ensures ∙ c.in-Some.is) in
    let l : c.in-Some.stray < c.args.k = omega (arith, f.1, c.requires.tabled.table.count) in
    (l, omega (arith, c.requires.mesh_fits.size, c.requires.mesh_fits.threes, c.requires.tabled.table.within, c.edge_table_at.ensures))

pub returns-then-has_far_key : goal.returns-then-has_far_key
returns-then-has_far_key c =
    let a = c.args in
    key_refused a.mesh.vertices.now a.mesh.facets.now a.asked
    (elim c.then-has_far_key.branch [
      | then-has_far_key-via-then-has_far_key w ↦ or_stop _ _ (sym c.has_far_key.ensures ∙ w.if-has_far_key.true)
      | then-has_far_key-via-else-has_far_key+then-box_has_far_key w ↦
          or_next _ _ _ (sym c.has_far_key.ensures ∙ w.if-has_far_key.false) (sym w.box_has_far_key.ensures ∙ w.if-box_has_far_key.true)
    ])

pub overflow_mul-key : goal.overflow_mul-key
overflow_mul-key c = omega (arith, (stray_in (goal.at.overflow_mul-key c).After-edge_table_at).1)

pub overflow_add-key : goal.overflow_add-key
overflow_add-key c = omega (arith, (stray_in (goal.at.overflow_add-key c).After-edge_table_at).1)

pub offset_bounds-w-edge_table_at : goal.offset_bounds-w-edge_table_at
offset_bounds-w-edge_table_at c = omega (arith, (stray_in (goal.at.offset_bounds-w-edge_table_at c).After-edge_table_at).1)

pub bounds-w-edge_table_at : goal.bounds-w-edge_table_at
bounds-w-edge_table_at c = omega (arith, (stray_in (goal.at.bounds-w-edge_table_at c).After-edge_table_at).1)

pub returns-in-Some : goal.returns-in-Some
returns-in-Some c =
    let a = c.args in
    let f = some_found _ _ _ (sym (stray_is (goal.at.returns-in-Some c).After-stray_edge) ∙ c.in-Some.is) in
    let l = (stray_in (goal.at.returns-in-Some c).After-edge_table_at).0 in
    let q = ends_of a.mesh.vertices.now a.mesh.facets.now a.n a.k a.w.now c.requires.mesh_fits c.requires.tabled _ l _
    (ap (λ (x : ℕ). get_or a.w.now (x + 2 * c.in-Some.stray) 0) c.edge_table_at.ensures) in
    edge_refused a.mesh.vertices.now a.mesh.facets.now a.asked
    (or_next _ _ _ (sym c.has_far_key.ensures ∙ c.if-has_far_key.false) (sym c.box_has_far_key.ensures ∙ c.if-box_has_far_key.false)) _ (sym f.0) a.k
    c.requires.tabled.table.count _ _ (ap (λ (r : ℕ × ℕ). r.0) c.unpack_pair-smaller.ensures ∙ q.smaller)
    (ap (λ (r : ℕ × ℕ). r.1) c.unpack_pair-smaller.ensures ∙ q.greater) l

pub returns : goal.returns
returns c =
    let a = c.args in
    let e = none_found _ _ (sym (stray_is (goal.at.returns c).After-stray_edge) ∙ c.in_default.is) in
    edges_passed a.mesh.vertices.now a.mesh.facets.now a.asked
    (or_next _ _ _ (sym c.has_far_key.ensures ∙ c.if-has_far_key.false) (sym c.box_has_far_key.ensures ∙ c.if-box_has_far_key.false)) _ (sym e) a.k
    c.requires.tabled.table.count (omega (arith, c.requires.tabled.table.count))
