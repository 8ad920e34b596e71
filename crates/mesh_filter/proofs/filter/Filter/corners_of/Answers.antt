use Rattle.geometry.specs.Triangles.{Triangle, tri, mapped}
use Rattle.mesh_filter.proofs.Facets.{facet_is}
use lib.ListN.{get_or}
use native.Mathlib.Omega.{arith}
use Prim.Native.Nat.{ℕ, ◌+◌, ◌*◌}
use mathlib.Core.Path.{◌≡◌, sym, ap, ◌∙◌}
use Rattle.mesh_filter.proofs.filter.Filter.corners_of.Goals as goal

-- what facet_at answers, corner by corner: each bound below is found for whichever corner is read
corners : {t u : Triangle ℕ} → t ≡ u → (t.a ≡ u.a) × ((t.b ≡ u.b) × (t.c ≡ u.c))
corners e = (ap (λ (t : Triangle ℕ). t.a) e, (ap (λ (t : Triangle ℕ). t.b) e, ap (λ (t : Triangle ℕ). t.c) e))

pub overflow_add-numbers : goal.overflow_add-numbers
overflow_add-numbers c =
    let k = c.requires.by_index in
    let f = 3 * c.args.f in
    omega (arith, k f (omega (arith, c.requires.f_in_bounds)), k (f + 1) (omega (arith, c.requires.f_in_bounds)), k (f + 2) (omega (arith, c.requires.f_in_bounds)), corners c.facet_at-t.ensures)

pub vertex_in-requires : goal.vertex_in-requires
vertex_in-requires c =
    let k = c.requires.by_index in
    let f = 3 * c.args.f in
    omega (arith, k f (omega (arith, c.requires.f_in_bounds)), k (f + 1) (omega (arith, c.requires.f_in_bounds)), k (f + 2) (omega (arith, c.requires.f_in_bounds)), corners c.facet_at-t.ensures)

pub overflow_add-numbers-2 : goal.overflow_add-numbers-2
overflow_add-numbers-2 c =
    let k = c.requires.by_index in
    let f = 3 * c.args.f in
    omega (arith, k f (omega (arith, c.requires.f_in_bounds)), k (f + 1) (omega (arith, c.requires.f_in_bounds)), k (f + 2) (omega (arith, c.requires.f_in_bounds)), corners c.facet_at-t.ensures)

pub vertex_in-requires-2 : goal.vertex_in-requires-2
vertex_in-requires-2 c =
    let k = c.requires.by_index in
    let f = 3 * c.args.f in
    omega (arith, k f (omega (arith, c.requires.f_in_bounds)), k (f + 1) (omega (arith, c.requires.f_in_bounds)), k (f + 2) (omega (arith, c.requires.f_in_bounds)), corners c.facet_at-t.ensures)

pub overflow_add-numbers-3 : goal.overflow_add-numbers-3
overflow_add-numbers-3 c =
    let k = c.requires.by_index in
    let f = 3 * c.args.f in
    omega (arith, k f (omega (arith, c.requires.f_in_bounds)), k (f + 1) (omega (arith, c.requires.f_in_bounds)), k (f + 2) (omega (arith, c.requires.f_in_bounds)), corners c.facet_at-t.ensures)

pub vertex_in-requires-3 : goal.vertex_in-requires-3
vertex_in-requires-3 c =
    let k = c.requires.by_index in
    let f = 3 * c.args.f in
    omega (arith, k f (omega (arith, c.requires.f_in_bounds)), k (f + 1) (omega (arith, c.requires.f_in_bounds)), k (f + 2) (omega (arith, c.requires.f_in_bounds)), corners c.facet_at-t.ensures)

pub returns-clause-numbers : goal.returns-clause-numbers
returns-clause-numbers c =
    let k = c.args.self.now in
    (λ i. tri (c.vertex_in.ensures i) (c.vertex_in-2.ensures i) (c.vertex_in-3.ensures i))
    ∙ ap (mapped (λ v. get_or c.args.m.now (k.welded.numbers + v) 0)) c.facet_at-t.ensures

pub returns-clause-in_room : goal.returns-clause-in_room
returns-clause-in_room c = λ h N.
    let k = c.args.self.now in
    (λ i. tri (c.vertex_in.ensures i) (c.vertex_in-2.ensures i) (c.vertex_in-3.ensures i))
    ∙ ap (mapped (λ v. get_or c.args.m.now (k.welded.numbers + v) 0)) c.facet_at-t.ensures
    ∙ sym (facet_is k.welded k.mesh.vertices.now k.mesh.facets.now k.at k.n c.args.m.now N c.args.f h)
