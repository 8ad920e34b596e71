use Rattle.mesh_cleanup.specs.Clean.{clean_asked, clean_result}
use Rattle.mesh_cleanup.proofs.Delivery.{short_vertices, short_facets, done}
use native.Mathlib.Omega.{arith}
use Rattle.mesh_cleanup.proofs.Outputs.{part_is}
use Rattle.words.specs.Overlay.{overlay}
use Rattle.geometry.specs.Meshes.{coordinates, vertex_of}
use Prim.Native.Nat.{ℕ}
use mathlib.Core.List.{List, map}
use mathlib.Core.Path.{refl, ap, ◌∙◌}
use Rattle.mesh_cleanup.proofs.Cleaning.clean_checked.Goals as goal

pub returns-then-out_vertices-need : goal.returns-then-out_vertices-need
returns-then-out_vertices-need c =
    let a = c.args in
    let k = a.self.now in
    short_vertices k.mesh.vertices.now (clean_result k.mesh.vertices.now k.mesh.facets.now (clean_asked k.eps)) c.stage-s.result
    c.stage-s.new.work c.stage-s.ensures a.out_vertices.now a.out_vertices.now a.out_facets.now
    a.out_facets.now c.if-out_vertices-need.true refl refl

pub returns-then-out_facets-s : goal.returns-then-out_facets-s
returns-then-out_facets-s c =
    let a = c.args in
    let k = a.self.now in
    short_facets k.mesh.vertices.now (clean_result k.mesh.vertices.now k.mesh.facets.now (clean_asked k.eps)) c.stage-s.result
    c.stage-s.new.work c.stage-s.ensures a.out_vertices.now a.out_vertices.now
    a.out_facets.now a.out_facets.now (omega (arith, c.if-out_vertices-need.false)) c.if-out_facets-s.true refl refl

pub returns : goal.returns
returns c =
    let a = c.args in
    let k = a.self.now in
    let s = c.stage-s.result in
    done k.mesh.vertices.now (clean_result k.mesh.vertices.now k.mesh.facets.now (clean_asked k.eps)) c.stage-s.result c.stage-s.new.work c.stage-s.ensures
    a.out_vertices.now c.write_vertices.new.out a.out_facets.now c.write_numbers.new.out
    (omega (arith, c.if-out_vertices-need.false)) (omega (arith, c.if-out_facets-s.false))
    (c.write_vertices.ensures ∙ ap (λ (l : List ℕ). overlay (coordinates (map (vertex_of k.mesh.vertices.now) l)) a.out_vertices.now) (part_is c.stage-s.new.work s.order s.vertices))
    (c.write_numbers.ensures ∙ ap (λ (l : List ℕ). overlay l a.out_facets.now) (part_is c.stage-s.new.work s.corners s.numbers))
