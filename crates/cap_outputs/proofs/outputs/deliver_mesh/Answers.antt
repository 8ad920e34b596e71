use Rattle.cap_outputs.proofs.Delivery.{short_vertices, short_facets, done, mesh_numbers, mesh_facets}
use Rattle.geometry.specs.Meshes.{mesh_of}
use Rattle.words.specs.Overlay.{overlay}
use Prim.Native.Nat.{ℕ}
use lib.Ieee.{Float}
use lib.ListN.{length}
use mathlib.Core.List.{List}
use mathlib.Core.Path.{ap, ◌∙◌}
use Rattle.cap_outputs.proofs.outputs.deliver_mesh.Goals as goal

pub returns-then-out_vertices-mesh : goal.returns-then-out_vertices-mesh
returns-then-out_vertices-mesh c =
    let a = c.args in
    let x = mesh_numbers a.mesh.vertices.now a.mesh.facets.now c.requires.0 c.requires.1 in
    let y = mesh_facets a.mesh.vertices.now a.mesh.facets.now c.requires.0 c.requires.1 in
    short_vertices (mesh_of a.mesh.vertices.now a.mesh.facets.now) (length a.mesh.vertices.now) (length a.mesh.facets.now) (ap length x) (ap length y) a.out_vertices.now
    a.out_facets.now c.if-out_vertices-mesh.true

pub returns-then-out_facets-mesh : goal.returns-then-out_facets-mesh
returns-then-out_facets-mesh c =
    let a = c.args in
    let x = mesh_numbers a.mesh.vertices.now a.mesh.facets.now c.requires.0 c.requires.1
    in
    let y = mesh_facets a.mesh.vertices.now a.mesh.facets.now c.requires.0 c.requires.1
    in
    short_facets (mesh_of a.mesh.vertices.now a.mesh.facets.now) (length a.mesh.vertices.now) (length a.mesh.facets.now) (ap length x) (ap length y) a.out_vertices.now
    a.out_facets.now c.if-out_vertices-mesh.false c.if-out_facets-mesh.true

pub returns : goal.returns
returns c =
    let a = c.args in
    let x = mesh_numbers a.mesh.vertices.now a.mesh.facets.now c.requires.0 c.requires.1 in
    let y = mesh_facets a.mesh.vertices.now a.mesh.facets.now c.requires.0 c.requires.1 in
    done (mesh_of a.mesh.vertices.now a.mesh.facets.now) (length a.mesh.vertices.now) (length a.mesh.facets.now) (ap length x) (ap length y) a.out_vertices.now a.out_facets.now
    c.if-out_vertices-mesh.false c.if-out_facets-mesh.false _ _
    (c.copy_front.ensures ∙ ap (λ (l : List Float). overlay l a.out_vertices.now) x)
    (c.copy_front-2.ensures ∙ ap (λ (l : List ℕ). overlay l a.out_facets.now) y)
