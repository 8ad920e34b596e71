use Prim.Native.Nat.{ℕ}
use Rattle.mesh_filter.proofs.Keys.{ascending_below, sorted_is}
use Rattle.mesh_filter.specs.Room.{corners_key, Below}
use Rattle.words.specs.Packed.{triple}
use Rattle.geometry.specs.Numbers.{mesh_vertices_of}
use Rattle.geometry.specs.Triangles.{Triangle}
use Rattle.geometry.specs.declared.numbers.MeshVertexId.{MeshVertexId}
use Rattle.geometry.proofs.Triangles.{sorted_numbers, number_less}
use mathlib.Core.List.{List, map}
use mathlib.Core.Path.{sym, subst, ap, ◌∙◌}
use Rattle.mesh_filter.proofs.corners.corners_key.Goals as goal

abbrev numbers : List MeshVertexId → List ℕ
numbers l = map (λ v. v.0) l

pub pack_triple-requires : goal.pack_triple-requires
pack_triple-requires c =
    let t = c.args.t in
    let e = sorted_is c.sorted_vertices-s.result (mesh_vertices_of t)
    (ap numbers c.sorted_vertices-s.ensures ∙ sorted_numbers (λ (v : MeshVertexId). v.0) _ (λ x y. number_less x.0 y.0) t) in
    let h = subst (Below 2097152) (sym e) (ascending_below 2097152 (mesh_vertices_of t) c.requires) in
    (h.a, (h.b, h.c))

pub returns : goal.returns
unfolding corners_key
returns c =
    let t = c.args.t in
    c.pack_triple.ensures ∙ ap (λ (u : Triangle ℕ). triple u.a u.b u.c)
    (sorted_is c.sorted_vertices-s.result (mesh_vertices_of t)
    (ap numbers c.sorted_vertices-s.ensures ∙ sorted_numbers (λ (v : MeshVertexId). v.0) _ (λ x y. number_less x.0 y.0) t))
