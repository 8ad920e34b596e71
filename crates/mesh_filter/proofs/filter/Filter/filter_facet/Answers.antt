use Rattle.chains.specs.Links.{id_in, link_to}
use Rattle.lists.specs.Regions.{view}
use lib.Dec.{eqb}
use Rattle.mesh_filter.proofs.Steps.{dropped, tail_low, through}
use Rattle.mesh_filter.proofs.Passing.{repeated_stops, flat_stops, duplicate_stops, goes_through}
use Rattle.mesh_filter.proofs.Facets.{facet_below, facet_small, no_duplicate, is_duplicate_lem}
use Rattle.mesh_filter.specs.Room.{points_in_room, facets_in_room, corners_key, Below, FacetFiltered}
use Rattle.mesh_filter.specs.Filters.{facet_at, has_repeated_corner, is_flat, passed}
use Rattle.geometry.specs.Numbers.{mesh_vertices_of}
use Rattle.geometry.specs.Triangles.{Triangle}
use lib.ListN.{set}
use Prim.Native.Nat.{ℕ, ◌+◌, ◌*◌}
use mathlib.Core.List.{List}
use mathlib.Core.Path.{sym, ap, ◌∙◌, subst}
use Rattle.mesh_filter.proofs.filter.Filter.filter_facet.Goals as goal
use Rattle.mesh_filter.proofs.filter.Filter.filter_facet.Goals.{then-has_repeated_corner-via-then-has_repeated_corner, then-has_repeated_corner-via-else-has_repeated_corner+then-is_flat}

pub is_flat-requires-clause-below : goal.is_flat-requires-clause-below
is_flat-requires-clause-below c =
    let k = c.args.self.now in
    subst (Below k.welded.count) (sym (c.corners_of-t.ensures.in_room c.requires.f_lt_n c.requires.numbered))
    (facet_below k.welded k.mesh.vertices.now k.mesh.facets.now k.at k.n c.args.m.now c.requires.numbered c.args.f c.requires.f_lt_n)

pub returns-then-has_repeated_corner : goal.returns-then-has_repeated_corner
returns-then-has_repeated_corner c =
    let k = c.args.self.now in
    let m = c.args.m.now in
    let P = points_in_room k.welded k.mesh.vertices.now m in
    let F = facets_in_room k.welded k.mesh.vertices.now k.mesh.facets.now m in
    let f = c.args.f in
    dropped k.eps P F k.at k.n f c.args.count m c.requires.filtered_so_far c.requires.numbered.room c.requires.f_lt_n
    (elim c.then-has_repeated_corner.branch [
      | then-has_repeated_corner-via-then-has_repeated_corner w ↦
          repeated_stops k.eps P F (passed k.eps P F f) (facet_at F f)
          (ap has_repeated_corner (sym (c.corners_of-t.ensures.in_room c.requires.f_lt_n c.requires.numbered)) ∙ sym c.has_repeated_corner.ensures ∙ w.if-has_repeated_corner.true)
      | then-has_repeated_corner-via-else-has_repeated_corner+then-is_flat w ↦
          flat_stops k.eps P F (passed k.eps P F f) (facet_at F f)
          (ap (λ (u : Triangle ℕ). is_flat k.eps P u) (sym (c.corners_of-t.ensures.in_room c.requires.f_lt_n c.requires.numbered)) ∙ sym w.is_flat.ensures.in_room ∙ w.if-is_flat.true)
    ])

pub corners_key-key-requires : goal.corners_key-key-requires
corners_key-key-requires c =
    let k = c.args.self.now in
    subst (Below 2097152) (sym (c.corners_of-t.ensures.in_room c.requires.f_lt_n c.requires.numbered))
    (facet_small k.welded k.mesh.vertices.now k.mesh.facets.now k.at k.n c.args.m.now c.requires.numbered c.args.f)

pub returns-then-is_some : goal.returns-then-is_some
returns-then-is_some c =
    let k = c.args.self.now in
    let m = c.args.m.now in
    let N = c.requires.numbered in
    let G = c.requires.filtered_so_far in
    let P = points_in_room k.welded k.mesh.vertices.now m in
    let F = facets_in_room k.welded k.mesh.vertices.now k.mesh.facets.now m in
    let f = c.args.f in
    dropped k.eps P F k.at k.n f c.args.count m G N.room c.requires.f_lt_n
    (duplicate_stops k.eps P F (passed k.eps P F f) (facet_at F f)
    (is_duplicate_lem k.welded k.mesh.vertices.now k.mesh.facets.now k.at k.n m N (facet_at F f)
    (facet_small k.welded k.mesh.vertices.now k.mesh.facets.now k.at k.n m N f) (passed k.eps P F f) _ G.keys c.find_key.result
    (c.find_key.ensures ∙ ap (λ (x : ℕ). id_in (link_to (eqb x) (view m (k.at + 9 * k.n) c.args.count)))
    (c.corners_key-key.ensures ∙ ap corners_key (c.corners_of-t.ensures.in_room c.requires.f_lt_n c.requires.numbered))) (sym c.is_some.ensures ∙ c.if-is_some.true)))

pub enter-requires-clause-b_bound : goal.enter-requires-clause-b_bound
enter-requires-clause-b_bound c =
    let k = c.args.self.now in
    tail_low k.eps _ _ k.at k.n c.args.f c.args.count c.args.m.now c.requires.filtered_so_far c.requires.numbered.room c.requires.f_lt_n
    c.bucket-b.result c.bucket-b.ensures.low

pub returns : goal.returns
returns c =
    let k = c.args.self.now in
    let m = c.args.m.now in
    let N = c.requires.numbered in
    let G = c.requires.filtered_so_far in
    let P = points_in_room k.welded k.mesh.vertices.now m in
    let F = facets_in_room k.welded k.mesh.vertices.now k.mesh.facets.now m in
    let f = c.args.f in
    let n = c.args.count in
    let t = c.corners_of-t.result in
    let e = c.corners_of-t.ensures.in_room c.requires.f_lt_n c.requires.numbered in
    subst (λ (l : List ℕ). FacetFiltered k.eps P F k.at k.n (f + 1) (n + 1) m l)
    (sym (c.put_facet.ensures ∙ ap (λ (l : List ℕ). set
    (set (set (set (set l (k.at + 9 * k.n + n) c.corners_key-key.result)
    (k.at + 10 * k.n + n) f) (k.at + 11 * k.n + 3 * n) t.a.0)
    (k.at + 11 * k.n + 3 * n + 1) t.b.0) (k.at + 11 * k.n + 3 * n + 2) t.c.0)
    c.enter.ensures))
    (through k.eps P F k.at k.n f n m G N.room c.requires.f_lt_n c.bucket-b.result
    c.corners_key-key.result (mesh_vertices_of t) e c.corners_key-key.ensures c.bucket-b.ensures
    (goes_through k.eps P F (passed k.eps P F f) (facet_at F f)
    (ap has_repeated_corner (sym e) ∙ sym c.has_repeated_corner.ensures ∙ c.if-has_repeated_corner.false)
    (ap (λ (u : Triangle ℕ). is_flat k.eps P u) (sym e) ∙ sym c.is_flat.ensures.in_room ∙ c.if-is_flat.false)
    (no_duplicate k.welded k.mesh.vertices.now k.mesh.facets.now k.at k.n m N (facet_at F f)
    (facet_small k.welded k.mesh.vertices.now k.mesh.facets.now k.at k.n m N f) (passed k.eps P F f) _ G.keys c.find_key.result
    (c.find_key.ensures ∙ ap (λ (x : ℕ). id_in (link_to (eqb x) (view m (k.at + 9 * k.n) n)))
    (c.corners_key-key.ensures ∙ ap corners_key e)) (sym c.is_some.ensures ∙ c.if-is_some.false))))
