use Rattle.std.proofs.lemmas.Result.{err_from_is_err_and}
use Rattle.caps.proofs.Ordering.{edges_refused, edges_passed}
use Rattle.caps.proofs.Fitting.{tabled_room, listable_same}
use Rattle.candidate_surface.specs.Steps.{most_candidates}
use Rattle.candidate_surface.proofs.Fitting.{mesh_fits, most_small}
use native.Mathlib.Omega.{arith}
use mathlib.Core.Path.{sym, ◌∙◌}
use Rattle.caps.proofs.front.make_caps.Goals as goal

pub table_edges-k-requires : goal.table_edges-k-requires
table_edges-k-requires c =
    let a = c.args in record {
      facets_len = c.requires.sound.lists.whole_facets;
      n_bound = (
        let q = most_small a.mesh.vertices.now a.mesh.facets.now a.asked
            c.requires.sound in omega (arith, c.most_candidates-n.ensures, q),
        omega
            (arith, c.requires.sound.lists.few_facets),
      );
      facets_in_bounds = let q = tabled_room a.mesh.vertices.now a.mesh.facets.now
          a.cap_list.now (most_candidates a.mesh.vertices.now a.asked) a.w.now
          c.requires.listable in omega (arith, q, c.most_candidates-n.ensures);
    }

pub check_edges-requires : goal.check_edges-requires
check_edges-requires c =
    let a = c.args in record {
      mesh_fits = mesh_fits a.mesh.vertices.now a.mesh.facets.now a.asked
          c.requires.sound c.most_candidates-n.result
          c.table_edges-k.new.w c.most_candidates-n.ensures
          (let q = tabled_room a.mesh.vertices.now a.mesh.facets.now a.cap_list.now (most_candidates a.mesh.vertices.now a.asked) a.w.now
          c.requires.listable in omega
          (arith, q, c.table_edges-k.auto.w));
      tabled = c.table_edges-k.ensures;
    }

pub cap_edges-requires : goal.cap_edges-requires
cap_edges-requires c =
    let a = c.args in record {
      sound = c.requires.sound;
      mesh_fits = (
        mesh_fits a.mesh.vertices.now a.mesh.facets.now a.asked
            c.requires.sound
            c.most_candidates-n.result
            c.table_edges-k.new.w
            c.most_candidates-n.ensures
            (let q = tabled_room a.mesh.vertices.now a.mesh.facets.now a.cap_list.now (most_candidates a.mesh.vertices.now a.asked) a.w.now
            c.requires.listable in omega
            (arith, q, c.table_edges-k.auto.w)),
        c.most_candidates-n.ensures,
      );
      listable = listable_same a.mesh.vertices.now a.mesh.facets.now a.cap_list.now (most_candidates a.mesh.vertices.now a.asked)
          c.most_candidates-n.result a.w.now
          c.table_edges-k.new.w
          c.most_candidates-n.ensures
          c.table_edges-k.auto.w
          c.requires.listable;
      tabled = c.table_edges-k.ensures;
    }

pub returns : goal.returns
returns c =
    let a = c.args in
    edges_passed a.mesh.vertices.now a.mesh.facets.now a.cap_list.now a.asked a.mode a.out_vertices.now _ a.out_facets.now _ _
    (sym c.check_edges.ensures ∙ c.in_ok-check_edges.was) c.cap_edges.ensures

pub returns-in_err-check_edges : goal.returns-in_err-check_edges
returns-in_err-check_edges c =
    let a = c.args in
    let p = err_from_is_err_and c.from_residual.result c.from_residual.ensures.1 in
    rw (p.1, p.2)
    (edges_refused a.mesh.vertices.now a.mesh.facets.now a.cap_list.now a.asked a.mode a.out_vertices.now a.out_facets.now _
    (sym c.check_edges.ensures ∙ c.in_err-check_edges.was))
