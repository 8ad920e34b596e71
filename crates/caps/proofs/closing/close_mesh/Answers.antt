use Rattle.caps.proofs.Meshing.{chosen_ready, chosen_words, deliverable, answered}
use native.Mathlib.Omega.{arith}
use Rattle.caps.proofs.closing.close_mesh.Goals as goal

pub select_caps-requires : goal.select_caps-requires
select_caps-requires c = record { cap_ready = c.requires.ready; pairs_known = c.requires.known }

pub close_caps-made-requires : goal.close_caps-made-requires
close_caps-made-requires c =
    let a = c.args in record {
      turned_ready = chosen_ready a.mesh.vertices.now a.mesh.facets.now a.cap_list.now a.n a.k a.positive a.w.now
          c.requires c.select_caps.new.w
          c.select_caps.ensures;
      vertices_in = (
        c.requires.within,
        omega
            (arith, c.requires.lists.few_vertices),
        chosen_words a.mesh.vertices.now a.mesh.facets.now
            a.cap_list.now a.n a.k a.positive a.w.now c.requires
            c.select_caps.new.w c.select_caps.ensures,
      );
      by_index = c.select_caps.ensures.low;
    }

pub deliver_closed-requires : goal.deliver_closed-requires
deliver_closed-requires c =
    let a = c.args in
    deliverable a.mesh.vertices.now a.mesh.facets.now a.cap_list.now a.n a.k a.positive a.w.now
    c.requires
    c.select_caps.new.w
    c.select_caps.ensures c.close_caps-made.result.left
    c.close_caps-made.result.caps c.close_caps-made.new.w
    c.close_caps-made.ensures

pub returns : goal.returns
returns c =
    let a = c.args in
    answered a.mesh.vertices.now a.mesh.facets.now a.cap_list.now a.n a.k a.positive a.w.now
    c.requires c.select_caps.new.w
    c.select_caps.ensures
    c.close_caps-made.result.left
    c.close_caps-made.result.caps
    c.close_caps-made.new.w
    c.close_caps-made.ensures a.out_vertices.now _ a.out_facets.now _ _
    c.deliver_closed.ensures
