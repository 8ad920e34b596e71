use Rattle.boundary_components.proofs.Delivery.{part_written, short_edges, short_components, short_irregular, written}
use Rattle.boundary_components.proofs.list_checked.Goals as goal

pub returns-then-out_edges-edges : goal.returns-then-out_edges-edges
returns-then-out_edges-edges c =
    let st = c.stage-found in
    let s = c in
    let a = s.args in
    short_edges a.vertices a.facets.now a.work.now st.new.work st.result.edges st.result.components st.result.irregular s.requires st.ensures
    a.out_edges.now a.out_components.now a.out_irregular.now c.if-out_edges-edges.true

pub returns-then-out_components-components : goal.returns-then-out_components-components
returns-then-out_components-components c =
    let st = c.stage-found in
    let s = c in
    let a = s.args in
    short_components a.vertices a.facets.now a.work.now st.new.work st.result.edges st.result.components st.result.irregular s.requires st.ensures
    a.out_edges.now a.out_components.now a.out_irregular.now c.if-out_edges-edges.false c.if-out_components-components.true

pub returns-then-out_irregular-irregular : goal.returns-then-out_irregular-irregular
returns-then-out_irregular-irregular c =
    let st = c.stage-found in
    let s = c in
    let a = s.args in
    short_irregular a.vertices a.facets.now a.work.now st.new.work st.result.edges st.result.components st.result.irregular s.requires st.ensures
    a.out_edges.now a.out_components.now a.out_irregular.now c.if-out_edges-edges.false c.if-out_components-components.false c.if-out_irregular-irregular.true

pub returns : goal.returns
returns c =
    let one = c.copy_front in
    let two = c.copy_front-2 in
    let three = c.copy_front-3 in
    let third = c in
    let second = third in
    let first = second in
    let staged = first in
    let st = staged.stage-found in
    let s = staged in
    let a = s.args in
    written a.vertices a.facets.now a.work.now st.new.work st.result.edges st.result.components st.result.irregular s.requires st.ensures
    a.out_edges.now a.out_components.now a.out_irregular.now first.if-out_edges-edges.false second.if-out_components-components.false
    one.new.to two.new.to three.new.to third.if-out_irregular-irregular.false (part_written st.new.work a.out_edges.now one.new.to _ _ one.ensures)
    (part_written st.new.work a.out_components.now two.new.to _ _ two.ensures) (part_written st.new.work a.out_irregular.now three.new.to _ _ three.ensures)
