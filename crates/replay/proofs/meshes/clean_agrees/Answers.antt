use Rattle.replay.proofs.Agreeing.{clean_reply_lem, clean_result_lem, outputs_within, mesh_called, answer_decides}
use Rattle.replay.proofs.meshes.clean_agrees.Goals as goal

pub same_answer-requires : goal.same_answer-requires
same_answer-requires c =
    let a = c.args in
    let call = c.yongpham_clean-number in
    (outputs_within a.request.words.now a.work.now a.out_vertices.now call.new.out_vertices a.out_facets.now call.new.out_facets a.request.laid c.requires
    call.auto.out_vertices call.auto.out_facets).1

pub returns : goal.returns
returns c =
    let a = c.args in
    let w = a.request.words.now in
    let call = c.yongpham_clean-number in
    answer_decides w _ _ _ _ _ _ a.work.now _ a.out_vertices.now _ a.out_facets.now _ c.requires (mesh_called _ _ _ _ _ _ _ _ _ _ call.ensures.answered)
    (clean_reply_lem w a.work.now a.out_vertices.now a.out_facets.now c.requires a.vertices.now a.facets.now c.double.ensures)
    (clean_result_lem w a.vertices.now a.facets.now c.double.ensures) call.auto.out_vertices _ c.same_answer.ensures
