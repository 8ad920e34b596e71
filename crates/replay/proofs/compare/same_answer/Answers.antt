use Rattle.replay.proofs.Comparing.{answer_alike}
use Rattle.replay.proofs.compare.same_answer.Goals as goal

pub returns : goal.returns
returns c =
    answer_alike c.args.request.words.now c.record.result.words.now _ _ c.outputs-from.ensures c.record.ensures c.has_reply.ensures
    c.args.out_vertices.now c.args.out_facets.now c.args.work.now c.same_doubles.ensures c.same_numbers.ensures c.is_zero.ensures
