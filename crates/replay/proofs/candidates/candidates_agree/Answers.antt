use Rattle.replay.proofs.Listing.{candidates_decides}
use Rattle.replay.proofs.Agreeing.{same_box}
use Rattle.replay.proofs.candidates.candidates_agree.Goals as goal

pub returns : goal.returns
returns c =
    let a = c.args in
    let w = a.request.words.now in
    let box = same_box w c.double.ensures c.double-2.ensures c.double-3.ensures c.double-4.ensures c.double-5.ensures c.double-6.ensures in
    candidates_decides w a.work.now _ a.candidates.now _ a.face_lists.now _ a.constraints.now _ a.open_edges.now _ a.vertices.now a.facets.now _ _ c.requires box
    c.double-7.ensures c.double-8.ensures c.yongpham_candidates-number.ensures _ c.same_candidates.ensures
