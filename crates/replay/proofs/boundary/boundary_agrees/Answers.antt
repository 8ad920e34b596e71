use Rattle.replay.proofs.Listing.{boundary_decides}
use Rattle.replay.proofs.boundary.boundary_agrees.Goals as goal

pub returns : goal.returns
returns c =
    let a = c.args in
    boundary_decides a.request.words.now a.work.now _ a.edges.now _ a.components.now _ a.irregular.now _ a.facets.now _ _ c.requires
    c.yongpham_boundary_components-number.ensures _ c.same_listing.ensures
