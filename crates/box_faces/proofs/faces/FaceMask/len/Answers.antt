use Rattle.std.proofs.Common.{rules, tests, ◌∙◌}
use Rattle.std.proofs.lemmas.Iterator.{YieldsList-from_slice}
use Rattle.std.proofs.lemmas.Iterator.Consumers.{count_from_yields_List, YieldsList-from_filter, YieldsList-at}
use Rattle.geometry.specs.Boxes.{face_of}
use Rattle.geometry.specs.declared.face.BoxFace.{BoxFace}
use Rattle.geometry.specs.declared.face.TheConstants.{BOX_FACES}
use Rattle.box_faces.specs.Faces.{has_bit, bit_count}
use Rattle.geometry.proofs.Faces.{count_kept}
use Rattle.box_faces.proofs.faces.FaceMask.len.Goals as goal

pub returns : goal.returns
unfolding bit_count
returns c =
    count_from_yields_List _ c.count.result c.count.ensures.ran
    (YieldsList-from_filter _ (λ (f : BoxFace). has_bit c.args.self.0 (face_of f))
    (YieldsList-at c.filter.ensures.source (YieldsList-from_slice BOX_FACES cc)) c.filter.ensures.closure (λ x b q k. search (rules, tests)))
    ∙ count_kept (has_bit c.args.self.0)
