use Rattle.std.proofs.Common.{rules, tests}
use Rattle.std.proofs.lemmas.Iterator.{YieldsList-from_slice}
use Rattle.std.proofs.lemmas.Iterator.Search.{all_from_yields_List}
use Rattle.geometry.specs.Boxes.{face_of}
use Rattle.geometry.specs.declared.face.TheConstants.{BOX_FACES}
use Rattle.geometry.specs.declared.face.BoxFace.{BoxFace}
use Rattle.aabb_planes.specs.Planes.{inside}
use Rattle.aabb_planes.proofs.clip.Clip.point_inside_aabb.Goals as goal

pub returns : goal.returns
returns c =
    all_from_yields_List (λ (f : BoxFace). inside c.args.self.extents c.args.self.eps (face_of f) c.args.p) _ _ c.all.result c.all.ensures.ran
    (YieldsList-from_slice BOX_FACES cc) (λ x b q k. search (rules, tests))
