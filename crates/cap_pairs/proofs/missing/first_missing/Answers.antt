use Rattle.std.proofs.Common.{rules, tests}
use Rattle.std.proofs.lemmas.Iterator.{YieldsList-from_slice}
use Rattle.std.proofs.lemmas.Iterator.Consumers.{YieldsList-from_filter, YieldsList-at}
use Rattle.std.proofs.lemmas.Iterator.Search.{position_from_yields_List}
use Rattle.geometry.specs.Boxes.{face_of}
use Rattle.geometry.specs.declared.face.BoxFace.{BoxFace}
use Rattle.geometry.specs.declared.face.TheConstants.{BOX_FACES}
use Rattle.geometry.proofs.Faces.{kept_faces}
use Rattle.lists.specs.Lists.{keep, place}
use Rattle.box_faces.specs.Faces.{has_bit, bit_count}
use Rattle.cap_triangles.specs.Listed.{FirstPlace}
use Rattle.cap_pairs.specs.Steps.{missing_face}
use Rattle.cap_pairs.proofs.Walking.{first_place}
use mathlib.Core.List.{List}
use mathlib.Core.Path.{subst}
use lib.ListN.{length}
use Prim.Native.Nat.{ℕ}
use Rattle.cap_pairs.proofs.missing.first_missing.Goals as goal

-- `first_missing` meets its contract: the place that the chain answers is that of the definition. Assumes nothing.
pub returns : goal.returns
unfolding bit_count
returns c =
    let a = c.args in
    let missing = missing_face a.w.now a.held.0 in
    subst (λ (l : List ℕ). FirstPlace (place missing l) (length l) c.position.result) (kept_faces (has_bit a.mask.0))
    (first_place face_of missing (keep (λ (f : BoxFace). has_bit a.mask.0 (face_of f)) BOX_FACES) c.position.result
    (position_from_yields_List (λ (f : BoxFace). missing (face_of f)) _ _ c.position.result c.position.ensures.ran
    (YieldsList-from_filter _ (λ (f : BoxFace). has_bit a.mask.0 (face_of f)) (YieldsList-at c.filter.ensures.source (YieldsList-from_slice BOX_FACES cc))
    c.filter.ensures.closure (λ x r q k. search (rules, tests)))
    (λ x b q k. search (rules, tests))))
