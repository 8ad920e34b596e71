-- Laws of the numbers of faces and of axes. Assumes nothing.
--   face_in, axis_in   they are below 6, below 3
--   faces_are         `BOX_FACES` are the faces in their order
--   face_at            the i-th of `BOX_FACES` has the number i
--   kept_faces, count_kept   the faces whose numbers pass a test, as numbers; how many
use Rattle.std.proofs.Common.{ℕ, zero, suc, ◌<◌, ◌≡◌, refl, sym, ap, ◌∙◌, Bool, true, false, cond, List, [], ◌∷◌, map, length, get_or}
use Rattle.std.proofs.lemmas.List.{length-map}
use Rattle.lists.specs.Lists.{keep}
use native.Mathlib.Omega.{arith}
use Rattle.geometry.specs.Boxes.{faces, axis_of, face_of}
use Rattle.geometry.specs.declared.face.TheConstants.{BOX_FACES}
use Rattle.geometry.specs.declared.face.Axis.{Axis}
use Rattle.geometry.specs.declared.face.Axis.TheVariants.{X, Y, Z}
use Rattle.geometry.specs.declared.face.BoxFace.{BoxFace}
use Rattle.geometry.specs.declared.face.BoxFace.TheVariants.{XMin, XMax, YMin, YMax, ZMin, ZMax}

pub axis_in : (k : Axis) → axis_of k < 3
axis_in X = omega arith
axis_in Y = omega arith
axis_in Z = omega arith

pub face_in : (f : BoxFace) → face_of f < 6
face_in XMin = omega arith
face_in XMax = omega arith
face_in YMin = omega arith
face_in YMax = omega arith
face_in ZMin = omega arith
face_in ZMax = omega arith

pub faces_are : map face_of BOX_FACES ≡ faces
faces_are = refl

pub face_at : (i : ℕ) (d : BoxFace) → i < 6 → face_of (get_or BOX_FACES i d) ≡ i
face_at zero d h = refl
face_at (suc zero) d h = refl
face_at (suc (suc zero)) d h = refl
face_at (suc (suc (suc zero))) d h = refl
face_at (suc (suc (suc (suc zero)))) d h = refl
face_at (suc (suc (suc (suc (suc zero))))) d h = refl
face_at (suc (suc (suc (suc (suc (suc i)))))) d h = absurd (omega arith)

module _ {A B : Type 0} (f : A → B) (p : B → Bool) where
  one_more : (b : Bool) (x : A) (l : List A) → map f (cond b (x ∷ l) l) ≡ cond b (f x ∷ map f l) (map f l)
  one_more true x l = refl
  one_more false x l = refl

  map_keep : (l : List A) → map f (keep (λ x. p (f x)) l) ≡ keep p (map f l)
  map_keep [] = refl
  map_keep (x ∷ l) = one_more (p (f x)) x (keep (λ x. p (f x)) l) ∙ ap (λ m. cond (p (f x)) (f x ∷ m) m) (map_keep l)

module _ (p : ℕ → Bool) where
  pub kept_faces : map face_of (keep (λ f. p (face_of f)) BOX_FACES) ≡ keep p faces
  kept_faces = map_keep face_of p BOX_FACES

  pub count_kept : length (keep (λ f. p (face_of f)) BOX_FACES) ≡ length (keep p faces)
  count_kept = sym (length-map (keep (λ f. p (face_of f)) BOX_FACES) face_of) ∙ ap length kept_faces
