-- Laws of clipping (specs/Clipped.antt): vertices shared by number. Assumes nothing.
--   linked, unlinked         the link of a vertex (specs/Rooms.antt) says whether it is shared, and by which number
--   share_first, share_again, share_cases   a vertex at its first use, and later
--   number_new, shared_now, shared_still, number_still   what is shared stays, by the same number
use Prim.Native.Nat.{ℕ, ◌+◌}
use mathlib.Core.Bool.{Bool, true, false, cond, ◌||◌, or-true}
use mathlib.Core.List.{List, [], ◌∷◌, ◌++◌}
use mathlib.Core.Logic.{⊎_elim}
use mathlib.Core.Path.{◌≡◌, refl, sym, ap, ◌∙◌, subst}
use borrow.Author.Tests.{ne_eqb, eq-eqb}
use lib.Dec.{eqb}
use lib.ListN.{length}
use lib.Ieee.{Float}
use Rattle.lists.specs.Lists.{some}
use Rattle.lists.proofs.Bools.{or_stop}
use Rattle.lists.proofs.Orders.{cases, never}
use Rattle.geometry.specs.declared.point.Point.{Point}
use Rattle.geometry.specs.declared.aabb.AABB.{AABB}
use Rattle.geometry.specs.Meshes.{vertex}
use Rattle.aabb_planes.specs.Planes.{snapped}
use Rattle.aabb_facets.specs.Clipped.{Clipping, shared_number, share_once}
use Rattle.aabb_facets.specs.Rooms.{link}

abbrev pub is_shared : List (ℕ × ℕ) → ℕ → Bool
is_shared l v = some (λ s. eqb v s.0) l

pub linked : (l : List (ℕ × ℕ)) (v : ℕ) → is_shared l v ≡ true → link l v ≡ shared_number l v + 1
unfolding link shared_number
linked [] v h = absurd (never false h refl)
linked (s ∷ l) v h = go (linked l v) (eqb v s.0) h
  where
    go : (is_shared l v ≡ true → link l v ≡ shared_number l v + 1) → (b : Bool) → (b || is_shared l v) ≡ true
        → cond b (s.1 + 1) (link l v) ≡ cond b s.1 (shared_number l v) + 1
    go f true g = refl
    go f false g = f g

pub unlinked : (l : List (ℕ × ℕ)) (v : ℕ) → is_shared l v ≡ false → link l v ≡ 0
unfolding link
unlinked [] v h = refl
unlinked (s ∷ l) v h = go (unlinked l v) (eqb v s.0) h
  where
    go : (is_shared l v ≡ false → link l v ≡ 0) → (b : Bool) → (b || is_shared l v) ≡ false → cond b (s.1 + 1) (link l v) ≡ 0
    go f true g = absurd (never true refl g)
    go f false g = f g

module _ (box : AABB) (eps : Float) (vs : List Point) (c : Clipping) (v : ℕ) where
  abbrev first : Clipping
  first =
      record {
        points = c.points ++ (snapped box eps (vertex vs v) ∷ []);
        facets = c.facets;
        shared = (v, length c.points) ∷ c.shared;
      }

  pub share_first : is_shared c.shared v ≡ false → share_once box eps vs c v ≡ first
  unfolding share_once
  share_first h = ap (λ (b : Bool). cond b c first) h

  pub share_again : is_shared c.shared v ≡ true → share_once box eps vs c v ≡ c
  unfolding share_once
  share_again h = ap (λ (b : Bool). cond b c first) h

  -- what holds at a first use and at a later one holds
  pub share_cases : (P : Clipping → Type 0) → (is_shared c.shared v ≡ false → P first) → (is_shared c.shared v ≡ true → P c) → P (share_once box eps vs c v)
  share_cases P f g =
      ⊎_elim (λ (e : is_shared c.shared v ≡ true). subst P (sym (share_again e)) (g e))
      (λ (e : is_shared c.shared v ≡ false). subst P (sym (share_first e)) (f e)) (cases (is_shared c.shared v))

  pub number_new : shared_number first.shared v ≡ length c.points
  unfolding shared_number
  number_new = ap (λ (b : Bool). cond b (length c.points) (shared_number c.shared v)) (eq-eqb v v refl)

  pub shared_now : is_shared (share_once box eps vs c v).shared v ≡ true
  shared_now = share_cases (λ m. is_shared m.shared v ≡ true) (λ e. or_stop (eqb v v) (is_shared c.shared v) (eq-eqb v v refl)) (λ e. e)

  module _ (w : ℕ) (h : is_shared c.shared w ≡ true) where
    pub shared_still : is_shared (share_once box eps vs c v).shared w ≡ true
    shared_still = share_cases (λ m. is_shared m.shared w ≡ true) (λ e. ap (λ (b : Bool). eqb w v || b) h ∙ or-true (eqb w v)) (λ e. h)

    pub number_still : shared_number (share_once box eps vs c v).shared w ≡ shared_number c.shared w
    unfolding shared_number
    number_still =
        share_cases (λ m. shared_number m.shared w ≡ shared_number c.shared w)
        (λ e. ap (λ (b : Bool). cond b (length c.points) (shared_number c.shared w))
        (ne_eqb w v (λ q. never (is_shared c.shared v) (ap (is_shared c.shared) (sym q) ∙ h) e)))
        (λ e. refl)
