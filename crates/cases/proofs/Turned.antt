-- Laws of C15's points, of its cap list and of what caps answers. Assumes nothing.
--   last_point                a number above 10 is the last point
--   turned_more, turned_all   a list filled place by place, one more, and to its end
--   capped_to                 a test of what caps answers is the same test of its definition
use Prim.Native.Nat.{ℕ, ◌+◌, ◌≤◌, ◌<◌}
use mathlib.Core.Path.{◌≡◌, sym, ap, ap₂, ◌∙◌, subst}
use mathlib.Core.List.{List, [], ◌∷◌, map}
use native.Mathlib.Omega.{arith}
use native.Mathlib.Nat.{zero-add}
use borrow.Author.Count.{below_more}
use lib.ListN.{length, get_or, set, replicate, length-map, get_or-eq_default}
use lib.Seq.{get_or-set_same, get_or-set_other, ext_get_or}
use lib.Ieee.{Float}
use Rattle.root.specs.Doubles.{zero_f, one_f, 1e-10}
use Rattle.lists.specs.Lists.{up_to}
use Rattle.lists.proofs.Places.{length_up, at_map_up}
use Rattle.geometry.specs.Triangles.{flat}
use Rattle.geometry.specs.Meshes.{coordinates, mesh_lengths}
use Rattle.std.specs.Prelude.{Result}
use Rattle.refusals.specs.declared.refusal.Refusal.{Refusal}
use Rattle.refusals.specs.Refusals.{documented_reply, settle}
use Rattle.refusals.specs.Answers.{reply_in}
use Rattle.input_tests.specs.Front.{mesh_ceiling, limits}
use Rattle.candidate_surface.specs.declared.asked.Asked.{Asked}
use Rattle.candidate_surface.specs.Asked.{asked}
use Rattle.caps.specs.declared.mode.BoundaryClosure.{BoundaryClosure}
use Rattle.caps.specs.Operation.{caps_tests, caps_result, Capped}
use Rattle.cases.specs.Closing.{box_to}
use Rattle.cases.specs.Cleaning.{two_facets}
use Rattle.cases.specs.Halves.{half_points, corner, half_point, cap_word, cap_list_of, square_at_half, is_half, capped, closes_to}

past : (k p : ℕ) → k ≤ p → (p ≡ k → ⊥) → k + 1 ≤ p
past k p h n = omega arith

pub last_point : (p : ℕ) → (p ≡ 0 → ⊥) → (p ≡ 1 → ⊥) → (p ≡ 2 → ⊥) → (p ≡ 3 → ⊥) → (p ≡ 4 → ⊥) → (p ≡ 5 → ⊥) → (p ≡ 6 → ⊥)
    → (p ≡ 7 → ⊥) → (p ≡ 8 → ⊥) → (p ≡ 9 → ⊥) → (p ≡ 10 → ⊥) → corner zero_f one_f one_f ≡ half_point p
unfolding half_point
last_point p a b c d e f g h i j k =
    let low : 0 ≤ p = omega arith in
    let six : 6 ≤ p = past 5 p (past 4 p (past 3 p (past 2 p (past 1 p (past 0 p low a) b) c) d) e) f in
    let far : 11 ≤ p = past 10 p (past 9 p (past 8 p (past 7 p (past 6 p six g) h) i) j) k in
    sym (get_or-eq_default half_points (corner zero_f one_f one_f) {n = p} far)

module _ (ws l : List ℕ) (i : ℕ) (long : length l ≡ 80) (f : (k : ℕ) → k < i → get_or l k 0 ≡ cap_word ws k) where
  pub turned_more : (x : ℕ) → i < 80 → x ≡ cap_word ws i → (k : ℕ) → k < i + 1 → get_or (set l i x) k 0 ≡ cap_word ws k
  turned_more x h e =
      below_more (λ (k : ℕ). get_or (set l i x) k 0 ≡ cap_word ws k) i
      (λ k b. get_or-set_other l i k x 0 (λ s. omega arith) ∙ f k b)
      (get_or-set_same l i x 0 (subst (λ (n : ℕ). i < n) (sym long) h) ∙ e)

  pub turned_all : 80 ≤ i → l ≡ cap_list_of ws
  unfolding cap_list_of
  turned_all h =
      ext_get_or 0 l (map (cap_word ws) (up_to 80)) (long ∙ sym (length-map (up_to 80) (cap_word ws) ∙ length_up 0 80))
      (λ k b.
      let c : k < 80 = subst (λ (n : ℕ). k < n) long b in
      f k (omega arith) ∙ sym (at_map_up (cap_word ws) 0 0 80 k c ∙ ap (cap_word ws) (zero-add k)))

module _ (mode : BoundaryClosure) (l : List ℕ) (q : Asked) (reply : Result (List ℕ) Refusal) (w w' : List ℕ) (v' : List Float) (f' : List ℕ)
    (e : q ≡ asked (box_to one_f one_f one_f) 1e-10 one_f) (long : length w ≡ 8192) where
  answer : Capped square_at_half two_facets l q mode mesh_ceiling reply w w' (replicate 24 zero_f) v' (replicate 36 0) f' → documented_reply reply ≡ capped mode l
  answer h =
      h.answered.answer.replied
      ∙ (λ t. reply_in (caps_tests square_at_half two_facets l (e t) mode (limits mesh_ceiling (long t))) (mesh_lengths (caps_result square_at_half two_facets l (e t) mode)) (24 ∷ 36 ∷ []))

  pub capped_to : Capped square_at_half two_facets l q mode mesh_ceiling reply w w' (replicate 24 zero_f) v' (replicate 36 0) f' → (stated : List ℕ)
      → is_half (documented_reply reply) v' f' stated ≡ closes_to mode l stated
  unfolding closes_to
  capped_to h stated =
      ap₂ (λ (x : List Float) (y : List ℕ). is_half (documented_reply reply) x y stated) h.answered.answer.settled.0 h.answered.answer.settled.1.0
      ∙ (λ t.
      is_half (answer h t)
      (settle (answer h t) (coordinates (caps_result square_at_half two_facets l (e t) mode).points) (replicate 24 zero_f))
      (settle (answer h t) (flat (caps_result square_at_half two_facets l (e t) mode).facets) (replicate 36 0))
      stated)
