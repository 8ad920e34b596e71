-- Laws of tests of a fact, and of stored answers by the operation of their record. Assumes nothing.
--   shown                 a fact that holds
--   stops, passes         of a row of tests: one that a fact needs fails, or it holds
--   as_candidates, as_boundary, no_listing   lists of words, by the operation
--   as_clip, as_clean, as_caps, no_operation   a mesh;   as_listing_4, as_listing_6, as_mesh   an answer;   as_tolerance, as_lists   a record
--   short                 a record of fewer than 32 words agrees with nothing
use Prim.Native.Nat.{ℕ, ◌≤◌, ◌<◌}
use mathlib.Core.Path.{◌≡◌}
use mathlib.Core.Bool.{Bool, true, false, not}
use mathlib.Core.List.{List}
use native.Mathlib.Omega.{arith}
use borrow.Author.Tests.{not-true, not-false}
use lib.ListN.{length, get_or}
use lib.Ieee.{Float}
use Rattle.lists.specs.Lists.{Decides}
use Rattle.lists.proofs.Bools.{is_true, yes}
use Rattle.replay.specs.Agreement.{
  ClipStored,
  CleanStored,
  CapsStored,
  MeshStored,
  clip,
  clean,
  caps,
  CandidatesStored,
  BoundaryStored,
  ListingStored,
  candidates,
  boundary,
  AnswerStored,
  mesh,
  listing,
  ToleranceAgrees,
  ListsAgree,
  Agrees,
  tolerance,
  lists,
}
use Rattle.replay.proofs.Deciding.{refuted, clash}

pub shown : {P : Type 0} → P → Decides P true
shown p = record { sound = λ _. p; complete = λ _. tt }

-- a test of P that failed, where Q holds only if P does
pub stops : {P : Type 0} (Q : Type 0) {b : Bool} → Decides P b → not b ≡ true → (Q → P) → Decides Q false
stops Q {b} d e f = refuted (λ q. clash (is_true b (d.complete (f q))) (not-true b e))

pub passes : {P : Type 0} {b : Bool} → Decides P b → not b ≡ false → P
passes {b = b} d e = d.sound (yes (not-false b e))

-- ---- lists of words, by operation

module _ (stored : List ℕ) (vs : List Float) (fs : List ℕ) where
  pub as_candidates : get_or stored 1 0 ≡ 4 → ListingStored stored vs fs → CandidatesStored stored vs fs
  as_candidates h (candidates k s) = s
  as_candidates h (boundary k s) = absurd (omega arith)

  pub as_boundary : get_or stored 1 0 ≡ 6 → ListingStored stored vs fs → BoundaryStored stored fs
  as_boundary h (candidates k s) = absurd (omega arith)
  as_boundary h (boundary k s) = s

  pub no_listing : (get_or stored 1 0 ≡ 4 → ⊥) → (get_or stored 1 0 ≡ 6 → ⊥) → ListingStored stored vs fs → ⊥
  no_listing no-candidates no-boundary (candidates k s) = no-candidates k
  no_listing no-candidates no-boundary (boundary k s) = no-boundary k

-- ---- a mesh, an answer and a record, by operation

module _ (stored : List ℕ) (vs : List Float) (fs : List ℕ) where
  pub as_clip : get_or stored 1 0 ≡ 2 → MeshStored stored vs fs → ClipStored stored vs fs
  as_clip e (clip k s) = s
  as_clip e (clean k s) = absurd (omega arith)
  as_clip e (caps k s) = absurd (omega arith)

  pub as_clean : get_or stored 1 0 ≡ 3 → MeshStored stored vs fs → CleanStored stored vs fs
  as_clean e (clip k s) = absurd (omega arith)
  as_clean e (clean k s) = s
  as_clean e (caps k s) = absurd (omega arith)

  pub as_caps : get_or stored 1 0 ≡ 5 → MeshStored stored vs fs → CapsStored stored vs fs
  as_caps e (clip k s) = absurd (omega arith)
  as_caps e (clean k s) = absurd (omega arith)
  as_caps e (caps k s) = s

  pub no_operation : (get_or stored 1 0 ≡ 2 → ⊥) → (get_or stored 1 0 ≡ 3 → ⊥) → (get_or stored 1 0 ≡ 5 → ⊥) → MeshStored stored vs fs → ⊥
  no_operation no-clip no-clean no-caps (clip k s) = no-clip k
  no_operation no-clip no-clean no-caps (clean k s) = no-clean k
  no_operation no-clip no-clean no-caps (caps k s) = no-caps k

-- the operations that write a mesh are 2, 3 and 5, those that write lists of words 4 and 6
mesh_number : (stored : List ℕ) (vs : List Float) (fs : List ℕ) → MeshStored stored vs fs
    → (2 ≤ get_or stored 1 0) × ((get_or stored 1 0 ≡ 4 → ⊥) × (get_or stored 1 0 ≡ 6 → ⊥))
mesh_number stored vs fs (clip k s) = (omega arith, (λ e. omega arith, λ e. omega arith))
mesh_number stored vs fs (clean k s) = (omega arith, (λ e. omega arith, λ e. omega arith))
mesh_number stored vs fs (caps k s) = (omega arith, (λ e. omega arith, λ e. omega arith))

lists_number : (stored : List ℕ) (vs : List Float) (fs : List ℕ) → AnswerStored stored vs fs → 2 ≤ get_or stored 1 0
lists_number stored vs fs (mesh m) = (mesh_number stored vs fs m).0
lists_number stored vs fs (listing (candidates k s)) = omega arith
lists_number stored vs fs (listing (boundary k s)) = omega arith

module _ (stored : List ℕ) (vs : List Float) (fs : List ℕ) where
  pub as_listing_4 : get_or stored 1 0 ≡ 4 → AnswerStored stored vs fs → ListingStored stored vs fs
  as_listing_4 e (mesh m) = absurd ((mesh_number stored vs fs m).1.0 e)
  as_listing_4 e (listing l) = l

  pub as_listing_6 : get_or stored 1 0 ≡ 6 → AnswerStored stored vs fs → ListingStored stored vs fs
  as_listing_6 e (mesh m) = absurd ((mesh_number stored vs fs m).1.1 e)
  as_listing_6 e (listing l) = l

  pub as_mesh : (get_or stored 1 0 ≡ 4 → ⊥) → (get_or stored 1 0 ≡ 6 → ⊥) → AnswerStored stored vs fs → MeshStored stored vs fs
  as_mesh no-candidates no-boundary (mesh m) = m
  as_mesh no-candidates no-boundary (listing (candidates k s)) = absurd (no-candidates k)
  as_mesh no-candidates no-boundary (listing (boundary k s)) = absurd (no-boundary k)

module _ (stored : List ℕ) where
  pub as_tolerance : get_or stored 1 0 ≡ 1 → Agrees stored → ToleranceAgrees stored
  as_tolerance e (tolerance k t) = t
  as_tolerance e (lists l) = absurd (omega (arith, lists_number stored _ _ l.answer))

  pub as_lists : (get_or stored 1 0 ≡ 1 → ⊥) → Agrees stored → ListsAgree stored
  as_lists never (tolerance k t) = absurd (never k)
  as_lists never (lists l) = l

  pub short : length stored < 32 → Agrees stored → ⊥
  short h (tolerance k t) = omega (arith, t.whole)
  short h (lists l) = omega (arith, l.laid.head)
