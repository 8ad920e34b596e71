-- What the functions for C report, from what the operations promise. Assumes nothing.
--   tolerance_done, tolerance_refused          the tolerance
--   no_mode_passed, no_mode_refused, no_mode_is   a number that is no mode, after tests 1, 2 and 3
--   caps_none, caps_reported                   caps, of a number that is no mode and of one that is
use mathlib.Core.Path.{◌≡◌, refl, sym, ap, ◌∙◌, subst}
use mathlib.Core.Bool.{true, false}
use mathlib.Core.List.{List, [], ◌∷◌, ◌++◌}
use Prim.Native.Nat.{ℕ, ◌<◌, ◌≤◌}
use borrow.Author.Tests.{lt-ltb, le-ltb}
use lib.Dec.{ltb}
use lib.ListN.{length, get_or, replicate, take, drop}
use lib.Ieee.{Float, binary64, to_bits}
use Rattle.lists.proofs.Bools.{cond_true, cond_false}
use Rattle.geometry.specs.declared.aabb.AABB.{AABB}
use Rattle.refusals.specs.declared.refusal.Refusal.{Refusal}
use Rattle.refusals.specs.declared.refusal.Refusal.TheVariants.{BadNumber}
use Rattle.refusals.specs.Refusals.{documented, documented_reply, Test, first_refusal, Passes, numbered, reply_to}
use Rattle.refusals.specs.Answers.{Output, mesh_outputs, Answer, Answered}
use Rattle.input_tests.specs.Front.{limits, list_tests}
use Rattle.refusals.specs.Reports.{Reported}
use Rattle.refusals.proofs.Refusals.{holds, row_passed, row_refused}
use Rattle.refusals.proofs.Answers.{refused, answered, called}
use Rattle.refusals.proofs.Reports.{same_reply}
use Rattle.std.specs.Prelude.{Result, Ok, Err}
use Rattle.tolerance.specs.Tolerance.{tolerance_reply, documented_tolerance, Tolerated}
use Rattle.candidate_surface.specs.declared.asked.Asked.{Asked}
use Rattle.caps.specs.declared.mode.BoundaryClosure.{BoundaryClosure}
use Rattle.caps.specs.Operation.{caps_tests, caps_result, unchanged, Closes, Capped}
use Rattle.caps.proofs.Demands.{closes}
use Rattle.caps.specs.Modes.{mode_of}
use Rattle.yongpham.specs.Calls.{no_mode_tests, caps_call_tests, CapsCalled}

pub tolerance_done : (b : AABB) (t : Result Float Refusal) (eps : Float) (r : ℕ) (ws : List ℕ) → Tolerated b t → t ≡ Ok eps → (r ≡ 0) ×
    (ws ≡ to_bits binary64 eps ∷ 0 ∷ 0 ∷ 0 ∷ []) → Reported
    (tolerance_reply b) r ws
tolerance_done b t eps r ws h e k =
    same_reply (0 ∷ to_bits binary64 eps ∷ []) (tolerance_reply b) r ws (sym (ap documented_tolerance e) ∙ h.replied) (record { number = k.0; words = k.1 })

pub tolerance_refused : (b : AABB) (t : Result Float Refusal) (q : Refusal) (r : ℕ) (ws : List ℕ) → Tolerated b t → t ≡ Err q → Reported (documented q) r ws →
    Reported (tolerance_reply b)
    r ws
tolerance_refused b t q r ws h e k = same_reply (documented q) (tolerance_reply b) r ws (sym (ap documented_tolerance e) ∙ h.replied) k

-- ---- caps

-- a number that is no mode is refused: by one of tests 1, 2 and 3, or as part of 4
module _ (ceiling : ℕ) (vs : List Float) (fs : List ℕ) (n : ℕ) where
  abbrev lists : List Test
  lists = list_tests ceiling vs fs n

  abbrev last : List Test
  last = (true, BadNumber) ∷ []

  no_mode_passes : Passes lists → first_refusal (lists ++ last) ≡ Err BadNumber
  no_mode_passes e = row_passed lists last e ∙ holds true BadNumber [] refl

  pub no_mode_passed : (c : Result (Unit {0}) Refusal) (r : ℕ) (ws : List ℕ) → c ≡ first_refusal lists → c ≡ Ok tt → Reported (documented BadNumber) r ws → Reported
      (reply_to (lists ++ last) []) r ws
  no_mode_passed c r ws e p h = same_reply (documented BadNumber) _ r ws (ap (λ (x : Result (Unit {0}) Refusal). numbered x []) (sym (no_mode_passes (sym e ∙ p)))) h

  pub no_mode_refused : (c : Result (Unit {0}) Refusal) (q : Refusal) (r : ℕ) (ws : List ℕ) → c ≡ first_refusal lists → c ≡ Err q → Reported (documented q) r ws → Reported
      (reply_to (lists ++ last) []) r ws
  no_mode_refused c q r ws e p h = same_reply (documented q) _ r ws (ap (λ (x : Result (Unit {0}) Refusal). numbered x []) (sym (row_refused lists last q (sym e ∙ p)))) h

  -- one or the other
  pub no_mode_is : (q : Refusal) × (first_refusal (lists ++ last) ≡ Err q)
  no_mode_is = go (first_refusal lists) refl
    where
      go : (c : Result (Unit {0}) Refusal) → first_refusal lists ≡ c → (q : Refusal) × (first_refusal (lists ++ last) ≡ Err q)
      go (Ok x) e = (BadNumber, no_mode_passes e)
      go (Err q) e = (q, row_refused lists last q e)

module _ (vs : List Float) (fs cap_list : List ℕ) (q : Asked) (mode ceiling : ℕ) (w w' : List ℕ) (v v' : List Float) (f f' : List ℕ) (r : ℕ) (ws : List ℕ) where
  abbrev tests : List Test
  tests = caps_call_tests vs fs cap_list q mode (limits ceiling (length w))

  abbrev outs : List Output
  outs = mesh_outputs (caps_result vs fs cap_list q (mode_of mode)) v v' f f'

  -- what was reported, as the reply that it is
  told : (reply : List ℕ) → Reported reply r ws → (a b : ℕ) → reply ≡ 0 ∷ a ∷ b ∷ [] → reply ≡ r ∷ get_or ws 0 0 ∷ get_or ws 1 0 ∷ []
  told reply g a b e =
      let x = g.number ∙ ap (λ (l : List ℕ). get_or l 0 0) e in
      let y = g.words ∙ ap (λ (l : List ℕ). take 4 (drop 1 l ++ replicate 4 0)) e in
      e ∙ (λ t. sym x t ∷ get_or (sym y t) 0 0 ∷ get_or (sym y t) 1 0 ∷ [])

  as_told : (reply : List ℕ) → Answer tests outs reply → Reported reply r ws → r ≡ 0 → unchanged vs fs cap_list q (mode_of mode) ≡ false
      → Closes vs fs cap_list q (mode_of mode) (r ∷ get_or ws 0 0 ∷ get_or ws 1 0 ∷ []) v v' f f'
  as_told reply a g d u =
      let c = closes vs fs cap_list q (mode_of mode) tests reply v v' f f' a (sym g.number ∙ d) u in
      subst (λ (l : List ℕ). Closes vs fs cap_list q (mode_of mode) l v v' f f') (told reply g _ _ c.lengths) c

  caps_called : (reply : List ℕ) → Answered tests outs w w' reply → Reported reply r ws → CapsCalled vs fs cap_list q mode ceiling r ws w w' v v' f f'
  caps_called reply a g = record { answered = called tests outs w w' reply r ws a g; rule = as_told reply a.answer g }

  pub caps_none : 2 < mode → w' ≡ replicate (length w) 0 → v' ≡ v → f' ≡ f → Reported (reply_to (no_mode_tests vs fs cap_list q mode ceiling) []) r ws
      → CapsCalled vs fs cap_list q mode ceiling r ws w w' v v' f f'
  unfolding documented_reply
  caps_none h z a b g =
      let n = no_mode_is ceiling vs fs (length cap_list) in
      let t : no_mode_tests vs fs cap_list q mode ceiling ≡ tests = sym (cond_true (ltb 2 mode) (no_mode_tests vs fs cap_list q mode ceiling) _ _ (lt-ltb 2 mode h) refl) in
      let e : first_refusal tests ≡ Err n.0 = ap first_refusal (sym t) ∙ n.1 in
      let x = answered tests outs w w w' (documented n.0) (refused tests outs n.0 e (a, (b, tt))) refl z in
      caps_called (documented n.0) x (same_reply _ (documented n.0) r ws (ap (λ (c : Result (Unit {0}) Refusal). numbered c []) n.1) g)

  pub caps_reported : (x : BoundaryClosure) (m : Result (List ℕ) Refusal) → mode ≤ 2 → x ≡ mode_of mode → Capped vs fs cap_list q x ceiling m w w' v v' f f' →
      Reported (documented_reply m) r ws
      → CapsCalled vs fs cap_list q mode ceiling r ws w w' v v' f f'
  caps_reported x m h e c g =
      let k = subst (λ (y : BoundaryClosure). Capped vs fs cap_list q y ceiling m w w' v v' f f') e c in
      let t : caps_tests vs fs cap_list q (mode_of mode) (limits ceiling (length w)) ≡ tests =
      sym (cond_false (ltb 2 mode) (no_mode_tests vs fs cap_list q mode ceiling) _ _ (le-ltb 2 mode h) refl) in
      caps_called (documented_reply m) (subst (λ (ts : List Test). Answered ts outs w w' (documented_reply m)) t k.answered) g
