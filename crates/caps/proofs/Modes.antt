-- A mode from its number: what the answer says of the number. Assumes nothing.
--   is_mode, no_mode   a number that gives a mode is at most 2, and one that gives none is more
use Prim.Native.Nat.{ℕ, ◌<◌, ◌≤◌}
use native.Mathlib.Omega.{arith}
use mathlib.Core.Bool.{Bool, true, false, cond}
use mathlib.Core.Path.{◌≡◌, refl}
use borrow.Author.Tests.{ltb-true, ltb-false}
use lib.Dec.{ltb}
use Rattle.std.specs.Prelude.{Result, Ok, Err}
use Rattle.refusals.specs.declared.refusal.Refusal.{Refusal}
use Rattle.refusals.specs.declared.refusal.Refusal.TheVariants.{BadNumber}
use Rattle.caps.specs.declared.mode.BoundaryClosure.{BoundaryClosure}
use Rattle.caps.specs.Modes.{mode_of, mode_from}

different : {A : Type 0} {X : Type 0} (m : Result X Refusal) (x : X) (r : Refusal) → m ≡ Ok x → m ≡ Err r → A
different m x r e h = absurd (let z : ◌≡◌ {A = ℕ} 0 1 = cc in omega arith)

module _ (m : ℕ) where
  abbrev after : Bool → Result BoundaryClosure Refusal
  after b = cond b (Err BadNumber) (Ok (mode_of m))

  pub is_mode : (x : BoundaryClosure) → mode_from m ≡ Ok x → (m ≤ 2) × (x ≡ mode_of m)
  is_mode x e = go (ltb 2 m) refl e
    where
      go : (b : Bool) → ltb 2 m ≡ b → after b ≡ Ok x → (m ≤ 2) × (x ≡ mode_of m)
      go true h e = different (Err BadNumber) x BadNumber e refl
      go false h e = (ltb-false 2 m h, cc)

  pub no_mode : (r : Refusal) → mode_from m ≡ Err r → 2 < m
  no_mode r e = go (ltb 2 m) refl e
    where
      go : (b : Bool) → ltb 2 m ≡ b → after b ≡ Err r → 2 < m
      go true h e = ltb-true 2 m h
      go false h e = different (Ok (mode_of m)) (mode_of m) r refl e
