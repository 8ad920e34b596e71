-- Document 02, E2: under two ceilings that both admit a mesh, tests 1 to 7 are the same, and so is a row that begins with them. Assumes nothing.
--   same_tests
use Prim.Native.Nat.{ℕ}
use mathlib.Core.Path.{◌≡◌, ap}
use mathlib.Core.List.{List, ◌++◌}
use lib.Ieee.{Float}
use Rattle.refusals.specs.Refusals.{Test}
use Rattle.input_tests.specs.Front.{limits, Admits}
use Rattle.input_tests.proofs.Lists.{same_row}
use Rattle.candidate_surface.specs.declared.asked.Asked.{Asked}
use Rattle.closure_tests.specs.Tests.{closure_tests}

module _ (vs : List Float) (fs : List ℕ) (q : Asked) (c d : ℕ) (hc : Admits c vs fs) (hd : Admits d vs fs) (caps lent : ℕ) where
  same_closure : closure_tests vs fs q caps (limits c lent) ≡ closure_tests vs fs q caps (limits d lent)
  unfolding closure_tests
  same_closure = same_row c d vs fs caps _ hc hd

  pub same_tests : (rest : List Test) → closure_tests vs fs q caps (limits c lent) ++ rest ≡ closure_tests vs fs q caps (limits d lent) ++ rest
  same_tests rest = ap (λ (l : List Test). l ++ rest) same_closure
