-- What the steps before give to those behind them. Assumes nothing.
--   listable, listable_same   the cap list, once tests 1 to 7 have passed, and the room for it; a room of the same length serves as well
--   tabled_room     the room for the open edges' table
--   closable        what the closing asks, once tests 10 and 11 have passed
use Prim.Native.Nat.{ℕ, ◌/◌, ◌≤◌, ◌<◌}
use native.Mathlib.Omega.{arith}
use mathlib.Core.Path.{◌≡◌, subst}
use mathlib.Core.List.{List}
use lib.ListN.{length, get_or}
use lib.Ieee.{Float}
use Rattle.geometry.specs.Meshes.{mesh_of, points_of}
use Rattle.refusals.specs.declared.refusal.Refusal.{Refusal}
use Rattle.std.specs.Prelude.{Result, Ok}
use Rattle.candidate_pool.specs.Offsets.{room_end}
use Rattle.refusals.specs.Refusals.{Passes}
use Rattle.input_tests.specs.Front.{limits}
use Rattle.input_tests.proofs.Lists.{cap_listed}
use Rattle.candidate_pool.specs.Pool.{Pool, no_candidate}
use Rattle.candidate_surface.specs.declared.asked.Asked.{Asked}
use Rattle.candidate_surface.specs.Asked.{setting}
use Rattle.closure_tests.specs.Tests.{closure_tests}
use Rattle.candidate_surface.specs.Steps.{Sound, most_candidates, Surfaced, full_pool, Completed}
use Rattle.closure_tests.proofs.Checking.{room_passed, lists_passed}
use Rattle.candidate_surface.proofs.Fitting.{vertices_in}
use Rattle.cap_triangles.specs.Room.{turned_at}
use Rattle.caps.specs.Steps.{CapsChecked, Listable, Closable}
use Rattle.caps.proofs.Numbering.{full_low, words_low, words_kept}

pub listable : (vs : List Float) (fs cap_list : List ℕ) (q : Asked) (ceiling : ℕ) (w : List ℕ) → Passes (closure_tests vs fs q (length cap_list) (limits ceiling (length w)))
    → Listable vs fs cap_list (most_candidates vs q) w
listable vs fs cap_list q ceiling w e =
    let l = limits ceiling (length w) in
    let r = room_passed vs fs q (length cap_list) l e in
    record { list = cap_listed ceiling vs fs (length cap_list) (lists_passed vs fs q (length cap_list) l e); size = omega (arith, r) }

pub listable_same : (vs : List Float) (fs cap_list : List ℕ) (n m : ℕ) (w w' : List ℕ) → m ≡ n → length w' ≡ length w → Listable vs fs cap_list n w → Listable vs fs cap_list m w'
listable_same vs fs cap_list n m w w' e l L = record { list = L.list; size = let s = L.size in omega (arith, e, l, s) }

pub tabled_room : (vs : List Float) (fs cap_list : List ℕ) (n : ℕ) (w : List ℕ) → Listable vs fs cap_list n w → room_end n (length fs / 3) ≤ length w
tabled_room vs fs cap_list n w L = let s = L.size in omega (arith, s)

-- w₁ as the open edges left it, w as corner vertices and grids did, w' as the tests did
pub closable : (vs : List Float) (fs cap_list : List ℕ) (q : Asked) (n k : ℕ) (w₁ w w' : List ℕ) (r : Result (Unit {0}) Refusal) → Sound vs fs q
    → Surfaced vs fs q.extents q.eps n k w₁ → Completed vs fs q n k w → CapsChecked n (length fs / 3) k cap_list r w w' → r ≡ Ok tt → Closable vs fs cap_list n k w'
closable vs fs cap_list q n k w₁ w w' r S F D C e =
    let low = full_low vs fs q (subst (λ (p : Pool). (c : ℕ) → c < length p.all → (get_or p.all c no_candidate).mesh ≤ length (points_of vs)) F.pool F.sourced.low) in
    record {
      lists = S.lists;
      within = vertices_in vs fs q S;
      words = words_kept (turned_at n (length fs / 3)) n (length vs / 3) w w' (C.above e) (omega arith) D.holds.table.few
          (words_low n (length vs / 3) w (full_pool (setting q) (mesh_of vs fs)) D.pool low);
      ready = C.ready e;
      known = C.known e;
    }
