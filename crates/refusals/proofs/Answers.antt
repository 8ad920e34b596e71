-- Laws of an operation's answer, over any list of outputs: refused in front, after tests that passed, short of room at one output, and done.
--   Same, Fits, Laid   no output changed; each has room for its result; each holds its result at its front
--   refused            a test in front held                       after, behind   the tests in front passed, and the rest answered
--   short              12: the first output that is too short     done_two, done_three, done_four   all fit, and were written
--   answer_done        an answer whose number is 0
--   answered, called   the work room cleared at the end; a reply reported to C
--   meshes_alike       the same tests, mesh, outputs and work room: two calls end alike
use Rattle.std.specs.Prelude.{Result, Ok, Err}
use Prim.Native.Nat.{ℕ, ◌≤◌, ◌<◌}
use mathlib.Core.Path.{◌≡◌, sym, ap, ◌∙◌, subst}
use mathlib.Core.List.{List, [], ◌∷◌, ◌++◌, append_assoc}
use native.Mathlib.Omega.{arith}
use borrow.Author.Tests.{lt-ltb, le-ltb}
use lib.Dec.{ltb}
use lib.ListN.{length, get_or, replicate}
use lib.Ieee.{Float}
use Rattle.words.specs.Overlay.{overlay}
use Rattle.geometry.specs.Triangles.{flat}
use Rattle.geometry.specs.Meshes.{Mesh, coordinates}
use Rattle.refusals.specs.declared.refusal.Refusal.{Refusal}
use Rattle.refusals.specs.declared.refusal.Refusal.TheVariants.{NoRoom}
use Rattle.refusals.specs.Refusals.{documented, documented_reply, Test, first_refusal, Passes, numbered, reply_to, settle}
use Rattle.refusals.specs.Reports.{Reported}
use Rattle.refusals.specs.Answers.{room_tests, Output, mesh_outputs, result_lengths, output_lengths, AllSettled, reply_with, Answer, Answered, Called, MeshesAlike}
use Rattle.refusals.proofs.Refusals.{holds, passes, none_left, untouched, laid_over}
use Rattle.refusals.proofs.Replies.{reply_refused, reply_passed, reply_done}

abbrev pub Same : List Output → Type 0
Same [] = Unit {0}
Same (o ∷ outs) = (o.after ≡ o.before) × Same outs

abbrev pub Fits : List Output → Type 0
Fits [] = Unit {0}
Fits (o ∷ outs) = (length o.result ≤ length o.before) × Fits outs

abbrev pub Laid : List Output → Type 0
Laid [] = Unit {0}
Laid (o ∷ outs) = (o.after ≡ overlay o.result o.before) × Laid outs

-- 12
abbrev rooms : List Output → List Test
rooms outs = room_tests (result_lengths outs) (output_lengths outs)

-- ---- outputs

all_untouched : (r : Refusal) (outs : List Output) → Same outs → AllSettled (documented r) outs
all_untouched r [] h = tt
all_untouched r (o ∷ outs) h = (h.0 ∙ sym (untouched r o.result o.before), all_untouched r outs h.1)

all_laid : (l : List ℕ) (outs : List Output) → Laid outs → AllSettled (0 ∷ l) outs
all_laid l [] h = tt
all_laid l (o ∷ outs) h = (h.0 ∙ sym (laid_over l o.result o.before), all_laid l outs h.1)

-- ---- replies

pub refused : (ts : List Test) (outs : List Output) (r : Refusal) → first_refusal ts ≡ Err r → Same outs → Answer ts outs (documented_reply (Err r))
unfolding documented_reply
refused ts outs r e h =
    record { replied = sym (reply_refused ts (rooms outs) (result_lengths outs) r e); settled = all_untouched r outs h }

pub after : (ts us : List Test) (outs : List Output) (reply : List ℕ) → Passes ts → Answer us outs reply → Answer (ts ++ us) outs reply
after ts us outs reply e a =
    record {
      replied = a.replied ∙ sym (reply_passed ts (us ++ rooms outs) (result_lengths outs) e)
          ∙ ap (λ (l : List Test). reply_to l (result_lengths outs)) (sym (append_assoc ts us (rooms outs)));
      settled = a.settled;
    }

-- where 12 alone is left
pub behind : (ts : List Test) (outs : List Output) (reply : List ℕ) → Passes ts → Answer [] outs reply → Answer ts outs reply
behind ts outs reply e a = record { replied = a.replied ∙ sym (reply_passed ts (rooms outs) (result_lengths outs) e); settled = a.settled }

-- the first output without room is o: those before it, os, have it
room_short : (os : List Output) (o : Output) (outs : List Output) → Fits os → length o.before < length o.result
    → first_refusal (rooms (os ++ o ∷ outs)) ≡ Err (NoRoom (length o.result))
unfolding room_tests
room_short [] o outs f h = holds (ltb (length o.before) (length o.result)) (NoRoom (length o.result)) (rooms outs) (lt-ltb _ _ h)
room_short (p ∷ os) o outs f h =
    passes (ltb (length p.before) (length p.result)) (NoRoom (length p.result)) (rooms (os ++ o ∷ outs)) (le-ltb _ _ f.0)
    ∙ room_short os o outs f.1 h

room_enough : (outs : List Output) → Fits outs → Passes (rooms outs)
unfolding room_tests
room_enough [] f = none_left
room_enough (o ∷ outs) f =
    passes (ltb (length o.before) (length o.result)) (NoRoom (length o.result)) (rooms outs) (le-ltb _ _ f.0) ∙ room_enough outs f.1

-- n is the length of its result, as it was computed
pub short : (os : List Output) (o : Output) (outs : List Output) (n : ℕ) → n ≡ length o.result → Fits os → length o.before < n → Same (os ++ o ∷ outs)
    → Answer [] (os ++ o ∷ outs) (documented_reply (Err (NoRoom n)))
unfolding documented_reply
short os o outs n e f h s =
    record {
      replied = ap (λ (k : ℕ). documented (NoRoom k)) e
          ∙ sym (ap (λ (c : Result (Unit {0}) Refusal). numbered c (result_lengths (os ++ o ∷ outs))) (room_short os o outs f (omega (arith, e, h))));
      settled = all_untouched (NoRoom n) (os ++ o ∷ outs) s;
    }

pub done : (outs : List Output) (lengths : List ℕ) → lengths ≡ result_lengths outs → Fits outs → Laid outs → Answer [] outs (documented_reply (Ok lengths))
unfolding documented_reply
done outs lengths e f l =
    record {
      replied = ap (λ (k : List ℕ). 0 ∷ k) e ∙ sym (ap (λ (c : Result (Unit {0}) Refusal). numbered c (result_lengths outs)) (room_enough outs f));
      settled = all_laid lengths outs l;
    }

-- an answer whose number is 0 tells the lengths written, and the outputs hold the results
pub answer_done : (ts : List Test) (outs : List Output) (reply : List ℕ) → Answer ts outs reply → get_or reply 0 0 ≡ 0 → (reply ≡ 0 ∷ result_lengths outs) × Laid outs
unfolding settle
answer_done ts outs reply a h =
    let e = a.replied ∙ reply_done (ts ++ rooms outs) (result_lengths outs) (ap (λ (l : List ℕ). get_or l 0 0) (sym a.replied) ∙ h) in
    (e, go outs (subst (λ (l : List ℕ). AllSettled l outs) e a.settled))
  where
    go : (os : List Output) → AllSettled (0 ∷ result_lengths outs) os → Laid os
    go [] s = tt
    go (o ∷ os) s = (s.0, go os s.1)

-- ---- the whole operation

-- the room came out of the inner functions as u, and was cleared
pub answered : (ts : List Test) (outs : List Output) (w u w' reply : List ℕ) → Answer ts outs reply → length u ≡ length w → w' ≡ replicate (length u) 0
    → Answered ts outs w w' reply
answered ts outs w u w' reply a e z = record { answer = a; work = record { ends = z ∙ ap (λ (n : ℕ). replicate n 0) e } }

pub called : (ts : List Test) (outs : List Output) (w w' reply : List ℕ) (number : ℕ) (values : List ℕ)
    → Answered ts outs w w' reply → Reported reply number values → Called ts outs w w' number values
called ts outs w w' reply number values a r =
    record {
      reported = subst (λ (l : List ℕ). Reported l number values) a.answer.replied r;
      settled = subst (λ (l : List ℕ). AllSettled l outs) a.answer.replied a.answer.settled;
      work = a.work;
    }

pub meshes_alike : (ts us : List Test) (m : Mesh) (w w₁ w₂ r₁ r₂ : List ℕ) (v v₁ v₂ : List Float) (f f₁ f₂ : List ℕ) → ts ≡ us
    → Answered ts (mesh_outputs m v v₁ f f₁) w w₁ r₁ → Answered us (mesh_outputs m v v₂ f f₂) w w₂ r₂ → MeshesAlike r₁ r₂ w₁ w₂ v₁ v₂ f₁ f₂
meshes_alike ts us m w w₁ w₂ r₁ r₂ v v₁ v₂ f f₁ f₂ e a b =
    let r : r₁ ≡ r₂ = a.answer.replied ∙ ap (λ (l : List Test). reply_with l (mesh_outputs m v v f f)) e ∙ sym b.answer.replied in
    record {
      reply = r;
      vertices = a.answer.settled.0 ∙ ap (λ (l : List ℕ). settle l (coordinates m.points) v) r ∙ sym b.answer.settled.0;
      facets = a.answer.settled.1.0 ∙ ap (λ (l : List ℕ). settle l (flat m.facets) f) r ∙ sym b.answer.settled.1.0;
      work = a.work.ends ∙ sym b.work.ends;
    }
