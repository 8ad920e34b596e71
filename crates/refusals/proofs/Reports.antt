-- Laws of reports: a report of one reply is a report of every reply equal to it.
use Rattle.std.specs.Prelude.{Result, Ok, Err, is_err}
use mathlib.Core.Bool.{false}
use mathlib.Core.Path.{◌≡◌, refl, sym, ap, subst}
use lib.ListN.{get_or}
use mathlib.Core.List.{List, [], ◌∷◌}
use Prim.Native.Nat.{ℕ}
use Rattle.refusals.specs.declared.refusal.Refusal.{Refusal}
use Rattle.refusals.specs.Refusals.{documented, documented_reply}
use Rattle.refusals.specs.Reports.{Reported}

pub same_reply : (reply reply' : List ℕ) (r : ℕ) (ws : List ℕ) → reply ≡ reply' → Reported reply r ws → Reported reply' r ws
same_reply reply reply' r ws e h = subst (λ (l : List ℕ). Reported l r ws) e h

pub in_case : (refusal case : Refusal) (r : ℕ) (ws : List ℕ) → refusal ≡ case → Reported (documented case) r ws → Reported (documented refusal) r ws
in_case refusal case r ws e h = same_reply (documented case) (documented refusal) r ws (ap documented (sym e)) h

pub reply_done : (x : Result (List ℕ) Refusal) (lengths : List ℕ) (r : ℕ) (ws : List ℕ) → x ≡ Ok lengths → Reported (0 ∷ lengths) r ws → Reported (documented_reply x) r ws
unfolding documented_reply
reply_done x lengths r ws e h = same_reply (0 ∷ lengths) (documented_reply x) r ws (ap documented_reply (sym e)) h

pub reply_refused : (x : Result (List ℕ) Refusal) (refusal : Refusal) (r : ℕ) (ws : List ℕ) → x ≡ Err refusal → Reported (documented refusal) r ws → Reported (documented_reply x) r ws
unfolding documented_reply
reply_refused x refusal r ws e h = same_reply (documented refusal) (documented_reply x) r ws (ap documented_reply (sym e)) h

-- a reply that is no refusal has the number 0
pub reply_zero : (x : Result (List ℕ) Refusal) → is_err x ≡ false → get_or (documented_reply x) 0 0 ≡ 0
unfolding documented_reply
reply_zero (Ok l) e = refl
reply_zero (Err r) e = cc
