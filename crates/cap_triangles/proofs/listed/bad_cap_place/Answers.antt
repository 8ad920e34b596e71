use Prim.Native.Nat.{ℕ, ◌+◌, ◌*◌}
use mathlib.Core.Path.{◌≡◌, sym, ap, ◌∙◌}
use lib.ListN.{get_or}
use native.Mathlib.Omega.{arith}
use Rattle.geometry.specs.Triangles.{Triangle}
use Rattle.cap_triangles.specs.Steps.{bad_words}
use Rattle.cap_triangles.proofs.Passing.{passed_stop, passed_more, passed_end}
use Rattle.cap_triangles.proofs.listed.bad_cap_place.Goals.{After-is_bad_cap}
use Rattle.cap_triangles.proofs.listed.bad_cap_place.Goals as goal

-- what is told of a supplied triangle, by its four words
by-words : (c : After-is_bad_cap) → let word : ℕ → ℕ = λ k. get_or c.args.caps.list.now (4 * c.loop-i.i + k) 0 in
    c.is_bad_cap.result ≡ bad_words c.args.w.now c.loop-i.last (get_or c.args.caps.list.now (4 * c.loop-i.i) 0) (word 1) (word 2) (word 3)
by-words c =
    c.is_bad_cap.ensures
    ∙ ap (λ (t : Triangle ℕ). bad_words c.args.w.now c.loop-i.last (get_or c.args.caps.list.now (4 * c.loop-i.i) 0) t.a t.b t.c) c.supplied.ensures

pub returns-then-is_bad_cap : goal.returns-then-is_bad_cap
returns-then-is_bad_cap c =
    let by-words = by-words (goal.at.returns-then-is_bad_cap c).After-is_bad_cap in
    let s = c in
    let loop' = c.loop-i in
    passed_stop s.args.caps.n s.args.w.now s.args.caps.list.now loop'.i loop'.last loop'.invariant c.loop-i-test.true
    s.requires.0 (sym by-words ∙ c.if-is_bad_cap.true)

pub loop-i-preserved : goal.loop-i-preserved
loop-i-preserved c =
    let by-words = by-words (goal.at.loop-i-preserved c).After-is_bad_cap in
    let s = c in
    let loop' = c.loop-i in
    passed_more s.args.caps.n s.args.w.now s.args.caps.list.now loop'.i loop'.last loop'.invariant c.loop-i-test.true
    s.requires.0 (sym by-words ∙ c.if-is_bad_cap.false)

pub returns : goal.returns
returns c =
    let s = c in
    let loop' = c.loop-i in
    passed_end s.args.caps.n s.args.w.now s.args.caps.list.now loop'.i loop'.last loop'.invariant (omega (arith, c.loop-i-test.false))
