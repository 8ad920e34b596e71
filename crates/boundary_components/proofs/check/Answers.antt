use Rattle.boundary_components.proofs.Checking.{many, ragged_refused, over_vertices, over_facets, not_over, many_refused, index_refused, room_refused, all_passed_lem, few, told}
use Rattle.input_tests.specs.Front.{Limits, limits, ragged}
use lib.ListN.{length}
use mathlib.Core.Bool.{false}
use native.Mathlib.Omega.{arith}
use mathlib.Core.Path.{◌≡◌, sym, ◌∙◌}
use Rattle.boundary_components.proofs.check.Goals.{Else-is_too_many}
use Rattle.boundary_components.proofs.check.Goals as goal

-- what the call may take
abbrev allowed : (c : Else-is_too_many) → Limits
allowed c = limits c.args.ceiling c.args.lent

-- the facets are not ragged, and neither they nor the vertices are too many
counted : (c : Else-is_too_many) → (ragged (length c.args.facets.now) 3 ≡ false) × (many c.args.vertices c.args.facets.now (allowed c) ≡ false)
counted c =
    let most = c.most_admitted-most.ensures in (
      sym c.is_ragged.ensures ∙ c.if-is_ragged.false,
      not_over c.args.vertices c.args.facets.now (allowed c) (omega (arith, most, c.if-vertices-most.false))
          (told _ most c.is_too_many.ensures c.if-is_too_many.false),
    )

pub returns-then-is_ragged : goal.returns-then-is_ragged
returns-then-is_ragged c =
    let s = c in
    let l = limits s.args.ceiling s.args.lent in
    ragged_refused s.args.vertices s.args.facets.now l (sym c.is_ragged.ensures ∙ c.if-is_ragged.true)

pub returns-then-vertices-most : goal.returns-then-vertices-most
returns-then-vertices-most c =
    let is-ragged = c.is_ragged in
    let most = c.most_admitted-most.ensures in
    let s = c in
    let l = limits s.args.ceiling s.args.lent in
    let over = over_vertices s.args.vertices s.args.facets.now l (omega (arith, most, c.if-vertices-most.true)) in
    many_refused s.args.vertices s.args.facets.now l (sym is-ragged.ensures ∙ c.if-is_ragged.false) over

pub returns-then-is_too_many : goal.returns-then-is_too_many
returns-then-is_too_many c =
    let is-ragged = c.is_ragged in
    let if1 = c.if-is_ragged in
    let most = c.most_admitted-most.ensures in
    let if2 = c.if-vertices-most in
    let many = c.is_too_many.ensures in
    let s = c in
    let l = limits s.args.ceiling s.args.lent in
    let over = over_facets s.args.vertices s.args.facets.now l (omega (arith, most, if2.false)) (told _ most many c.if-is_too_many.true) in
    many_refused s.args.vertices s.args.facets.now l (sym is-ragged.ensures ∙ if1.false) over

pub returns-then-has_bad_index : goal.returns-then-has_bad_index
returns-then-has_bad_index c =
    let passed = counted (goal.at.returns-then-has_bad_index c).Else-is_too_many in
    index_refused _ _ _ passed.0 passed.1 (sym c.has_bad_index.ensures ∙ c.if-has_bad_index.true)

pub work_need-need-requires : goal.work_need-need-requires
work_need-need-requires c =
    let s = (goal.at.work_need-need-requires c).Else-is_too_many in
    let f = few s.args.vertices s.args.facets.now (allowed s) (counted s).1 in
    omega (arith, f.0, f.1)

pub returns-then-lent-need : goal.returns-then-lent-need
returns-then-lent-need c =
    let passed = counted (goal.at.returns-then-lent-need c).Else-is_too_many in
    let three = sym c.has_bad_index.ensures ∙ c.if-has_bad_index.false in
    room_refused _ _ _ passed.0 passed.1 three _ c.work_need-need.ensures c.if-lent-need.true

pub returns : goal.returns
returns c =
    let passed = counted (goal.at.returns c).Else-is_too_many in
    let three = sym c.has_bad_index.ensures ∙ c.if-has_bad_index.false in
    all_passed_lem _ _ _ passed.0 passed.1 three _ c.work_need-need.ensures c.if-lent-need.false
