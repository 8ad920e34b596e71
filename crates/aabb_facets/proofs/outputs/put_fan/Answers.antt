use Rattle.aabb_facets.proofs.OutputLists.{fan_start, fan_more, fan_end}
use native.Mathlib.Omega.{arith}
use borrow.Author.Rules.{rules}
use mathlib.Core.Path.{refl, sym, ◌∙◌}
use Rattle.aabb_facets.proofs.outputs.put_fan.Goals as goal

pub loop-j-init : goal.loop-j-init
loop-j-init c = (search rules, (refl, fan_start _ _ _ _))

pub loop-j-preserved : goal.loop-j-preserved
loop-j-preserved c =
    let put-u323 = c.put-in-loop-j-2 in
    let put-u322 = c.put-in-loop-j in
    let put-u32 = c.put in
    let loop = c.loop-j in
    let loop-test = c.loop-j-test in (
      search rules,
      (
        put-u323.auto.out ∙ put-u322.auto.out ∙ put-u32.auto.out ∙ loop.invariant.1.0,
        fan_more _ _ _ _ _ _ _ _ loop-test.true put-u32.ensures
            put-u322.ensures put-u323.ensures ∙ loop.invariant.1.1,
      ),
    )

pub returns : goal.returns
returns c = sym (fan_end _ _ _ _ _ (omega arith)) ∙ c.loop-j.invariant.1.1
