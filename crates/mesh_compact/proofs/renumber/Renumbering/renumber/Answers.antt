use Rattle.mesh_compact.proofs.Loop.{going_on, going_from, going_start}
use native.Mathlib.Omega.{arith}
use mathlib.Core.Path.{◌∙◌}
use Rattle.mesh_compact.proofs.renumber.Renumbering.renumber.Goals as goal

pub loop-i-init : goal.loop-i-init
loop-i-init c =
    let s = c.args.self.now in
    let z = c.zero_part.ensures in (
      going_from s.kept s.facets s.parts s.k s.at s.n c.args.m.now c.zero_part.new.w c.requires z.long (λ x q. z.rest x (λ i l e. omega arith))
          s.least 0 _ c.zero_part.new.w
          (going_start s.kept s.facets s.parts s.k s.at s.n s.least c.none-w.result c.args.m.now c.zero_part.new.w c.none-w.ensures.0 c.none-w.ensures.1 (omega (arith, c.requires.all_in)) z),
      z.long,
    )

pub loop-i-preserved : goal.loop-i-preserved
loop-i-preserved c =
    let s = c.args.self.now in
    let i = c.loop-i.invariant in (
      going_on s.kept s.facets s.parts s.k s.at s.n c.args.m.now c.loop-i.m c.requires i.1 i.0.rest
          s.least c.loop-i.i c.loop-i.w c.number_if_kept-w.result c.number_if_kept-w.new.m c.loop-i-test.true i.0 c.number_if_kept-w.ensures,
      c.number_if_kept-w.auto.m ∙ i.1,
    )
