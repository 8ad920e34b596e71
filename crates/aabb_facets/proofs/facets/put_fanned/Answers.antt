use Rattle.std.proofs.Common.{arith}
use mathlib.Core.Path.{refl}
use lib.ListN.{length}
use Rattle.aabb_facets.proofs.RoomLaws.{fan_few, fan_put}
use Rattle.aabb_facets.proofs.facets.put_fanned.Goals as goal

pub returns-then-n-lt3 : goal.returns-then-n-lt3
returns-then-n-lt3 c = let a = c.args in λ i. fan_few a.at i a.out_vertices.now a.out_facets.now a.corners.now (omega arith)

pub returns : goal.returns
returns c =
    let a = c.args in
    λ i. fan_put a.at i a.out_vertices.now a.out_facets.now a.corners.now (length a.corners.now) _ _ refl c.if-n-lt3.false c.put_corners.ensures c.put_fan.ensures
