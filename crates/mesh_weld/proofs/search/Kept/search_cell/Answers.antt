use Rattle.mesh_weld.proofs.Searching.{meets_at, filed, met}
use Rattle.chains.proofs.Walking.{walk_start, walk_low, walk_room, walk_found, walk_turn, walk_less, walk_end}
use Prim.Native.Nat.{◌*◌}
use mathlib.Core.Path.{sym, ◌∙◌}
use Rattle.mesh_weld.proofs.search.Kept.search_cell.Goals as goal

pub loop-here-init : goal.loop-here-init
loop-here-init c =
    let k = c.args.self.now in
    let t = meets_at k.vertices.now k.eps k.n k.room.now c.args.c c.args.p in
    rw c.first-here.ensures
    (walk_start k.room.now 0 (4 * k.n) k.count c.bucket_at-b.result t
    (filed k.vertices.now k.eps k.n k.count k.room.now k.index c.args.c c.args.p c.args.s c.bucket_at-b.result c.requires c.bucket_at-b.ensures.is)
    c.bucket_at-b.ensures.low)

pub holds-requires : goal.holds-requires
holds-requires c =
    let k = c.args.self.now in
    walk_low k.room.now 0 (4 * k.n) k.count c.bucket_at-b.result (meets_at k.vertices.now k.eps k.n k.room.now c.args.c c.args.p) c.loop-here.here
    c.loop-here.invariant c.in-Some.i c.in-Some.is

pub returns-then-holds : goal.returns-then-holds
returns-then-holds c =
    let k = c.args.self.now in
    let t = meets_at k.vertices.now k.eps k.n k.room.now c.args.c c.args.p in
    met k.vertices.now k.eps k.n k.count k.room.now k.index c.args.c c.args.p _
    (walk_found k.room.now 0 (4 * k.n) k.count c.bucket_at-b.result t c.loop-here.here c.loop-here.invariant c.in-Some.i c.in-Some.is (sym c.holds.ensures ∙ c.if-holds.true))

pub next-here-requires : goal.next-here-requires
next-here-requires c =
    let k = c.args.self.now in
    walk_room k.room.now 0 (4 * k.n) k.count c.bucket_at-b.result (meets_at k.vertices.now k.eps k.n k.room.now c.args.c c.args.p) c.loop-here.here
    c.loop-here.invariant c.in-Some.i c.in-Some.is

pub loop-here-smaller : goal.loop-here-smaller
loop-here-smaller c =
    let k = c.args.self.now in
    rw c.next-here.ensures
    (walk_less k.room.now 0 (4 * k.n) k.count c.bucket_at-b.result (meets_at k.vertices.now k.eps k.n k.room.now c.args.c c.args.p) c.loop-here.here
    c.loop-here.invariant c.in-Some.i c.in-Some.is)

pub loop-here-preserved : goal.loop-here-preserved
loop-here-preserved c =
    let k = c.args.self.now in
    rw c.next-here.ensures
    (walk_turn k.room.now 0 (4 * k.n) k.count c.bucket_at-b.result (meets_at k.vertices.now k.eps k.n k.room.now c.args.c c.args.p) c.loop-here.here
    c.loop-here.invariant c.in-Some.i c.in-Some.is (sym c.holds.ensures ∙ c.if-holds.false))

pub returns : goal.returns
returns c =
    let k = c.args.self.now in
    met k.vertices.now k.eps k.n k.count k.room.now k.index c.args.c c.args.p _
    (walk_end k.room.now 0 (4 * k.n) k.count c.bucket_at-b.result (meets_at k.vertices.now k.eps k.n k.room.now c.args.c c.args.p) c.loop-here.here
    c.loop-here.invariant c.in_default.is)
