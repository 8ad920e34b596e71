use native.Mathlib.Omega.{arith}
use Rattle.edges.proofs.Running.{listing_turn, listing_end}
use Rattle.edges.proofs.table.side_records.Goals as goal

pub loop-side-preserved : goal.loop-side-preserved
loop-side-preserved c =
    let l = c.loop-side in
    let s = c in
    rw c.put_record.ensures
    (listing_turn s.args.facets.now s.args.w.now s.requires.0 s.requires.1 l.w l.side l.invariant c.side_key-key.result (omega arith) c.side_key-key.ensures)

pub returns : goal.returns
returns c =
    let l = c.loop-side in
    let s = c in
    listing_end s.args.facets.now s.args.w.now s.requires.0 s.requires.1 l.w l.side l.invariant (omega arith)
