use Prim.Native.Nat.{◌/◌}
use native.Mathlib.Omega.{arith}
use lib.ListN.{length}
use Rattle.cap_triangles.specs.Room.{closing_at}
use Rattle.cap_closing.proofs.Whole.{shaped_first, taking_first, closed}
use Rattle.cap_closing.proofs.Turns.{shaped_kept, taking_kept}
use Rattle.cap_closing.proofs.Beginning.{entering_first}
use Rattle.cap_closing.proofs.closing.close_caps.Goals as goal

pub append_caps-left-requires : goal.append_caps-left-requires
append_caps-left-requires c =
    let s = c in
    let a = s.args in
    let nc = length a.caps.list.now / 4 in
    let nv = length a.vertices.now / 3 in
    let b = closing_at a.caps.n a.caps.nf nc in
    let D = s.requires.turned_ready in
    let P = D.supplied in
    let x = P.small in
    let y = P.few in
    let z = P.caps in
    let q = P.size in
    let k = P.pooled.few in
    let S = c.start_entering.ensures in
    let w₁ = c.start_entering.new.w in
    let E = entering_first b a.caps.n nc nv a.w.now w₁ (omega arith) k (omega arith) x z s.requires.vertices_in.1 s.requires.vertices_in.2 S in record {
      names_entering = E;
      shaped = shaped_kept a.caps.n a.caps.nf nc a.w.now w₁ S.above a.vertices.now k
          (shaped_first a.caps.n a.caps.nf a.caps.list.now a.w.now D a.vertices.now s.requires.vertices_in.0);
      taking = taking_kept a.caps.n a.caps.nf nc a.w.now w₁ S.above
          (taking_first a.caps.n a.caps.nf a.caps.list.now a.w.now D s.requires.by_index);
    }

pub returns : goal.returns
returns c =
    let s = c in
    let a = s.args in
    let D = s.requires.turned_ready in
    let P = D.supplied in
    let x = P.small in
    let y = P.few in
    let z = P.caps in
    let q = P.size in
    let k = P.pooled.few in
    closed a.caps.n a.caps.nf a.caps.list.now a.w.now D a.vertices.now s.requires.vertices_in.1 s.requires.vertices_in.2 s.requires.by_index a.positive
    c.append_caps-left.result c.find_firsts-firsts.result
    c.start_entering.new.w
    c.append_caps-left.new.w c.find_firsts-firsts.new.w
    c.start_entering.ensures
    c.append_caps-left.ensures c.find_firsts-firsts.ensures
