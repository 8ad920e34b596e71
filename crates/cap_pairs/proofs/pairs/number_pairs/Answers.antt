use Rattle.cap_pairs.proofs.Numbers.{tables_then, words_then, sort_room, sorted_there, numbers_room, numbered}
use Rattle.cap_pairs.proofs.Ends.{tables_for, edge_ends}
use Rattle.sorting.proofs.Sorting.{sorted_part}
use native.Mathlib.Omega.{arith}
use borrow.Rule.Slice.PartMut.{put_mid}
use lib.ListN.{length}
use Prim.Native.Nat.{◌+◌, ◌*◌, ◌-◌, ◌/◌}
use Rattle.cap_pairs.proofs.pairs.number_pairs.Goals as goal

-- `number_pairs` meets its contract: the records of edges and of sides, their sort, and their numbers. Assumes nothing.
pub put_edges-requires : goal.put_edges-requires
put_edges-requires c =
    let s = c in
    let a = s.args in record {
      tables_for = tables_for a.caps.n a.caps.nf a.caps.k a.caps.list.now a.w.now s.requires;
      by_index = edge_ends a.caps.n a.caps.nf a.caps.k a.caps.list.now a.w.now s.requires;
    }

pub put_sides-requires : goal.put_sides-requires
put_sides-requires c =
    let s = c in
    let a = s.args in
    let put-edges' = c.put_edges in record {
      tables_for = tables_then a.caps.n a.caps.nf a.caps.k a.caps.list.now a.w.now put-edges'.new.w s.requires put-edges'.ensures;
      by_index = words_then a.caps.n a.caps.nf a.caps.k a.caps.list.now
          a.w.now put-edges'.new.w s.requires put-edges'.ensures;
    }

pub slice_bounds-sort_records-end : goal.slice_bounds-sort_records-end
slice_bounds-sort_records-end c =
    let s = c in
    let a = s.args in
    let put-edges' = c.put_edges in
    let put-sides' = c.put_sides in
    let records-at' = c.records_at-records in
    omega (
      arith,
      sort_room a.caps.n a.caps.nf a.caps.k a.caps.list.now a.w.now put-edges'.new.w s.requires put-edges'.ensures put-sides'.new.w put-sides'.ensures
          records-at'.result records-at'.ensures,
    )

pub number_records-requires : goal.number_records-requires
number_records-requires c =
    let s = c in
    let a = s.args in
    let put-edges' = c.put_edges in
    let put-sides' = c.put_sides in
    let records-at' = c.records_at-records in
    let sort-records' = c.sort_records in
    let numbers-at' = c.numbers_at in record {
      p_bound = numbers_room a.caps.n a.caps.nf a.caps.k a.caps.list.now a.w.now put-edges'.new.w s.requires put-edges'.ensures put-sides'.new.w put-sides'.ensures
          records-at'.result records-at'.ensures (put_mid records-at'.result (records-at'.result + 4 * (a.caps.k + 3 * (length a.caps.list.now / 4)) - records-at'.result)
          put-sides'.new.w sort-records'.new.m) (sorted_part put-sides'.new.w sort-records'.new.m records-at'.result
          (a.caps.k + 3 * (length a.caps.list.now / 4)) (sort_room a.caps.n a.caps.nf a.caps.k a.caps.list.now a.w.now put-edges'.new.w s.requires put-edges'.ensures
          put-sides'.new.w put-sides'.ensures records-at'.result records-at'.ensures) sort-records'.ensures) numbers-at'.result numbers-at'.ensures;
      sorted_places = sorted_there a.caps.n a.caps.nf a.caps.k a.caps.list.now a.w.now put-edges'.new.w s.requires put-edges'.ensures put-sides'.new.w put-sides'.ensures
          records-at'.result records-at'.ensures (put_mid records-at'.result (records-at'.result + 4 * (a.caps.k + 3 * (length a.caps.list.now / 4)) - records-at'.result)
          put-sides'.new.w sort-records'.new.m) (sorted_part put-sides'.new.w sort-records'.new.m records-at'.result
          (a.caps.k + 3 * (length a.caps.list.now / 4)) (sort_room a.caps.n a.caps.nf a.caps.k a.caps.list.now a.w.now put-edges'.new.w s.requires put-edges'.ensures
          put-sides'.new.w put-sides'.ensures records-at'.result records-at'.ensures) sort-records'.ensures);
    }

pub returns : goal.returns
returns c =
    let s = c in
    let a = s.args in
    let put-edges' = c.put_edges in
    let put-sides' = c.put_sides in
    let records-at' = c.records_at-records in
    let sort-records' = c.sort_records in
    let numbers-at' = c.numbers_at in
    let number-records' = c.number_records in
    numbered a.caps.n a.caps.nf a.caps.k a.caps.list.now a.w.now put-edges'.new.w s.requires put-edges'.ensures put-sides'.new.w put-sides'.ensures
    records-at'.result records-at'.ensures (put_mid records-at'.result (records-at'.result + 4 * (a.caps.k + 3 * (length a.caps.list.now / 4)) - records-at'.result)
    put-sides'.new.w sort-records'.new.m) (sorted_part put-sides'.new.w sort-records'.new.m records-at'.result
    (a.caps.k + 3 * (length a.caps.list.now / 4)) (sort_room a.caps.n a.caps.nf a.caps.k a.caps.list.now a.w.now put-edges'.new.w s.requires put-edges'.ensures
    put-sides'.new.w put-sides'.ensures records-at'.result records-at'.ensures) sort-records'.ensures) numbers-at'.result numbers-at'.ensures
    number-records'.new.w number-records'.ensures
