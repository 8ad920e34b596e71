-- Where the tables of candidates stand in the work room, of which the outer contract does not speak, for at most n candidates and nf facets. src/room.rt has them as a table with
-- what each holds; they stand one behind the other, so that a further table is a change of this file and that one. Assumes nothing.
--   entry_at         candidate c, as it is written out
--   keys_at          the keys                                     chain_at         the bucket chains
--   lists_at, list_at the six face lists; that of face f           joined_at        the candidates that mesh vertices joined
--   pool_end         where the pool ends
--   places_at        places of candidates in a face's list        side_at          places along a side
--   pairs_at         pairs of places of a face                    constraints_at   the constraints
--   open_edges_at     the open edges                               segments_at      segments of a face
--   edge_table_at     the edge table                               room_end         where all of it ends
use Rattle.std.specs.Prelude.{ℕ, ◌+◌, ◌*◌}

abbrev pub entry_at : ℕ → ℕ
entry_at c = 8 + 5 * c

abbrev pub keys_at : ℕ → ℕ
keys_at n = 8 + 5 * n

abbrev pub chain_at : ℕ → ℕ
chain_at n = 8 + 8 * n

abbrev pub lists_at : ℕ → ℕ
lists_at n = 8 + 11 * n

abbrev pub list_at : ℕ → ℕ → ℕ
list_at n f = 8 + 11 * n + f * n

abbrev pub joined_at : ℕ → ℕ
joined_at n = 8 + 17 * n

abbrev pub pool_end : ℕ → ℕ
pool_end n = 8 + 18 * n

abbrev pub places_at : ℕ → ℕ
places_at n = 8 + 18 * n

abbrev pub side_at : ℕ → ℕ
side_at n = 8 + 19 * n

abbrev pub pairs_at : ℕ → ℕ
pairs_at n = 8 + 23 * n

abbrev pub constraints_at : ℕ → ℕ → ℕ
constraints_at n nf = 8 + 39 * n + 12 * nf

abbrev pub open_edges_at : ℕ → ℕ → ℕ
open_edges_at n nf = 8 + 63 * n + 30 * nf

abbrev pub segments_at : ℕ → ℕ → ℕ
segments_at n nf = 8 + 63 * n + 39 * nf

abbrev pub edge_table_at : ℕ → ℕ → ℕ
edge_table_at n nf = 8 + 63 * n + 54 * nf

abbrev pub room_end : ℕ → ℕ → ℕ
room_end n nf = 8 + 63 * n + 66 * nf
