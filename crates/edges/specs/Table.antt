-- Table: the edge table, which is all sides as records (packed pair, number of the side), sorted; what the functions of this crate write. Side s of a
-- flat list of facets runs from the corner at s to the next one of its facet. Assumes nothing.
--   next_side s               the side that begins where s ends
--   edge_key s                  the pair of s in one word;   side_of l r   the side whose number a record holds
--   records_from, side_records the records of sides, numbered from 0 on
--   edge_table l              these records in ascending order, so that those of one pair stand together
--   bearing l s              the numbers of the sides that bear the pair of s, ascending
--   same_record_key, open_records     records of the same pair; those with a pair that no other record has
--   SideRecords, EdgeTable, KeptOpen, OpenEdges   what `side_records`, `sort_sides`, `keep_open` and `open_edges` leave in the words w' that were w
use Rattle.std.specs.Prelude.{ℕ, suc, ◌+◌, ◌*◌, ◌-◌, ◌%◌, ◌≤◌, ◌<◌, Bool, cond, List, [], ◌∷◌, map, ◌≡◌, eqb, length, get_or, take, drop, replicate}
use Rattle.lists.specs.Lists.{keep, count, up_to}
use Rattle.words.specs.Packed.{edge}
use Rattle.records.specs.Records.{records, sorted}
use Rattle.geometry.specs.Triangles.{threes}
use Rattle.edges.specs.Edges.{sides, same_pair, open_edges}

abbrev pub next_side : ℕ → ℕ
next_side s = cond (eqb (s % 3) 2) (s - 2) (s + 1)

abbrev pub edge_key : ℕ × ℕ → ℕ
edge_key s = edge s.0 s.1

unfoldable pub records_from : ℕ → List (ℕ × ℕ) → List (ℕ × ℕ)
records_from k [] = []
records_from k (s ∷ l) = (edge_key s, k) ∷ records_from (suc k) l

abbrev pub side_records : List (ℕ × ℕ) → List (ℕ × ℕ)
side_records l = records_from 0 l

abbrev pub edge_table : List (ℕ × ℕ) → List (ℕ × ℕ)
edge_table l = sorted (side_records l)

abbrev pub side_of : List (ℕ × ℕ) → ℕ × ℕ → ℕ × ℕ
side_of l r = get_or l r.1 (0, 0)

abbrev pub bearing : List (ℕ × ℕ) → ℕ × ℕ → List ℕ
bearing l s = keep (λ i. same_pair s (get_or l i (0, 0))) (up_to (length l))

abbrev pub same_record_key : ℕ × ℕ → ℕ × ℕ → Bool
same_record_key r q = eqb r.0 q.0

unfoldable pub open_records : List (ℕ × ℕ) → List (ℕ × ℕ)
open_records l = keep (λ r. eqb (count (same_record_key r) l) 1) l

pub record SideRecords (facets w w' : List ℕ) : Type 0 where
  pub table : records (take (2 * length facets) w') ≡ side_records (sides (threes facets))
  pub beyond : (x : ℕ) → 2 * length facets ≤ x → get_or w' x 0 ≡ get_or w x 0
  pub same : length w' ≡ length w

pub record EdgeTable (facets w w' : List ℕ) : Type 0 where
  pub table : records (take (2 * length facets) w') ≡ edge_table (sides (threes facets))
  pub scratch : take (2 * length facets) (drop (2 * length facets) w') ≡ replicate (2 * length facets) 0
  pub beyond : drop (4 * length facets) w' ≡ drop (4 * length facets) w
  pub same : length w' ≡ length w

pub record KeptOpen (w w' : List ℕ) (n k : ℕ) : Type 0 where
  pub count : k ≡ length (open_records (records (take (2 * n) w)))
  pub result : records (take (2 * k) w') ≡ open_records (records (take (2 * n) w))
  pub within : k ≤ n
  pub beyond : (x : ℕ) → 2 * n ≤ x → get_or w' x 0 ≡ get_or w x 0
  pub same : length w' ≡ length w

-- of k records at the front the i-th is that of open edge i: its key, and the number of the side that it runs as
pub record OpenEdges (facets w w' : List ℕ) (k : ℕ) : Type 0 where
  pub count : k ≡ length (open_edges (threes facets))
  pub within : k ≤ length facets
  pub result : records (take (2 * k) w') ≡ open_records (edge_table (sides (threes facets)))
  pub ends : map (side_of (sides (threes facets))) (records (take (2 * k) w')) ≡ open_edges (threes facets)
  pub key : (i : ℕ) → i < k → get_or w' (2 * i) 0 ≡ edge_key (get_or (open_edges (threes facets)) i (0, 0))
  pub number : (i : ℕ) → i < k → get_or w' (2 * i + 1) 0 < length facets
  pub side : (i : ℕ) → i < k → get_or (sides (threes facets)) (get_or w' (2 * i + 1) 0) (0, 0) ≡ get_or (open_edges (threes facets)) i (0, 0)
  pub zeros : (x : ℕ) → 2 * k ≤ x → x < 4 * length facets → get_or w' x 0 ≡ 0
  pub beyond : drop (4 * length facets) w' ≡ drop (4 * length facets) w
  pub same : length w' ≡ length w
