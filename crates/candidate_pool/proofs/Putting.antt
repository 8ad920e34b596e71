-- The stores of a new candidate, one after the other. Assumes nothing.
--   four_long, four_rest, four_at_lem    four words from a place on
--   three_long, three_rest, three_at three words from a place on
--   key_same                         a key whose three words are the same
--   Pushed, pushed                   the room after a candidate was added, place by place
--   tail_room, enter_asks            what entering it in its bucket asks
--   put_all, put_long                the stores as the code makes them
use Prim.Native.Nat.{ℕ, ◌+◌, ◌*◌, ◌≤◌, ◌<◌}
use native.Mathlib.Omega.{arith}
use mathlib.Core.Path.{◌≡◌, sym, ap, subst, ◌∙◌}
use mathlib.Core.List.{List}
use lib.ListN.{get_or, set, length, length-set}
use lib.Seq.{get_or-set_same, get_or-set_other}
use lib.Ieee.{binary64, to_bits}
use Rattle.lists.specs.Regions.{Outside}
use Rattle.geometry.specs.declared.point.Point.{Point}
use Rattle.chains.specs.Chains.{Linked, linked_in}
use Rattle.chains.proofs.Entering.{linked_same, linked_more, tail_le, entered_length, entered_rest}
use Rattle.candidate_pool.specs.Offsets.{entry_at, keys_at, chain_at, pool_end}
use Rattle.mesh_weld.specs.declared.cells.Cell.{Cell}
use Rattle.mesh_weld.specs.Room.{cell_at}
use Rattle.candidate_pool.specs.Standing.{count_at}
use Rattle.candidate_pool.specs.Steps.{point_put, key_put, candidate_put}
use Rattle.candidate_pool.proofs.Searching.{key_words_are}

module _ (w : List ℕ) (at a b c d : ℕ) where
  abbrev four : List ℕ
  four = set (set (set (set w at a) (at + 1) b) (at + 2) c) (at + 3) d

  pub four_long : length four ≡ length w
  four_long = simp length-set

  pub four_rest : (x : ℕ) → Outside x at 4 → get_or four x 0 ≡ get_or w x 0
  four_rest x out =
      get_or-set_other (set (set (set w at a) (at + 1) b) (at + 2) c) (at + 3) x d 0 (out 3 (omega arith))
      ∙ get_or-set_other (set (set w at a) (at + 1) b) (at + 2) x c 0 (out 2 (omega arith))
      ∙ get_or-set_other (set w at a) (at + 1) x b 0 (out 1 (omega arith))
      ∙ get_or-set_other w at x a 0 (λ e. out 0 (omega arith) (omega arith))

  module _ (room : at + 3 < length w) where
    pub four_at0 : get_or four at 0 ≡ a
    four_at0 =
        get_or-set_other (set (set (set w at a) (at + 1) b) (at + 2) c) (at + 3) at d 0 (λ e. omega arith)
        ∙ get_or-set_other (set (set w at a) (at + 1) b) (at + 2) at c 0 (λ e. omega arith)
        ∙ get_or-set_other (set w at a) (at + 1) at b 0 (λ e. omega arith)
        ∙ get_or-set_same w at a 0 (omega arith)

    pub four_at1 : get_or four (at + 1) 0 ≡ b
    four_at1 =
        get_or-set_other (set (set (set w at a) (at + 1) b) (at + 2) c) (at + 3) (at + 1) d 0 (λ e. omega arith)
        ∙ get_or-set_other (set (set w at a) (at + 1) b) (at + 2) (at + 1) c 0 (λ e. omega arith)
        ∙ get_or-set_same (set w at a) (at + 1) b 0 (simp length-set (omega arith))

    pub four_at2 : get_or four (at + 2) 0 ≡ c
    four_at2 =
        get_or-set_other (set (set (set w at a) (at + 1) b) (at + 2) c) (at + 3) (at + 2) d 0 (λ e. omega arith)
        ∙ get_or-set_same (set (set w at a) (at + 1) b) (at + 2) c 0 (simp length-set (omega arith))

    pub four_at3 : get_or four (at + 3) 0 ≡ d
    four_at3 = get_or-set_same (set (set (set w at a) (at + 1) b) (at + 2) c) (at + 3) d 0 (simp length-set (omega arith))

module _ (w : List ℕ) (at : ℕ) (key : Cell) where
  pub three_long : length (key_put w at key) ≡ length w
  three_long = simp length-set

  pub three_rest : (x : ℕ) → Outside x at 3 → get_or (key_put w at key) x 0 ≡ get_or w x 0
  three_rest x out =
      get_or-set_other (set (set w at key.x) (at + 1) key.y) (at + 2) x key.z 0 (out 2 (omega arith))
      ∙ get_or-set_other (set w at key.x) (at + 1) x key.y 0 (out 1 (omega arith))
      ∙ get_or-set_other w at x key.x 0 (λ e. out 0 (omega arith) (omega arith))

  pub three_at : at + 2 < length w → cell_at (key_put w at key) at ≡ key
  three_at room =
      key_words_are
      (get_or-set_other (set (set w at key.x) (at + 1) key.y) (at + 2) at key.z 0 (λ e. omega arith)
      ∙ get_or-set_other (set w at key.x) (at + 1) at key.y 0 (λ e. omega arith)
      ∙ get_or-set_same w at key.x 0 (omega arith))
      (get_or-set_other (set (set w at key.x) (at + 1) key.y) (at + 2) (at + 1) key.z 0 (λ e. omega arith)
      ∙ get_or-set_same (set w at key.x) (at + 1) key.y 0 (simp length-set (omega arith)))
      (get_or-set_same (set (set w at key.x) (at + 1) key.y) (at + 2) key.z 0 (simp length-set (omega arith)))

pub key_same : (u w : List ℕ) (at : ℕ) → ((i : ℕ) → i < 3 → get_or w (at + i) 0 ≡ get_or u (at + i) 0) → cell_at w at ≡ cell_at u at
key_same u w at same =
    key_words_are (ap (λ (x : ℕ). get_or w x 0) (omega arith) ∙ same 0 (omega arith) ∙ ap (λ (x : ℕ). get_or u x 0) (omega arith)) (same 1 (omega arith)) (same 2 (omega arith))

-- ---- a new candidate

pub record Pushed (n id : ℕ) (p : Point) (m : ℕ) (k : Cell) (w w' : List ℕ) : Type 0 where
  pub long : length w' ≡ length w
  pub count : count_at w' ≡ id + 1
  pub x : get_or w' (entry_at id) 0 ≡ to_bits binary64 p.x
  pub y : get_or w' (entry_at id + 1) 0 ≡ to_bits binary64 p.y
  pub z : get_or w' (entry_at id + 2) 0 ≡ to_bits binary64 p.z
  pub mesh : get_or w' (entry_at id + 3) 0 ≡ m
  pub mask : get_or w' (entry_at id + 4) 0 ≡ 0
  pub key : cell_at w' (keys_at n + 3 * id) ≡ k
  pub rest : (x : ℕ) → (x ≡ 6 → ⊥) → Outside x (entry_at id) 5 → Outside x (keys_at n + 3 * id) 3 → Outside x (chain_at n) (n + n + (id + 1)) → get_or w' x 0 ≡ get_or w x 0

module _ (w : List ℕ) (n id : ℕ) (p : Point) (m : ℕ) (k : Cell) (size : pool_end n ≤ length w) (less : id < n) where
  abbrev w1 : List ℕ
  w1 = set w 6 (id + 1)

  abbrev w2 : List ℕ
  w2 = point_put w1 id p m

  abbrev w3 : List ℕ
  w3 = set w2 (entry_at id + 4) 0

  abbrev w4 : List ℕ
  w4 = key_put w3 (keys_at n + 3 * id) k

  long1 : length w1 ≡ length w
  long1 = length-set w 6 (id + 1)

  long2 : length w2 ≡ length w
  long2 = four_long w1 (entry_at id) (to_bits binary64 p.x) (to_bits binary64 p.y) (to_bits binary64 p.z) m ∙ long1

  long3 : length w3 ≡ length w
  long3 = length-set w2 (entry_at id + 4) 0 ∙ long2

  long4 : length w4 ≡ length w
  long4 = three_long w3 (keys_at n + 3 * id) k ∙ long3

  rest2 : (x : ℕ) → Outside x (entry_at id) 4 → get_or w2 x 0 ≡ get_or w1 x 0
  rest2 x out = four_rest w1 (entry_at id) (to_bits binary64 p.x) (to_bits binary64 p.y) (to_bits binary64 p.z) m x out

  rest3 : (x : ℕ) → (x ≡ entry_at id + 4 → ⊥) → get_or w3 x 0 ≡ get_or w2 x 0
  rest3 x d = get_or-set_other w2 (entry_at id + 4) x 0 0 d

  rest4 : (x : ℕ) → Outside x (keys_at n + 3 * id) 3 → get_or w4 x 0 ≡ get_or w3 x 0
  rest4 x out = three_rest w3 (keys_at n + 3 * id) k x out

  before : (x : ℕ) → (x ≡ 6 → ⊥) → Outside x (entry_at id) 5 → Outside x (keys_at n + 3 * id) 3 → get_or w4 x 0 ≡ get_or w x 0
  before x six point key =
      rest4 x key ∙ rest3 x (λ e. point 4 (omega arith) e) ∙ rest2 x (λ i h e. point i (omega arith) e) ∙ get_or-set_other w 6 x (id + 1) 0 six

  chain_before : (x : ℕ) → chain_at n ≤ x → get_or w4 x 0 ≡ get_or w x 0
  chain_before x h = before x (λ e. omega arith) (λ i r e. omega arith) (λ i r e. omega arith)

  pub tail_room : (h : ℕ → ℕ) (b : ℕ) → b < n → Linked h w (chain_at n) n id → get_or w4 (chain_at n + n + b) 0 ≤ id
  tail_room h b q l = omega (arith, chain_before (chain_at n + n + b) (omega arith), tail_le h w (chain_at n) n id b l q)

  -- the stores as the code makes them: u is the room with the point in it, e where the candidate stands, and a and t are where keys and chains begin
  module _ (u v : List ℕ) (e a t b : ℕ) (u-is : u ≡ w2) (e_is : e ≡ entry_at id) (a-is : a ≡ keys_at n) (t-is : t ≡ chain_at n) where
    abbrev made : List ℕ
    made = key_put (set u (e + 4) 0) (a + 3 * id) k

    made_is : made ≡ w4
    made_is = λ i. key_put (set (u-is i) (e_is i + 4) 0) (a-is i + 3 * id) k

    pub enter_asks : (h : ℕ → ℕ) → b < n → Linked h w (chain_at n) n id → (b < n) × ((t + n + n + id < length made) × (get_or made (t + n + b) 0 ≤ id))
    enter_asks h q l =
        (q, (omega (arith, ap (length {A = ℕ}) made_is, long4), subst (λ (x : ℕ). x ≤ id) (sym (λ i. get_or (made_is i) (t-is i + n + b) 0)) (tail_room h b q l)))

    pub put_all : v ≡ linked_in made t n id b → v ≡ candidate_put w n id p m k b
    put_all h = h ∙ (λ i. linked_in (made_is i) (t-is i) n id b)

    pub put_long : v ≡ linked_in made t n id b → length v ≡ length w
    put_long h = ap (length {A = ℕ}) (put_all h) ∙ entered_length w4 (chain_at n) n id b ∙ long4

  module _ (b : ℕ) (q : b < n) (low : get_or w4 (chain_at n + n + b) 0 ≤ id) where
    abbrev w5 : List ℕ
    w5 = candidate_put w n id p m k b

    rest5 : (x : ℕ) → Outside x (chain_at n) (n + n + (id + 1)) → get_or w5 x 0 ≡ get_or w4 x 0
    rest5 x out = entered_rest w4 (chain_at n) n id b q low x out

    front : (x : ℕ) → x < chain_at n → get_or w5 x 0 ≡ get_or w4 x 0
    front x h = rest5 x (λ i r e. omega arith)

    -- candidate words that are not of the key
    point5 : (i : ℕ) → i < 4 → get_or w5 (entry_at id + i) 0 ≡ get_or w2 (entry_at id + i) 0
    point5 i h = front (entry_at id + i) (omega arith) ∙ rest4 (entry_at id + i) (λ j r e. omega arith) ∙ rest3 (entry_at id + i) (λ e. omega arith)

    pub pushed : Pushed n id p m k w w5
    pushed =
        record {
          long = entered_length w4 (chain_at n) n id b ∙ long4;
          count = front 6 (omega arith) ∙ rest4 6 (λ j r e. omega arith) ∙ rest3 6 (λ e. omega arith) ∙ rest2 6 (λ j r e. omega arith) ∙ get_or-set_same w 6 (id + 1) 0 (omega arith);
          x =
              ap (λ (x : ℕ). get_or w5 x 0) (omega arith) ∙ point5 0 (omega arith) ∙ ap (λ (x : ℕ). get_or w2 x 0) (omega arith) ∙ four_at0 w1 (entry_at id) (to_bits binary64 p.x)
              (to_bits binary64 p.y) (to_bits binary64 p.z) m room1;
          y = point5 1 (omega arith) ∙ four_at1 w1 (entry_at id) (to_bits binary64 p.x) (to_bits binary64 p.y) (to_bits binary64 p.z) m room1;
          z = point5 2 (omega arith) ∙ four_at2 w1 (entry_at id) (to_bits binary64 p.x) (to_bits binary64 p.y) (to_bits binary64 p.z) m room1;
          mesh = point5 3 (omega arith) ∙ four_at3 w1 (entry_at id) (to_bits binary64 p.x) (to_bits binary64 p.y) (to_bits binary64 p.z) m room1;
          mask = front (entry_at id + 4) (omega arith) ∙ rest4 (entry_at id + 4) (λ j r e. omega arith) ∙ get_or-set_same w2 (entry_at id + 4) 0 0 (omega (arith, long2));
          key = key_same w4 w5 (keys_at n + 3 * id) (λ i r. front (keys_at n + 3 * id + i) (omega arith)) ∙ three_at w3 (keys_at n + 3 * id) k (omega (arith, long3));
          rest = λ x six point key chain. rest5 x chain ∙ before x six point key;
        }
      where
        room1 : entry_at id + 3 < length w1
        room1 = omega (arith, long1)

    pub pushed_linked : (h : ℕ → ℕ) → b ≡ h id → Linked h w (chain_at n) n id → Linked h w5 (chain_at n) n (id + 1)
    pushed_linked h e l =
        linked_more h w4 (chain_at n) n id b e q (omega (arith, long4))
        (linked_same h w w4 (chain_at n) n id long4 (λ i r. chain_before (chain_at n + i) (omega arith)) l)
