-- What the inner functions of inserting do, of which no outer contract speaks. Assumes nothing.
--   BitsOf         the bits of a point's three numbers give them back
--   point_put       the room after a point and its mesh word were written to candidate id
--   key_put         the room after three words of a key were written
--   candidate_put   the room after a candidate of no face was added, with its key and in its bucket's chain
--   with_faces, FacesAdded   a pool whose candidate c has these faces too; w became w' so
use Rattle.std.specs.Prelude.{ℕ, ◌+◌, ◌*◌, ◌≤◌, ◌≡◌, List, length, get_or, set, Float}
use Rattle.std.specs.Float.{binary64}
use Rattle.std.specs.Float.Ieee.{of_bits, to_bits}
use Rattle.geometry.specs.declared.point.Point.{Point}
use Rattle.geometry.specs.Points.{origin}
use Rattle.chains.specs.Chains.{linked_in}
use Rattle.candidate_pool.specs.Offsets.{entry_at, keys_at, chain_at, joined_at}
use Rattle.mesh_weld.specs.declared.cells.Cell.{Cell}
use Rattle.candidate_pool.specs.Pool.{Pool, no_candidate, renewed, listed}
use Rattle.candidate_pool.specs.Standing.{candidate, faces_in, pool_at, Holds}

pub record BitsOf (p : Point) : Type 0 where
  pub x : of_bits binary64 (to_bits binary64 p.x) ≡ p.x
  pub y : of_bits binary64 (to_bits binary64 p.y) ≡ p.y
  pub z : of_bits binary64 (to_bits binary64 p.z) ≡ p.z

abbrev pub point_put : List ℕ → ℕ → Point → ℕ → List ℕ
point_put w id p mesh =
    set
    (set (set (set w (entry_at id) (to_bits binary64 p.x)) (entry_at id + 1) (to_bits binary64 p.y)) (entry_at id + 2) (to_bits binary64 p.z))
    (entry_at id + 3) mesh

abbrev pub key_put : List ℕ → ℕ → Cell → List ℕ
key_put w at key = set (set (set w at key.x) (at + 1) key.y) (at + 2) key.z

abbrev pub candidate_put : List ℕ → ℕ → ℕ → Point → ℕ → Cell → ℕ → List ℕ
candidate_put w n id p mesh key b =
    linked_in (key_put (set (point_put (set w 6 (id + 1)) id p mesh) (entry_at id + 4) 0) (keys_at n + 3 * id) key) (chain_at n) n id b

abbrev pub with_faces : Pool → ℕ → List ℕ → Pool
with_faces p c on =
    record { all = set p.all c (renewed (get_or p.all c no_candidate) (candidate origin 0 on)); lists = listed p.lists on c }

pub record FacesAdded (eps : Float) (n c mask : ℕ) (w w' : List ℕ) : Type 0 where
  pub pool : pool_at n w' ≡ with_faces (pool_at n w) c (faces_in mask)
  pub holds : Holds eps n w'
  pub long : length w' ≡ length w
  pub rest : (x : ℕ) → joined_at n ≤ x → get_or w' x 0 ≡ get_or w x 0
