use mathlib.Core.Path.{refl}
use Rattle.candidate_pool.proofs.Numbers.{bits_of}
use Rattle.root.proofs.Patterns.{no_nan}
use Rattle.candidate_pool.proofs.pool.put_point.Goals as goal

pub float_to_bits-w : goal.float_to_bits-w
float_to_bits-w c =
    let s = c in
    no_nan s.args.entry.p.x s.args.entry.fits.0.x.is_finite

pub float_to_bits-w-2 : goal.float_to_bits-w-2
float_to_bits-w-2 c =
    let s = c in
    no_nan s.args.entry.p.y s.args.entry.fits.0.y.is_finite

pub float_to_bits-w-3 : goal.float_to_bits-w-3
float_to_bits-w-3 c =
    let s = c in
    no_nan s.args.entry.p.z s.args.entry.fits.0.z.is_finite

pub returns : goal.returns
returns c =
    let struct-known3' = c.struct_known-3-1 in (
      rw (c.entry_at-at.ensures, c.mesh_word.ensures) refl,
      bits_of c.args.entry.p struct-known3'.given.0
          struct-known3'.given.1.0 struct-known3'.given.1.1.0,
    )
