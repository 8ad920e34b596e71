use Rattle.candidate_pool.specs.Offsets.{entry_at}
use Rattle.candidate_pool.proofs.Numbers.{stored_numbers}
use Rattle.candidate_pool.proofs.pool.point_of.Goals as goal

pub float_from_bits-result : goal.float_from_bits-result
float_from_bits-result c =
    let s = c in
    let h = stored_numbers s.args.w.now (entry_at s.args.id.0) c.entry_at-at.result s.requires.0 c.entry_at-at.ensures in
    search (h.0, h.1, h.2)

pub float_from_bits-result-2 : goal.float_from_bits-result-2
float_from_bits-result-2 c =
    let s = c in
    let h = stored_numbers s.args.w.now (entry_at s.args.id.0) c.entry_at-at.result s.requires.0 c.entry_at-at.ensures in
    search (h.0, h.1, h.2)

pub float_from_bits-result-3 : goal.float_from_bits-result-3
float_from_bits-result-3 c =
    let s = c in
    let h = stored_numbers s.args.w.now (entry_at s.args.id.0) c.entry_at-at.result s.requires.0 c.entry_at-at.ensures in
    search (h.0, h.1, h.2)
