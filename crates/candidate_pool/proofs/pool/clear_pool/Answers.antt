use Rattle.candidate_pool.proofs.Clearing.{cleared}
use Rattle.candidate_pool.proofs.pool.clear_pool.Goals as goal

pub returns : goal.returns
returns c =
    λ eps. cleared eps
    c.args.room.n
    c.args.w.now
    c.zero_part.new.w
    c.zero_part-2.new.w c.zero_part-3.new.w
    c.chain_at.result c.joined_at.result
    c.chain_at.ensures c.joined_at.ensures
    c.args.room.small.0
    c.requires
    c.zero_part.ensures
    c.zero_part-2.ensures c.zero_part-3.ensures
