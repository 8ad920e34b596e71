use Rattle.candidate_pool.specs.Offsets.{chain_at}
use Rattle.candidate_pool.proofs.Searching.{key_is}
use Rattle.chains.proofs.Walking.{Walk, left}
use Rattle.candidate_pool.proofs.keys.find_key.Given as goal

abbrev pub invariant-loop-here : goal.invariant-loop-here
invariant-loop-here l = Walk l.w (chain_at l.room.n) l.room.n l.count l.b (key_is l.w l.room.n l.key) l.here

abbrev pub decreases-loop-here : goal.decreases-loop-here
decreases-loop-here l = left l.count l.here
