use Rattle.std.proofs.Common.{rules}
use Rattle.words.proofs.Overlay.{part_zeroed}
use Rattle.words.proofs.parts.zero_part.Goals as goal

pub returns : goal.returns
returns c = part_zeroed c.args.w.now c.fill.new.self c.args.at c.args.n c.requires (search rules)
