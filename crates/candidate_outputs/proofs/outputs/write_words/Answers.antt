use Rattle.candidate_outputs.proofs.Blocks.{part_copied}
use Rattle.candidate_outputs.proofs.outputs.write_words.Goals as goal

pub returns : goal.returns
returns c = part_copied c.args.words.now c.args.out.now _ c.args.at c.requires c.copy_front.ensures
