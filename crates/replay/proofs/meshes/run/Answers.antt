use mathlib.Core.Path.{◌∙◌}
use Rattle.replay.proofs.Agreeing.{fresh_room}
use Rattle.replay.proofs.meshes.run.Goals as goal

pub clip_agrees-requires : goal.clip_agrees-requires
clip_agrees-requires c =
    fresh_room (c.old_numbers.ensures.long ∙ c.requires.0) c.old_doubles.ensures c.requires.1.0 (c.old_numbers-2.ensures.long ∙ c.requires.1.1) c.old_numbers-2.ensures.counted

pub clean_agrees-requires : goal.clean_agrees-requires
clean_agrees-requires c =
    fresh_room (c.old_numbers.ensures.long ∙ c.requires.0) c.old_doubles.ensures c.requires.1.0 (c.old_numbers-2.ensures.long ∙ c.requires.1.1) c.old_numbers-2.ensures.counted

pub caps_agrees-requires : goal.caps_agrees-requires
caps_agrees-requires c =
    fresh_room (c.old_numbers.ensures.long ∙ c.requires.0) c.old_doubles.ensures c.requires.1.0 (c.old_numbers-2.ensures.long ∙ c.requires.1.1) c.old_numbers-2.ensures.counted
