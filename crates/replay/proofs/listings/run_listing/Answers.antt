use mathlib.Core.Path.{◌∙◌}
use Rattle.replay.proofs.Filling.{counted}
use Rattle.replay.proofs.listings.run_listing.Goals as goal

pub listing_agrees-requires : goal.listing_agrees-requires
listing_agrees-requires c = let lent = c.requires.outputs_lent in record {
  three = record {
    lent = c.old_numbers.ensures.long ∙ c.requires.work_len;
    first = counted _ _ (c.old_numbers-2.ensures.long ∙ lent.first) c.old_numbers-2.ensures.counted;
    second = counted _ _ (c.old_numbers-3.ensures.long ∙ lent.second) c.old_numbers-3.ensures.counted;
    third = counted _ _ (c.old_numbers-4.ensures.long ∙ lent.third) c.old_numbers-4.ensures.counted;
  };
  fourth = counted _ _ (c.old_numbers-5.ensures.long ∙ lent.fourth) c.old_numbers-5.ensures.counted;
}
