use Rattle.desk_checkpoint.proofs.TextFacts.{kept_country}
use Rattle.desk_checkpoint.proofs.text.item_rating.Goals as goal

pub raw_rating-requires : goal.raw_rating-requires
raw_rating-requires c = kept_country c.args.event.now.rating c.in-Some.rating c.in-Some.is c.requires.rating
