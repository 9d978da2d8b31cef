use Rattle.sub_collect.proofs.Done.{keys-apart, latest-apart, latest-is_shown}
use Rattle.sub_collect.proofs.laws.completions_by_key.Goals as goal

pub returns : goal.returns
returns c = record { shown = keys-apart; latest = latest-apart; last_shown = latest-is_shown }
