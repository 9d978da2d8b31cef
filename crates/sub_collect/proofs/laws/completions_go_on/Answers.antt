use Rattle.sub_collect.proofs.Done.{dones-go_on, dones-one_more, latest-one_more}
use Rattle.sub_collect.proofs.laws.completions_go_on.Goals as goal

pub returns : goal.returns
returns c = record { list = dones-go_on; one = dones-one_more; latest = latest-one_more }
