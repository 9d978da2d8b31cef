use Rattle.std.proofs.Common.{sym, ◌∙◌}
use Rattle.command_words.proofs.Settings.{feed_more, cycles_more, join_more, view_more}
use Rattle.command_words.proofs.uses.Uses.add.Goals as goal

pub returns-in-Feed : goal.returns-in-Feed
returns-in-Feed c = λ before setting counted is. rw c.saturating_add-self.ensures (feed_more before setting c.args.self.now counted (sym c.in-Feed.is ∙ is))

pub returns-in-Cycles : goal.returns-in-Cycles
returns-in-Cycles c = λ before setting counted is. rw c.saturating_add-self-in-Cycles.ensures (cycles_more before setting c.args.self.now counted (sym c.in-Cycles.is ∙ is))

pub returns-in-Join : goal.returns-in-Join
returns-in-Join c = λ before setting counted is. rw c.saturating_add-self-in-Join.ensures (join_more before setting c.args.self.now counted (sym c.in-Join.is ∙ is))

pub returns-in-View : goal.returns-in-View
returns-in-View c = λ before setting counted is. rw c.saturating_add-self-in-View.ensures (view_more before setting c.args.self.now counted (sym c.in-View.is ∙ is))
