use Rattle.epg_listen.proofs.guide.guide_lines.Goals as goal

pub returns-then-words : goal.returns-then-words
returns-then-words c = λ earlier packets taken stands. rw c.if-words.true (c.part_lines.ensures earlier packets taken stands)

pub returns-else-words : goal.returns-else-words
returns-else-words c = λ earlier packets taken stands. rw c.if-words.false (c.whole_lines.ensures earlier packets taken stands)
