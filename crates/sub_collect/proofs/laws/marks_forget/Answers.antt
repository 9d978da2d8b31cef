use Rattle.sub_collect.proofs.Marking.{mark_free, shown_mark_free, mark_forgets, starts_afresh, completed_since_mark}
use Rattle.sub_collect.proofs.MarksShown.{latest_over_is_shown}
use Rattle.sub_collect.proofs.laws.marks_forget.Goals as goal

pub returns-clause-free : goal.returns-clause-free
returns-clause-free c = mark_free

pub returns-clause-shown_free : goal.returns-clause-shown_free
returns-clause-shown_free c = shown_mark_free

pub returns-clause-forgets : goal.returns-clause-forgets
returns-clause-forgets c = mark_forgets

pub returns-clause-afresh : goal.returns-clause-afresh
returns-clause-afresh c = starts_afresh

pub returns-clause-since : goal.returns-clause-since
returns-clause-since c = completed_since_mark

pub returns-clause-shown : goal.returns-clause-shown
returns-clause-shown c = latest_over_is_shown
