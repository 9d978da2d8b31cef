use Rattle.std.proofs.Common.{◌≡◌, ◌++◌, [], Option, Some, option_map, map, subst, sym, ap, ◌∙◌}
use Rattle.std.specs.Prelude.{option_to_list}
use Rattle.std.specs.List.{cons_option}
use Rattle.sub_collect.specs.Runs.{Counted, counted}
use Rattle.sub_collect.specs.Marks.{all_took, dones_over}
use Rattle.sub_collect.specs.Collectors.{CollectorStandsOver}
use Rattle.sub_collect.specs.declared.completed.Completed.{Completed}
use Rattle.guide_receiver.specs.Counting.{counted_in}
use Rattle.guide_receiver.specs.Dones.{done_key}
use Rattle.guide_receiver.specs.declared.counting.CountedSection.{CountedSection}
use Rattle.guide_receiver.proofs.Over.{one_shown_over}
use Rattle.guide_receiver.proofs.receiver.count.Goals as goal

pub returns-then-counts_again-clause-done : goal.returns-then-counts_again-clause-done
returns-then-counts_again-clause-done c = λ past stands.
    let again = c.counts_again.ensures.again c.requires.known c.if-counts_again.true in
    ap (λ (o : Option Completed). map done_key (cons_option o [])) (sym (again.repeats.quiet past stands))
    ∙ ap (λ (o : Option Counted). map done_key (dones_over past (all_took (option_to_list o)))) (sym again.is)

pub returns-then-counts_again-clause-stands : goal.returns-then-counts_again-clause-stands
returns-then-counts_again-clause-stands c = λ past stands.
    let again = c.counts_again.ensures.again c.requires.known c.if-counts_again.true in
    subst (λ (o : Option Counted). CollectorStandsOver (past ++ all_took (option_to_list o)) c.args.collector.now) (sym again.is) (again.repeats.stands past stands)

pub returns-in-Some-shown-clause-done : goal.returns-in-Some-shown-clause-done
returns-in-Some-shown-clause-done c =
    let counts = c.in-Some.counts in
    let s = counted counts.key counts.header counts.body in
    let is : Some s ≡ counted_in c.args.section.now = ap (option_map (λ (x : CountedSection). counted x.key x.header x.body)) (sym c.in-Some.is) ∙ c.in-Ok.ensures.counts in
    λ past stands. one_shown_over past (counted_in c.args.section.now) s (Some c.in-Some-shown.version) is (sym c.in-Some-shown.is ∙ c.in_ok-shown.ensures.shown past stands)

pub returns-in-Some-shown-clause-stands : goal.returns-in-Some-shown-clause-stands
returns-in-Some-shown-clause-stands c =
    let counts = c.in-Some.counts in
    let s = counted counts.key counts.header counts.body in
    let is : Some s ≡ counted_in c.args.section.now = ap (option_map (λ (x : CountedSection). counted x.key x.header x.body)) (sym c.in-Some.is) ∙ c.in-Ok.ensures.counts in
    λ past stands. subst (λ (o : Option Counted). CollectorStandsOver (past ++ all_took (option_to_list o)) c.take.new.self) is (c.in_ok-shown.ensures.stands past stands)

pub returns-in-None-clause-stands : goal.returns-in-None-clause-stands
returns-in-None-clause-stands c =
    let counts = c.in-Some.counts in
    let s = counted counts.key counts.header counts.body in
    let is : Some s ≡ counted_in c.args.section.now = ap (option_map (λ (x : CountedSection). counted x.key x.header x.body)) (sym c.in-Some.is) ∙ c.in-Ok.ensures.counts in
    λ past stands. subst (λ (o : Option Counted). CollectorStandsOver (past ++ all_took (option_to_list o)) c.take.new.self) is (c.in_ok-shown.ensures.stands past stands)

pub returns-in_default-found-clause-known : goal.returns-in_default-found-clause-known
returns-in_default-found-clause-known c = c.counted_section.ensures.known c.args.collector.now (c.counts_again.ensures.known c.requires.known)

pub returns-in_default-clause-known : goal.returns-in_default-clause-known
returns-in_default-clause-known c = c.counted_section.ensures.known c.args.collector.now (c.counts_again.ensures.known c.requires.known)

pub returns-in_err-shown-clause-known : goal.returns-in_err-shown-clause-known
returns-in_err-shown-clause-known c =
    c.next_round.ensures c.args.collector.now (c.counted_section.ensures.known c.args.collector.now (c.counts_again.ensures.known c.requires.known)) c.take.new.self

pub returns-in-Some-shown-clause-known : goal.returns-in-Some-shown-clause-known
returns-in-Some-shown-clause-known c =
    c.next_round.ensures c.args.collector.now (c.counted_section.ensures.known c.args.collector.now (c.counts_again.ensures.known c.requires.known)) c.take.new.self

pub returns-in-None-clause-known : goal.returns-in-None-clause-known
returns-in-None-clause-known c =
    c.next_round.ensures c.args.collector.now (c.counted_section.ensures.known c.args.collector.now (c.counts_again.ensures.known c.requires.known)) c.take.new.self
