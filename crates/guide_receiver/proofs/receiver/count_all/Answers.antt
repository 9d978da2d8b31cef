use Rattle.std.proofs.Common.{◌≡◌, ◌+◌, ◌++◌, List, Err, map, take, drop, refl, subst, sym, ap, ◌∙◌, append_assoc, take-append-drop, arith}
use Rattle.std.specs.Prelude.{Result, option_to_list}
use Rattle.std.proofs.lemmas.List.{map-append, take_all}
use Rattle.std.proofs.lemmas.List.Elements.{filter_map-append}
use Rattle.ts_demux.specs.declared.section.RawSection.{RawSection}
use Rattle.sub_collect.specs.Runs.{Counted}
use Rattle.sub_collect.specs.KeyCounts.{key_count, HaveTooManyKeys}
use Rattle.sub_collect.specs.declared.collector.TakeStop.{TakeStop}
use Rattle.sub_collect.specs.declared.collector.TakeStop.TheVariants.{TooMany}
use Rattle.sub_collect.specs.Marks.{Taken.Took, all_took, dones_over, section_in, sections_taken}
use Rattle.sub_collect.specs.Collectors.{CollectorStandsOver}
use Rattle.sub_collect.proofs.MarksShown.{sections-free}
use Rattle.sub_collect.proofs.KeyCounts.{count-grows}
use Rattle.guide_receiver.specs.Counting.{counted_in, counted_among}
use Rattle.guide_receiver.specs.declared.done.DoneKey.{DoneKey}
use Rattle.guide_receiver.specs.Latest.{keys_shown_over, kept_keys, AreLatest}
use Rattle.guide_receiver.specs.Dones.{done_key}
use Rattle.guide_receiver.proofs.Shown.{among-append, among-next}
use Rattle.guide_receiver.proofs.Over.{more_shown_over, keys-more_over}
use Rattle.guide_receiver.proofs.receiver.count_all.Goals as goal

same_stop : (r : Result (Unit {0}) TakeStop) (s t : TakeStop) → r ≡ Err s → r ≡ Err t → s ≡ t
same_stop r s t e f = let both = sym e ∙ f in cc

-- where some sections have a key too many, so have they with others behind them
more-too-many : (past : List Counted) (front rest all : List RawSection) → front ++ rest ≡ all → HaveTooManyKeys (past ++ counted_among front) → HaveTooManyKeys (past ++ counted_among all)
more-too-many past front rest all is many =
    let grows = count-grows (past ++ counted_among front) (counted_among rest) in
    let same = ap key_count (append_assoc past (counted_among front) (counted_among rest) ∙ ap (λ t. past ++ t) (sym (among-append front rest)) ∙ ap (λ (t : List RawSection). past ++ counted_among t) is) in
    omega (arith, many, grows, same)

pub loop-section-preserved : goal.loop-section-preserved
loop-section-preserved c =
    let sections = c.args.sections.now in
    let counted = counted_among (take c.loop-section.section-index sections) in
    let front = all_took counted in
    let found = option_to_list (counted_in c.section-item.result) in
    let one = all_took found in
    let next : front ++ one ≡ all_took (counted_among (take (c.loop-section.section-index + 1) sections)) =
    sym (map-append Took counted found) ∙ ap all_took (sym (among-next sections c.loop-section.section-index c.section-item.result c.loop-section-test.true c.section-item.is)) in (
      c.count.ensures.known,
      λ past stands.
          let i = c.loop-section.invariant.1 past stands in
          let shown = map done_key (dones_over past front) in (
            subst (λ t. CollectorStandsOver t c.count.new.collector) (append_assoc past front one ∙ ap (λ t. past ++ t) next) (c.in-Ok.ensures.stands (past ++ front) i.0),
            c.in-Ok-keep_shown.ensures.shown ∙ ap (λ t. t ++ option_to_list c.in-Ok.done) i.1 ∙ append_assoc c.args.shown.now shown (option_to_list c.in-Ok.done)
                ∙ ap (λ t. c.args.shown.now ++ (shown ++ t)) (c.in-Ok.ensures.done (past ++ front) i.0)
                ∙ ap (λ t. c.args.shown.now ++ t) (sym (more_shown_over past front one))
                ∙ ap (λ t. c.args.shown.now ++ map done_key (dones_over past t)) next,
            λ latest.
                let keys = keys_shown_over (past ++ front) in
                subst (λ ks. AreLatest ks (kept_keys c.keep_shown.new.latest))
                (ap (λ (ds : List DoneKey). keys ++ map (λ (d : DoneKey). d.key) ds) (c.in-Ok.ensures.done (past ++ front) i.0)
                ∙ sym (keys-more_over (past ++ front) one) ∙ ap keys_shown_over (append_assoc past front one ∙ ap (λ t. past ++ t) next))
                (c.in-Ok-keep_shown.ensures.latest keys (i.2 latest)),
          ),
    )

pub count-requires : goal.count-requires
count-requires c = record { known = c.loop-section.invariant.0 }

pub returns-clause-known : goal.returns-clause-known
returns-clause-known c = c.loop-section.invariant.0

pub returns-clause-stands : goal.returns-clause-stands
returns-clause-stands c =
    let sections = c.args.sections.now in
    let whole = take_all c.loop-section.section-index sections (omega (arith, c.loop-section-test.false)) in
    λ past stands. subst (λ (t : List RawSection). CollectorStandsOver (past ++ all_took (counted_among t)) c.loop-section.collector) whole (c.loop-section.invariant.1 past stands).0

pub returns-clause-latest : goal.returns-clause-latest
returns-clause-latest c =
    let sections = c.args.sections.now in
    let whole = take_all c.loop-section.section-index sections (omega (arith, c.loop-section-test.false)) in
    λ past stands latest. subst (λ (t : List RawSection). AreLatest (keys_shown_over (past ++ all_took (counted_among t))) (kept_keys c.loop-section.latest)) whole ((c.loop-section.invariant.1 past stands).2 latest)

pub returns-in-Err-clause-too_many : goal.returns-in-Err-clause-too_many
returns-in-Err-clause-too_many c = λ past stands many.
    let sections = c.args.sections.now in
    let i = c.loop-section.section-index in
    let front = counted_among (take i sections) in
    let one = option_to_list (counted_in c.section-item.result) in
    let next = among-next sections i c.section-item.result c.loop-section-test.true c.section-item.is in
    let here = c.in-Err.ensures.too_many (past ++ all_took front) (c.loop-section.invariant.1 past stands).0 (ap (λ (s : TakeStop). Err s) (same_stop (Err c.in-Err.stop) c.in-Err.stop TooMany refl many)) in
    let before : sections_taken (past ++ all_took front) ≡ sections_taken past ++ front =
    filter_map-append section_in past (all_took front) ∙ ap (λ t. sections_taken past ++ t) (sections-free front) in
    more-too-many (sections_taken past) (take (i + 1) sections) (drop (i + 1) sections) sections (take-append-drop (i + 1) sections)
    (subst HaveTooManyKeys (ap (λ t. t ++ one) before ∙ append_assoc (sections_taken past) front one ∙ ap (λ t. sections_taken past ++ t) (sym next)) here)
