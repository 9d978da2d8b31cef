use Rattle.std.proofs.Common.{◌≡◌, ℕ, ◌++◌, ◌∷◌, List, [], Option, Err, map, length, true, refl, subst, sym, ap, ap₂, ◌∙◌, append-nil, append_assoc, arith}
use Rattle.std.specs.Prelude.{◌==◌, unwrap_or}
use Rattle.std.proofs.lemmas.Bool.{eqb-true}
use Rattle.ts_demux.specs.declared.section.RawSection.{RawSection}
use Rattle.ts_demux.specs.Sections.{ended_by, heard_all}
use Rattle.sub_collect.specs.KeyCounts.{HaveFewKeys, HaveTooManyKeys}
use Rattle.sub_collect.specs.Marks.{Taken, all_took, dones_over, sections_taken}
use Rattle.sub_collect.specs.declared.collector.TakeStop.{TakeStop}
use Rattle.sub_collect.specs.Collectors.{CollectorStandsOver}
use Rattle.sub_collect.proofs.MarksShown.{sections-free}
use Rattle.guide_receiver.specs.Counting.{counted_among}
use Rattle.guide_receiver.specs.Latest.{keys_shown_over, kept_keys, AreLatest, IsClock, offsets_heard}
use Rattle.guide_receiver.proofs.Latest.{offsets_more}
use Rattle.guide_model.specs.declared.offset.Offset.{Offset}
use Rattle.guide_receiver.specs.Heard.{Hearing, took_by, ReceiverStandsFor, ReceiverStandsAfter}
use Rattle.guide_receiver.specs.Dones.{counted_heard, done_key}
use Rattle.guide_receiver.proofs.Shown.{heard-push}
use Rattle.guide_receiver.proofs.Over.{dones-by, counted-free, stands-free}
use Rattle.guide_receiver.proofs.receiver.Receiver.hear.Goals as goal

none-listed : (sections : List RawSection) → (length sections == 0) ≡ true → sections ≡ []
none-listed [] is = refl
none-listed (section ∷ sections) is = absurd (let none = eqb-true (length (section ∷ sections)) 0 is in let z : Prim.⊥ = omega (arith, none) in z)

-- where no section ended
pub returns-then-is_empty-clause-dones_after : goal.returns-then-is_empty-clause-dones_after
returns-then-is_empty-clause-dones_after c =
    λ earlier packets taken stands.
    let kept = subst (ReceiverStandsAfter earlier packets taken) (sym c.self.view_is) stands in
    let none = sym (none-listed c.in-Ok-hear.sections (sym c.is_empty.ensures ∙ c.if-is_empty.true)) ∙ c.in-Ok-hear.ensures.heard packets kept.sections in
    c.new.ensures ∙ ap (λ (t : List RawSection). map done_key (dones_over taken (all_took (counted_among t)))) none

pub returns-then-is_empty-clause-stands_after : goal.returns-then-is_empty-clause-stands_after
returns-then-is_empty-clause-stands_after c =
    λ earlier packets taken stands.
    let kept = subst (ReceiverStandsAfter earlier packets taken) (sym c.self.view_is) stands in
    let packet = c.args.packet.now in
    let none = sym (none-listed c.in-Ok-hear.sections (sym c.is_empty.ensures ∙ c.if-is_empty.true)) ∙ c.in-Ok-hear.ensures.heard packets kept.sections in
    let counted : taken ≡ taken ++ took_by packets packet = sym (append-nil taken) ∙ ap (λ (t : List RawSection). taken ++ all_took (counted_among t)) none in
    let all = ap (λ (t : List RawSection). earlier ++ t) (sym (append-nil (heard_all [] packets)) ∙ ap (λ (t : List RawSection). heard_all [] packets ++ t) none ∙ sym (heard-push packets packet)) in
    record {
      sections = c.in-Ok-hear.ensures.stands packets kept.sections;
      completions = subst (λ (t : List Taken). CollectorStandsOver t c.self.inside.collector) counted kept.completions;
      latest = subst (λ (t : List Taken). AreLatest (keys_shown_over t) (kept_keys c.self.inside.latest)) counted kept.latest;
      clock = subst (λ (t : List RawSection). IsClock t c.self.inside.clock) all kept.clock;
      offsets = kept.offsets ∙ ap offsets_heard all;
    }

-- where some did
pub returns-in-Ok-count_all-clause-dones_after : goal.returns-in-Ok-count_all-clause-dones_after
returns-in-Ok-count_all-clause-dones_after c =
    λ earlier packets taken stands.
    let kept = subst (ReceiverStandsAfter earlier packets taken) (sym c.self.view_is) stands in
    let heard : c.as_slice-3.result.now ≡ ended_by packets c.args.packet.now = c.as_slice-3.ensures ∙ c.in-Ok-hear.ensures.heard packets kept.sections in
    c.in-Ok-count_all.ensures.dones taken kept.completions
    ∙ ap (λ t. t ++ map done_key (dones_over taken (all_took (counted_among c.as_slice-3.result.now)))) c.new-dones.ensures
    ∙ ap (λ (t : List RawSection). map done_key (dones_over taken (all_took (counted_among t)))) heard

pub returns-in-Ok-count_all-clause-stands_after : goal.returns-in-Ok-count_all-clause-stands_after
returns-in-Ok-count_all-clause-stands_after c =
    λ earlier packets taken stands.
    let kept = subst (ReceiverStandsAfter earlier packets taken) (sym c.self.view_is) stands in
    let packet = c.args.packet.now in
    let ended : c.as_slice.result.now ≡ ended_by packets packet = c.as_slice.ensures ∙ c.in-Ok-hear.ensures.heard packets kept.sections in
    let heard : c.as_slice-3.result.now ≡ ended_by packets packet = c.as_slice-3.ensures ∙ c.in-Ok-hear.ensures.heard packets kept.sections in
    let counted = ap (λ (t : List RawSection). taken ++ all_took (counted_among t)) heard in
    let all = append_assoc earlier (heard_all [] packets) c.as_slice.result.now ∙ ap (λ (t : List RawSection). earlier ++ t) (ap (λ (t : List RawSection). heard_all [] packets ++ t) ended ∙ sym (heard-push packets packet)) in
    record {
      sections = c.in-Ok-hear.ensures.stands packets kept.sections;
      completions = subst (λ (t : List Taken). CollectorStandsOver t c.count_all.new.collector) counted (c.in-Ok-count_all.ensures.stands taken kept.completions);
      latest = subst (λ (t : List Taken). AreLatest (keys_shown_over t) (kept_keys c.count_all.new.latest)) counted
          (c.in-Ok-count_all.ensures.latest taken kept.completions kept.latest);
      clock = subst (λ (t : List RawSection). IsClock t c.in-Ok-clock_behind.clock) all
          (c.in-Ok-clock_behind.ensures (earlier ++ heard_all [] packets) kept.clock);
      offsets =
          c.keep_last.ensures ∙ ap₂ (λ (o : Option (List Offset)) (l : List Offset). unwrap_or o l) c.in-Ok-offsets_behind.ensures kept.offsets
          ∙ sym (offsets_more (earlier ++ heard_all [] packets) c.as_slice-2.result.now)
          ∙ ap (λ (t : List RawSection). offsets_heard ((earlier ++ heard_all [] packets) ++ t)) (c.as_slice-2.ensures ∙ sym c.as_slice.ensures)
          ∙ ap offsets_heard all;
    }

pub returns-in-Err-TooMany-clause-too_many_after : goal.returns-in-Err-TooMany-clause-too_many_after
returns-in-Err-TooMany-clause-too_many_after c =
    λ earlier packets taken stands many.
    let kept = subst (ReceiverStandsAfter earlier packets taken) (sym c.self.view_is) stands in
    let heard : c.as_slice-3.result.now ≡ ended_by packets c.args.packet.now = c.as_slice-3.ensures ∙ c.in-Ok-hear.ensures.heard packets kept.sections in
    subst HaveTooManyKeys (ap (λ (t : List RawSection). sections_taken taken ++ counted_among t) heard)
    (c.count_all.ensures.too_many taken kept.completions (c.in-Err-TooMany.is ∙ ap (λ (s : TakeStop). Err s) c.in-Err-TooMany.field-0-is))

-- ---- without marks

pub returns-then-is_empty-clause-dones : goal.returns-then-is_empty-clause-dones
returns-then-is_empty-clause-dones c = λ past stands. returns-then-is_empty-clause-dones_after c [] past (all_took (counted_heard past)) stands ∙ dones-by past c.args.packet.now

pub returns-then-is_empty-clause-stands : goal.returns-then-is_empty-clause-stands
returns-then-is_empty-clause-stands c = λ past stands. stands-free past c.args.packet.now _ (returns-then-is_empty-clause-stands_after c [] past (all_took (counted_heard past)) stands)

pub returns-in-Ok-count_all-clause-dones : goal.returns-in-Ok-count_all-clause-dones
returns-in-Ok-count_all-clause-dones c = λ past stands. returns-in-Ok-count_all-clause-dones_after c [] past (all_took (counted_heard past)) stands ∙ dones-by past c.args.packet.now

pub returns-in-Ok-count_all-clause-stands : goal.returns-in-Ok-count_all-clause-stands
returns-in-Ok-count_all-clause-stands c = λ past stands. stands-free past c.args.packet.now _ (returns-in-Ok-count_all-clause-stands_after c [] past (all_took (counted_heard past)) stands)

few_of : (past : List (List ℕ)) (receiver : Hearing) → ReceiverStandsFor past receiver → HaveFewKeys (counted_heard past)
few_of past receiver stands = subst HaveFewKeys (sections-free (counted_heard past)) stands.completions.few

pub returns-then-is_empty-clause-few : goal.returns-then-is_empty-clause-few
returns-then-is_empty-clause-few c = λ past stands. few_of (past ++ c.args.packet.now ∷ []) _ (returns-then-is_empty-clause-stands c past stands)

pub returns-in-Ok-count_all-clause-few : goal.returns-in-Ok-count_all-clause-few
returns-in-Ok-count_all-clause-few c = λ past stands. few_of (past ++ c.args.packet.now ∷ []) _ (returns-in-Ok-count_all-clause-stands c past stands)

pub returns-in-Err-TooMany-clause-too_many : goal.returns-in-Err-TooMany-clause-too_many
returns-in-Err-TooMany-clause-too_many c = λ past stands many.
    subst HaveTooManyKeys (counted-free past c.args.packet.now) (returns-in-Err-TooMany-clause-too_many_after c [] past (all_took (counted_heard past)) stands many)
