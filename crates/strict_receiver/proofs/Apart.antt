-- Recordings that are heard one after the other, with a fresh start between them.
use Rattle.std.proofs.Common.{◌≡◌, ℕ, List, [], ◌∷◌, ◌++◌, refl, sym, ap, ap₂, ◌∙◌, append_assoc, append-nil}
use Rattle.std.specs.Prelude.{flat_map}
use Rattle.std.proofs.lemmas.List.Concat.{flat_map-append}
use Rattle.std.proofs.lemmas.List.Elements.{filter_map-append}
use Rattle.section_codec.specs.declared.table.Key.{Key}
use Rattle.ts_demux.specs.declared.section.RawSection.{RawSection}
use Rattle.ts_demux.specs.Sections.{heard_all}
use Rattle.sub_collect.specs.Runs.{Counted, run_of}
use Rattle.sub_collect.specs.Marks.{Taken, Taken.ForgotAll, since_mark, completions_over, section_in, sections_taken}
use Rattle.sub_collect.specs.declared.completed.Completed.{Completed}
use Rattle.sub_collect.proofs.Marking.{starts_afresh}
use Rattle.sub_collect.proofs.MarksShown.{sections-all_forgot}
use Rattle.guide_receiver.specs.Dones.{counted_heard}
use Rattle.guide_receiver.specs.Heard.{took_by}
use Rattle.strict_receiver.specs.Strict.{marks_by, taken_of}
use Rattle.strict_receiver.specs.Earlier.{sections_in, taken_in, taken_after, counted_after}
use Rattle.strict_receiver.specs.Laws.{RecordingsAreHeardApart}
use Rattle.strict_receiver.proofs.Losing.{taken-push, sections_taken_of}

-- ---- one packet more

pub taken_after-push : (earlier : List (List (List ℕ))) (past : List (List ℕ)) (packet : List ℕ)
    → (taken_after earlier past ++ marks_by past packet) ++ took_by past packet ≡ taken_after earlier (past ++ packet ∷ [])
taken_after-push earlier past packet =
    ap (λ (l : List Taken). l ++ took_by past packet) (append_assoc (taken_in earlier) (taken_of past) (marks_by past packet))
    ∙ append_assoc (taken_in earlier) (taken_of past ++ marks_by past packet) (took_by past packet)
    ∙ ap (λ (l : List Taken). taken_in earlier ++ l) (taken-push past packet)

-- ---- a fresh start

pub taken-afresh : (earlier : List (List (List ℕ))) (past : List (List ℕ)) → taken_after earlier past ++ ForgotAll ∷ [] ≡ taken_after (earlier ++ past ∷ []) []
taken-afresh earlier past =
    append_assoc (taken_in earlier) (taken_of past) (ForgotAll ∷ [])
    ∙ ap (λ (l : List Taken). taken_in earlier ++ l) (sym (append-nil (taken_of past ++ ForgotAll ∷ [])))
    ∙ sym (flat_map-append (λ (packets : List (List ℕ)). taken_of packets ++ ForgotAll ∷ []) earlier (past ∷ []))
    ∙ sym (append-nil (taken_in (earlier ++ past ∷ [])))

pub sections-afresh : (earlier : List (List (List ℕ))) (past : List (List ℕ)) → sections_in earlier ++ heard_all [] past ≡ sections_in (earlier ++ past ∷ [])
sections-afresh earlier past =
    ap (λ (l : List RawSection). sections_in earlier ++ l) (sym (append-nil (heard_all [] past)))
    ∙ sym (flat_map-append (heard_all []) earlier (past ∷ []))

-- ---- the sections that count

sections_taken_in : (earlier : List (List (List ℕ))) → sections_taken (taken_in earlier) ≡ flat_map counted_heard earlier
sections_taken_in [] = refl
sections_taken_in (packets ∷ earlier) =
    filter_map-append section_in (taken_of packets ++ ForgotAll ∷ []) (taken_in earlier)
    ∙ ap₂ (λ (a b : List Counted). a ++ b) (sections-all_forgot (taken_of packets) ∙ sections_taken_of packets) (sections_taken_in earlier)

pub sections_taken_after : (earlier : List (List (List ℕ))) (packets : List (List ℕ)) → sections_taken (taken_after earlier packets) ≡ counted_after earlier packets
sections_taken_after earlier packets =
    filter_map-append section_in (taken_in earlier) (taken_of packets)
    ∙ ap₂ (λ (a b : List Counted). a ++ b) (sections_taken_in earlier) (sections_taken_of packets)

-- ---- each by itself

-- the first of them, and the others after a mark of every PID
first_and_others : (first : List (List ℕ)) (earlier : List (List (List ℕ))) (packets : List (List ℕ)) → taken_after (first ∷ earlier) packets ≡ taken_of first ++ ForgotAll ∷ taken_after earlier packets
first_and_others first earlier packets =
    append_assoc (taken_of first ++ ForgotAll ∷ []) (taken_in earlier) (taken_of packets)
    ∙ append_assoc (taken_of first) (ForgotAll ∷ []) (taken_after earlier packets)

completions_apart : (k : Key) (earlier : List (List (List ℕ))) (packets : List (List ℕ))
    → completions_over k (taken_after earlier packets) ≡ flat_map (λ (recording : List (List ℕ)). completions_over k (taken_of recording)) (earlier ++ packets ∷ [])
completions_apart k [] packets = sym (append-nil (completions_over k (taken_of packets)))
completions_apart k (first ∷ earlier) packets =
    ap (completions_over k) (first_and_others first earlier packets)
    ∙ (starts_afresh k (taken_of first) (taken_after earlier packets)).1
    ∙ ap (λ (l : List Completed). completions_over k (taken_of first) ++ l) (completions_apart k earlier packets)

since_apart : (k : Key) (earlier : List (List (List ℕ))) (packets : List (List ℕ)) → since_mark k (taken_after earlier packets) ≡ since_mark k (taken_of packets)
since_apart k [] packets = refl
since_apart k (first ∷ earlier) packets =
    ap (since_mark k) (first_and_others first earlier packets)
    ∙ (starts_afresh k (taken_of first) (taken_after earlier packets)).0
    ∙ since_apart k earlier packets

pub heard_apart : RecordingsAreHeardApart
heard_apart earlier packets = record {
  completions = λ k. completions_apart k earlier packets;
  run = λ k. ap run_of (since_apart k earlier packets);
}
