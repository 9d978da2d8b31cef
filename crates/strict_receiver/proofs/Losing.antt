-- Breaks, told by the last load and a flag, and what one packet more adds.
use Rattle.std.proofs.Common.{◌≡◌, ℕ, List, [], ◌∷◌, ◌++◌, Bool, true, false, ◌&&◌, ◌||◌, Some, None, Option, Ok, refl, sym, ap, ap₂, ◌∙◌, append_assoc, append-nil}
use Rattle.std.specs.Prelude.{if◌then◌else◌, not}
use Rattle.std.proofs.lemmas.List.Elements.{filter_map-append}
use Rattle.ts_packets.specs.Bytes.{pid_in, shape_in}
use Rattle.ts_packets.specs.Counting.{Load}
use Rattle.ts_packets.specs.declared.shape.Shape.TheVariants as shape
use Rattle.ts_demux.specs.Arrivals.{Arrival, load_in, arrival_on, arrivals_on}
use Rattle.ts_demux.specs.Sections.{ended_by, heard_all}
use Rattle.ts_demux.specs.Keeping.{Seen, last_load}
use Rattle.ts_demux.specs.Steps.{is_again, is_next}
use Rattle.ts_demux.specs.Breaks.{Before.Never, before_all, before_by, is_break, ends_in_gap, goes_on_with, follows_by, follows_in, is_lost, breaks}
use Rattle.ts_demux.proofs.Splitting.{flag_tells}
use Rattle.ts_demux.proofs.Standing.{passes, gap_came, gap_told, load_came, load_told}
use Rattle.sub_collect.specs.Runs.{Counted}
use Rattle.sub_collect.specs.Marks.{Taken, Taken.Forgot, dones_over, section_in, sections_taken}
use Rattle.sub_collect.specs.declared.completed.Completed.{Completed}
use Rattle.sub_collect.proofs.MarksShown.{sections-free, dones_over-append}
use Rattle.guide_receiver.specs.Counting.{counted_among}
use Rattle.guide_receiver.specs.Dones.{counted_heard}
use Rattle.guide_receiver.proofs.Shown.{among-append}
use Rattle.guide_receiver.specs.Heard.{took_by}
use Rattle.strict_receiver.specs.Strict.{marks_by, taken_by, taken_from, taken_of}

-- ---- breaks

by_load : (o : Option Seen) (gap : Bool) (l : Load) (goes_on : Bool) → goes_on_with o l ≡ Some goes_on → is_break (before_by o gap) (Arrival.Came l) ≡ not goes_on
by_load None gap l goes_on e = cc
by_load (Some last) gap l goes_on e =
    let same : (is_next (Some last) l || is_again (Some last) l) ≡ goes_on = cc in
    both (is_next (Some last) l) (is_again (Some last) l) ∙ ap not same
  where
    both : (a b : Bool) → (not a && not b) ≡ not (a || b)
    both true b = refl
    both false b = refl

by_flag : (o : Option Seen) (gap : Bool) (l : Load) → goes_on_with o l ≡ None → is_break (before_by o gap) (Arrival.Came l) ≡ gap
by_flag None true l e = refl
by_flag None false l e = refl
by_flag (Some last) gap l e = cc

-- what is asked of a load
asked : (past : List (List ℕ)) (packet : List ℕ) (pid : ℕ) (l : Load) → pid ≡ pid_in packet → arrival_on pid packet ≡ Some (Arrival.Came l)
    → (follows_in past packet ≡ goes_on_with (last_load (arrivals_on pid past)) l)
    × (is_lost past packet ≡ is_break (before_by (last_load (arrivals_on pid past)) (ends_in_gap (arrivals_on pid past))) (Arrival.Came l))
asked past packet pid l its came = (
  ap (λ (n : ℕ). follows_at n) (sym its) ∙ ap (λ (o : Option Arrival). follows_by (last_load (arrivals_on pid past)) o) came,
  ap (λ (n : ℕ). breaks (before_all Never (arrivals_on n past)) (arrival_on n packet)) (sym its)
      ∙ ap (breaks (before_all Never (arrivals_on pid past))) came ∙ ap (λ b. is_break b (Arrival.Came l)) (flag_tells (arrivals_on pid past)),
)
  where
    follows_at : ℕ → Option Bool
    follows_at n = follows_by (last_load (arrivals_on n past)) (arrival_on n packet)

pub load_breaks : (past : List (List ℕ)) (packet : List ℕ) (pid : ℕ) (l : Load) (goes_on : Bool) → pid ≡ pid_in packet → arrival_on pid packet ≡ Some (Arrival.Came l)
    → Some goes_on ≡ follows_in past packet → not goes_on ≡ is_lost past packet
load_breaks past packet pid l goes_on its came e =
    let a = asked past packet pid l its came in
    sym (a.1 ∙ by_load (last_load (arrivals_on pid past)) (ends_in_gap (arrivals_on pid past)) l goes_on (sym a.0 ∙ sym e))

pub flag_breaks : (past : List (List ℕ)) (packet : List ℕ) (pid : ℕ) (l : Load) → pid ≡ pid_in packet → arrival_on pid packet ≡ Some (Arrival.Came l)
    → None ≡ follows_in past packet → ends_in_gap (arrivals_on pid past) ≡ is_lost past packet
flag_breaks past packet pid l its came e =
    let a = asked past packet pid l its came in
    sym (a.1 ∙ by_flag (last_load (arrivals_on pid past)) (ends_in_gap (arrivals_on pid past)) l (sym a.0 ∙ sym e))

pub gap_breaks : (past : List (List ℕ)) (packet : List ℕ) (pid : ℕ) → pid ≡ pid_in packet → arrival_on pid packet ≡ Some Arrival.Gap → true ≡ is_lost past packet
gap_breaks past packet pid its came =
    sym (ap (λ (n : ℕ). breaks (before_all Never (arrivals_on n past)) (arrival_on n packet)) (sym its) ∙ ap (breaks (before_all Never (arrivals_on pid past))) came)

pub pass_breaks : (past : List (List ℕ)) (packet : List ℕ) → ((q : ℕ) → arrival_on q packet ≡ None) → false ≡ is_lost past packet
pass_breaks past packet none = sym (ap (breaks (before_all Never (arrivals_on (pid_in packet) past))) (none (pid_in packet)))

-- ---- what one packet more adds

pub taken-append : (past xs ys : List (List ℕ)) → taken_from past (xs ++ ys) ≡ taken_from past xs ++ taken_from (past ++ xs) ys
taken-append past [] ys = ap (λ (l : List (List ℕ)). taken_from l ys) (sym (append-nil past))
taken-append past (p ∷ xs) ys =
    ap (λ (l : List Taken). taken_by past p ++ l)
    (taken-append (past ++ p ∷ []) xs ys ∙ ap (λ (l : List (List ℕ)). taken_from (past ++ p ∷ []) xs ++ taken_from l ys) (append_assoc past (p ∷ []) xs))
    ∙ sym (append_assoc (taken_by past p) (taken_from (past ++ p ∷ []) xs) (taken_from (past ++ p ∷ xs) ys))

pub taken-push : (past : List (List ℕ)) (packet : List ℕ) → (taken_of past ++ marks_by past packet) ++ took_by past packet ≡ taken_of (past ++ packet ∷ [])
taken-push past packet =
    append_assoc (taken_of past) (marks_by past packet) (took_by past packet)
    ∙ sym (taken-append [] past (packet ∷ []) ∙ ap (λ (l : List Taken). taken_of past ++ l) (append-nil (taken_by past packet)))

-- a mark shows nothing
pub marks_show_none : (taken : List Taken) (past : List (List ℕ)) (packet : List ℕ) → dones_over (taken ++ marks_by past packet) (took_by past packet) ≡ dones_over taken (taken_by past packet)
marks_show_none taken past packet = sym (dones_over-append taken (marks_by past packet) (took_by past packet) ∙ ap (λ (l : List Completed). l ++ dones_over (taken ++ marks_by past packet) (took_by past packet)) (none (is_lost past packet)))
  where
    none : (b : Bool) → dones_over taken (if b then Forgot (pid_in packet) ∷ [] else []) ≡ []
    none true = refl
    none false = refl

-- nor is it a section
marks_are_none : (past : List (List ℕ)) (packet : List ℕ) → sections_taken (marks_by past packet) ≡ []
marks_are_none past packet = none (is_lost past packet)
  where
    none : (b : Bool) → sections_taken (if b then Forgot (pid_in packet) ∷ [] else []) ≡ []
    none true = refl
    none false = refl

sections_from : (past packets : List (List ℕ)) → sections_taken (taken_from past packets) ≡ counted_among (heard_all past packets)
sections_from past [] = refl
sections_from past (p ∷ ps) =
    filter_map-append section_in (taken_by past p) (taken_from (past ++ p ∷ []) ps)
    ∙ ap₂ (λ (a b : List Counted). a ++ b)
    (filter_map-append section_in (marks_by past p) (took_by past p) ∙ ap₂ (λ (a b : List Counted). a ++ b) (marks_are_none past p) (sections-free (counted_among (ended_by past p))))
    (sections_from (past ++ p ∷ []) ps)
    ∙ sym (among-append (ended_by past p) (heard_all (past ++ p ∷ []) ps))

pub sections_taken_of : (past : List (List ℕ)) → sections_taken (taken_of past) ≡ counted_heard past
sections_taken_of past = sections_from [] past

pub sections_with_marks : (taken : List Taken) (past : List (List ℕ)) (packet : List ℕ) → sections_taken (taken ++ marks_by past packet) ≡ sections_taken taken
sections_with_marks taken past packet =
    filter_map-append section_in taken (marks_by past packet)
    ∙ ap (λ (l : List Counted). sections_taken taken ++ l) (marks_are_none past packet) ∙ append-nil (sections_taken taken)

-- ---- by the shape of the packet

pub pass_lost : (past : List (List ℕ)) (packet : List ℕ) → shape_in packet ≡ Ok shape.Pass → false ≡ is_lost past packet
pass_lost past packet is = pass_breaks past packet (passes packet is)

pub gap_lost : (past : List (List ℕ)) (packet : List ℕ) (pid : ℕ) → shape_in packet ≡ Ok (shape.Gap pid) → true ≡ is_lost past packet
gap_lost past packet pid is = gap_breaks past packet pid (gap_told packet pid is) (gap_came packet pid is)

pub load_here : (packet : List ℕ) (pid counter at : ℕ) (start : Bool) → shape_in packet ≡ Ok (shape.Load pid start counter at) → arrival_on (pid_in packet) packet ≡ Some (Arrival.Came (load_in start counter at packet))
load_here packet pid counter at start is =
    ap (λ (n : ℕ). arrival_on n packet) (sym (load_told packet pid counter at start is).0) ∙ load_came packet pid counter at start is
