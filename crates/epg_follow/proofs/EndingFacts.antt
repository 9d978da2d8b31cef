-- What a run prints at its end has no line of an outcome.
use Rattle.std.proofs.Common.{◌≡◌, ◌∙◌, ◌++◌, ◌∷◌, ◌+◌, ◌/◌, ◌%◌, [], ℕ, List, true, false, Option, refl, sym, ap, inl, inr, arith, drop, take, append-nil}
use Rattle.std.specs.Prelude.{codes, decimal, flat_map, not}
use Rattle.std.specs.List.{list_all, list_any}
use Rattle.std.proofs.lemmas.Bool.{and_parts, ne_eqb}
use Rattle.std.proofs.lemmas.Bool.Decides.{nat_tests}
use Rattle.std.proofs.lemmas.List.{take-append-drop}
use Rattle.std.proofs.lemmas.List.Folds.{list_all-append, list_any-append}
use Rattle.si_causes.specs.Lines.{whole_lines}
use Rattle.si_lists.proofs.Filters.{list_all-more}
use Rattle.si_lists.proofs.Lists.{all_append}
use Rattle.std.proofs.lemmas.List.Concat.{flat_map-append}
use Rattle.guide_model.specs.Control.{is_printing}
use Rattle.si_time.specs.Moments.{civil_date, clock_text, date_text, moment_text, two_digits}
use Rattle.epg_report.specs.Rates.{rate_line}
use Rattle.epg_report.specs.Texts.{fault_line, fault_lines}
use Rattle.epg_report.specs.declared.status.Status.{Status}
use Rattle.epg_report.specs.declared.status.Status.TheVariants.{BadScript, Disagrees, Done, Memory, ReadFault, TooLong, WriteFault}
use Rattle.epg_report.specs.declared.status.Origin.TheVariants.{Input}
use Rattle.epg_report.specs.declared.status.Outlet.TheVariants.{Air, Report}
use Rattle.epg_play.proofs.ReportFacts.{IsInner, IsRateLine, decimal_inner, inner_append, is_inner, is_no_end, rate_shape}
use Rattle.journal_model.specs.declared.step.Outcome.{Outcome}
use Rattle.journal_model.specs.declared.step.Outcome.TheVariants.{Late, Swapped}
use Rattle.journal_text.specs.Entries.{outcome_text}
use Rattle.script_notes.specs.declared.why.Why.{Why}
use Rattle.script_notes.specs.declared.why.Why.TheVariants as why
use Rattle.script_notes.specs.Whys.{CanBeSaid, why_text}
use Rattle.script_notes.proofs.WhyFacts.{words_printing}
use Rattle.cycle_player.specs.Tally.{Tallied}
use Rattle.script_notes.specs.ReportLaws.{HasNoOutcome}
use Rattle.script_notes.specs.Pieces.{Entered, Noted, Piece, comment_line, entries_in, pieces_text}
use Rattle.script_notes.specs.Whole.{begins_outcome, with_end}
use Rattle.script_notes.proofs.ReportLineFacts.{AreLines, IsOneLine, any_front, whole_front, whole_many}
use Rattle.epg_follow.specs.Endings.{EndingsHaveNoOutcome}
use Rattle.epg_follow.specs.Runs.{IsBehindMux}

-- a text without an LF is one line
inner_line : (xs : List ℕ) → IsInner xs → IsOneLine xs
inner_line [] h = refl
inner_line (x ∷ xs) h =
    let (p, q) = and_parts (is_inner x) (list_all is_inner xs) h in
    rw (is_no_end x p) (inner_line xs q)

-- ---- lines

-- lines with their LF, none of which begins with `=`
record HasPlainLines (text : List ℕ) : Type 0 where
  lines : List (List ℕ)
  text_is : text ≡ flat_map with_end lines
  one_each : AreLines lines
  none : list_any begins_outcome lines ≡ false

nothing_told : (text : List ℕ) → text ≡ [] → HasPlainLines text
nothing_told text e = record { lines = []; text_is = e; one_each = tt; none = refl }

line_told : (text line : List ℕ) → text ≡ with_end line → IsInner line → begins_outcome line ≡ false → HasPlainLines text
line_told text line e inner other = record {
  lines = line ∷ [];
  text_is = e ∙ sym (append-nil (with_end line));
  one_each = (inner_line line inner, tt);
  none = rw other refl;
}

-- so a front of it tells no outcome
front_told : (text : List ℕ) (cut : ℕ) → HasPlainLines text → HasNoOutcome (take cut text)
front_told text cut t =
    let (more, is) = whole_front (take cut text) (drop cut text) in
    let all : whole_lines text ≡ t.lines ++ [] = ap whole_lines (t.text_is ∙ sym (append-nil (flat_map with_end t.lines))) ∙ whole_many t.lines [] t.one_each in
    let parts : whole_lines (take cut text) ++ more ≡ t.lines = sym is ∙ ap whole_lines (take-append-drop cut text) ∙ all ∙ append-nil t.lines in
    any_front begins_outcome (whole_lines (take cut text)) more (ap (list_any begins_outcome) parts ∙ t.none)

joined : (a b : List ℕ) → HasPlainLines a → HasPlainLines b → HasPlainLines (a ++ b)
joined a b h k = record {
  lines = h.lines ++ k.lines;
  text_is =
      ap (λ (l : List ℕ). l ++ b) h.text_is
      ∙ ap (λ (l : List ℕ). flat_map with_end h.lines ++ l) k.text_is
      ∙ sym (flat_map-append with_end h.lines k.lines);
  one_each = all_append IsOneLine h.lines k.lines h.one_each k.one_each;
  none = list_any-append begins_outcome h.lines k.lines ∙ rw (h.none, k.none) refl;
}

-- ---- texts without an LF

printing_inner : (b : ℕ) → is_printing b ≡ true → is_inner b ≡ true
printing_inner b h = grind (arith, nat_tests)

digit_inner : (d : ℕ) → is_inner (48 + d) ≡ true
digit_inner d = ap not (ne_eqb (48 + d) 10 (λ e. absurd (omega arith)))

two_inner : (n : ℕ) → IsInner (two_digits n)
two_inner n = rw (digit_inner (n / 10), digit_inner (n % 10)) refl

-- a text, a sign, and two digits
then_two : (text sign : List ℕ) (n : ℕ) → IsInner text → IsInner sign → IsInner (text ++ sign ++ two_digits n)
then_two text sign n h k = inner_append (text ++ sign) (two_digits n) (inner_append text sign h k) (two_inner n)

date_inner : (date : ℕ × ℕ × ℕ) → IsInner (date_text date)
date_inner date =
    let year = two_digits (date.0 / 100) ++ two_digits (date.0 % 100) in
    then_two (year ++ codes "-" ++ two_digits date.1) (codes "-") date.2
    (then_two year (codes "-") date.1 (inner_append (two_digits (date.0 / 100)) (two_digits (date.0 % 100)) (two_inner (date.0 / 100)) (two_inner (date.0 % 100))) refl) refl

clock_inner : (seconds : ℕ) → IsInner (clock_text seconds)
clock_inner seconds =
    then_two (two_digits (seconds / 3600) ++ codes ":" ++ two_digits (seconds / 60 % 60)) (codes ":") (seconds % 60)
    (then_two (two_digits (seconds / 3600)) (codes ":") (seconds / 60 % 60) (two_inner (seconds / 3600)) refl) refl

-- whatever the moment is
moment_inner : (t : ℕ) → IsInner (moment_text t)
unfolding moment_text
moment_inner t =
    let date = date_text (civil_date (t / 86400)) in
    let clock = clock_text (t % 86400) in
    inner_append (date ++ codes "T" ++ clock) (codes "Z")
    (inner_append (date ++ codes "T") clock (inner_append date (codes "T") (date_inner (civil_date (t / 86400))) refl) (clock_inner (t % 86400))) refl

words_inner : (w : Why) → CanBeSaid w → IsInner (why_text w)
words_inner w said = list_all-more is_printing is_inner printing_inner (why_text w) (words_printing w said)

outcome_inner : (o : Outcome) → IsInner (outcome_text o)
outcome_inner (Late at) = inner_append (codes "late,") (moment_text at.0) refl (moment_inner at.0)
outcome_inner (Swapped n at) =
    inner_append (codes "swapped,") (decimal n ++ (codes "," ++ moment_text at.0)) refl
    (inner_append (decimal n) (codes "," ++ moment_text at.0) (decimal_inner n) (inner_append (codes ",") (moment_text at.0) refl (moment_inner at.0)))
outcome_inner o =
    let front = codes "kept " ++ outcome_text o ++ codes " found " in
    (and_parts (list_all is_inner front) (list_all is_inner (outcome_text o)) (sym (list_all-append is_inner front (outcome_text o)) ∙ words_inner (why.Disagrees o o) (tt, tt))).1

-- an outcome that is kept, and one that was found
both_inner : (front : List ℕ) (kept found : Outcome) → IsInner front → IsInner (front ++ outcome_text kept ++ codes " found " ++ outcome_text found)
both_inner front kept found h =
    inner_append (front ++ outcome_text kept ++ codes " found ") (outcome_text found)
    (inner_append (front ++ outcome_text kept) (codes " found ") (inner_append front (outcome_text kept) h (outcome_inner kept)) refl) (outcome_inner found)

why_inner : (w : Why) → IsInner (why_text w)
why_inner (why.Disagrees kept found) = both_inner (codes "kept ") kept found refl
why_inner w = words_inner w tt

comment_inner : (n : ℕ) (w : Why) → IsInner (comment_line n w)
comment_inner n w =
    inner_append (codes "# line ") (decimal n ++ (codes ": " ++ why_text w)) refl
    (inner_append (decimal n) (codes ": " ++ why_text w) (decimal_inner n) (inner_append (codes ": ") (why_text w) refl (why_inner w)))

-- ---- what is printed

comments_told : (comments : List Piece) → entries_in comments ≡ [] → HasPlainLines (pieces_text comments)
comments_told [] none = nothing_told [] refl
comments_told (Entered e ∷ ps) none = cc none
comments_told (Noted n reason ∷ ps) none =
    joined (with_end (comment_line n reason)) (pieces_text ps)
    (line_told (with_end (comment_line n reason)) (comment_line n reason) refl (comment_inner n reason) refl) (comments_told ps none)

rate_told : (rate : Option ℕ) (t : Tallied) → HasPlainLines (rate_line rate t)
rate_told rate t = by_shape (rate_line rate t) (rate_shape rate t)
  where
    by_shape : (text : List ℕ) → IsRateLine text → HasPlainLines text
    by_shape text (inl none) = nothing_told text none
    by_shape text (inr (body, inner, is)) = line_told text (114 ∷ body) is inner refl

-- a fault's line
fault_told : (text : List ℕ) → IsInner text → HasPlainLines (fault_line text)
fault_told text h = line_told (fault_line text) (codes "fault: " ++ text) refl (inner_append (codes "fault: ") text refl h) refl

-- that of a line, by its number
numbered_inner : (n : ℕ) (words : List ℕ) → IsInner words → IsInner (codes "input line " ++ decimal n ++ words)
numbered_inner n words h = inner_append (codes "input line " ++ decimal n) words (inner_append (codes "input line ") (decimal n) refl (decimal_inner n)) h

status_told : (status : Status) → IsBehindMux status → HasPlainLines (fault_lines status)
status_told Done h = nothing_told [] refl
status_told (BadScript n) h = fault_told (codes "input line " ++ decimal n ++ codes " is no command") (numbered_inner n (codes " is no command") refl)
status_told (Disagrees n kept found) h =
    fault_told (codes "input line " ++ decimal n ++ codes " kept " ++ outcome_text kept ++ codes " found " ++ outcome_text found)
    (both_inner (codes "input line " ++ decimal n ++ codes " kept ") kept found (numbered_inner n (codes " kept ") refl))
status_told (TooLong Input) h = fault_told (codes "input too long") refl
status_told (ReadFault Input) h = fault_told (codes "input not read") refl
status_told (WriteFault Air) h = fault_told (codes "air not written") refl
status_told (WriteFault Report) h = nothing_told [] refl
status_told Memory h = fault_told (codes "memory") refl
status_told other h = absurd h

pub endings_have_no_outcome : EndingsHaveNoOutcome
endings_have_no_outcome comments rate tally status cut none behind =
    front_told (pieces_text comments ++ (rate_line rate tally ++ fault_lines status)) cut
    (joined (pieces_text comments) (rate_line rate tally ++ fault_lines status) (comments_told comments none)
    (joined (rate_line rate tally) (fault_lines status) (rate_told rate tally) (status_told status behind)))
