-- A printed journal, read as a script.
use Rattle.std.proofs.Common.{◌≡◌, ◌≢◌, ◌≤◌, ℕ, ◌+◌, ◌==◌, Bool, true, false, List, [], ◌∷◌, ◌++◌, length, map, Some, None, refl, sym, ap, ap₂, ◌∙◌, subst, arith, inl, inr}
use Rattle.std.specs.Prelude.{Option, if◌then◌else◌, Ok, Err}
use Rattle.std.specs.List.{AllByRecursion}
use Rattle.std.proofs.lemmas.Bool.{cases_Bool, le-leb}
use Rattle.std.proofs.lemmas.List.{map-append}
use Rattle.si_causes.specs.Lines.{onto, raw_lines, shown}
use Rattle.si_causes.specs.Text.{AtEnd, lines_left, text_lines, text_limit}
use Rattle.input_lines.specs.Lines.{is_passed, record_lines}
use Rattle.mux_config.specs.declared.fault.MuxFault.{MuxFault}
use Rattle.mux_model.specs.declared.mux.Mux.{Mux}
use Rattle.mux_lines.specs.declared.record.Numbered.{Numbered}
use Rattle.mux_config.specs.Descriptions.{Description, and_found, described_from, ended, fault_of, is_end, unless}
use Rattle.mux_lines.specs.Fields.{found_line}
use Rattle.input_lines.specs.Ahead.{Ends, tail_of, Ahead, Came, Found, Row, Tail}
use Rattle.input_lines.specs.Ahead as reading
use Rattle.journal_model.specs.declared.step.Outcome.{Outcome}
use Rattle.journal_model.specs.declared.step.Entry.{Entry}
use Rattle.desk_core.specs.Journal.{LegalAfter, outcome_of}
use Rattle.journal_model.specs.contracts.step.OutcomeEq.TheImpl.Laws as outcome_law
use Rattle.journal_model.specs.Steps.{command_of}
use Rattle.desk_core.specs.Desks.{DeskState, fresh}
use Rattle.journal_model.specs.Raising.{raised}
use Rattle.desk_core.proofs.JournalFacts.{journal_only}
use Rattle.journal_text.specs.Back.{EntryReadsBack, IsReadable}
use Rattle.journal_text.specs.CommandBack.{ahead_of, command_lines, shown_lines}
use Rattle.journal_text.specs.Entries.{entry_text, journal_text}
use Rattle.journal_text.proofs.EntryBack.{entries_read_back}
use Rattle.journal_air.specs.OnAir.{and_step}
use Rattle.epg_play.specs.Outcomes.{is_outcome}
use Rattle.epg_play.specs.Script.{Script, Stop, Ended, Disagreed, difference, script_in, script_of_lines, script_with}
use Rattle.epg_play.specs.Leaves.{whole_journal}
use Rattle.epg_play.specs.Again.{Describes, JournalsPlayAgain}
use Rattle.epg_play.specs.Items.{course_at}
use Rattle.epg_play.proofs.CourseFacts.{Rest, and_command, step_ahead, agreed_ahead, stop_ahead}
use Rattle.epg_play.proofs.RunFacts.{plain_course, raised_none}

-- ---- an outcome agrees with itself

pub kept_agrees : (n : ℕ) (kept found : Outcome) → kept ≡ found → difference (Some (n, kept)) found ≡ None
kept_agrees n kept found e = ap (λ (b : Bool). let o : Option Stop = if b then None else Some (Disagreed n kept found) in o) (subst (λ (o : Outcome). is_outcome kept o ≡ true) e (outcome_law.laws-law.refl kept))

-- ---- the entries of a journal

-- the text of a journal, as what is ahead
again : (desk : DeskState) (journal : List Entry) (n k : ℕ) → LegalAfter desk.mux desk.entries journal → AllByRecursion IsReadable journal
    → course_at 0 desk None (ahead_of n (journal_text journal) (Ends k)) ≡ (map command_of journal, Ended)
again desk [] n k legal readable = stop_ahead 0 desk None (ahead_of n [] (Ends k)) reading.End refl
again desk (e ∷ es) n k legal readable =
    let back : EntryReadsBack e n (journal_text es) (Ends k) = entries_read_back e readable.0 n (journal_text es) (Ends k) in
    let next = and_step desk e.who e.step in
    let outcome = outcome_of desk.mux desk.entries e.step in
    let found = raised 0 outcome in
    let at = n + command_lines e.step in
    let entry : (let d : Entry = record { who = e.who; step = e.step; outcome = outcome } in d) ≡ e = ap (λ (o : Outcome). let d : Entry = record { who = e.who; step = e.step; outcome = o } in d) (sym legal.0) in
    let rest = again next es (at + 1) k (subst (λ (d : Entry). LegalAfter desk.mux (desk.entries ++ d ∷ []) es) (sym entry) legal.1) readable.1 in
    step_ahead 0 desk None (ahead_of n (entry_text e ++ journal_text es) (Ends k)) back.behind e.who e.step back.command
    ∙ ap (and_command (e.who, e.step)) (agreed_ahead 0 next (Some found) back.behind (ahead_of (at + 1) (journal_text es) (Ends k)) at e.outcome back.kept (kept_agrees at e.outcome found (legal.0 ∙ sym (raised_none outcome))))
    ∙ ap (and_command (e.who, e.step)) rest

-- ---- the lines of two texts

some_line : (b : ℕ) (bs : List ℕ) → raw_lines (b ∷ bs) ≢ []
some_line b bs e = elim (cases_Bool (b == 10)) [
  | inl lf ↦ cc (rw lf at e)
  | inr other ↦ some_onto b (raw_lines bs) (rw other at e)
]
  where
    some_onto : (b : ℕ) (lines : List (List ℕ)) → onto b lines ≡ [] → ⊥
    some_onto b [] e = cc
    some_onto b (line ∷ lines) e = cc

onto_joined : (b : ℕ) (xs ys : List (List ℕ)) → xs ≢ [] → onto b (xs ++ ys) ≡ onto b xs ++ ys
onto_joined b [] ys some = absurd (some refl)
onto_joined b (x ∷ xs) ys some = refl

closed_some : (front : List ℕ) → raw_lines (front ++ 10 ∷ []) ≢ []
closed_some [] = some_line 10 []
closed_some (b ∷ bs) = some_line b (bs ++ 10 ∷ [])

pub lines_joined : (front rest : List ℕ) → raw_lines ((front ++ 10 ∷ []) ++ rest) ≡ raw_lines (front ++ 10 ∷ []) ++ raw_lines rest
lines_joined [] rest = refl
lines_joined (b ∷ bs) rest = elim (cases_Bool (b == 10)) [
  | inl lf ↦ rw lf (ap (λ (l : List (List ℕ)). [] ∷ l) (lines_joined bs rest))
  | inr other ↦ rw other (ap (onto b) (lines_joined bs rest) ∙ onto_joined b (raw_lines (bs ++ 10 ∷ [])) (raw_lines rest) (closed_some bs))
]

pub records_joined : (n : ℕ) (xs ys : List (List ℕ)) → record_lines n (xs ++ ys) ≡ record_lines n xs ++ record_lines (n + length xs) ys
records_joined n [] ys = ap (λ k. record_lines k ys) (let e : n ≡ n + 0 = omega arith in e)
records_joined n (x ∷ xs) ys =
    let more : n + 1 + length xs ≡ n + length {A = List ℕ} (x ∷ xs) = omega arith in
    let rest = records_joined (n + 1) xs ys ∙ ap (λ k. record_lines (n + 1) xs ++ record_lines k ys) more in
    elim (cases_Bool (is_passed x)) [
      | inl passed ↦ rw passed rest
      | inr stays ↦ rw stays (ap (λ l. (n, x) ∷ l) rest)
    ]

-- ---- a description with more lines behind it

-- by what is found in a line, before these rows
more_with : (rows behind more : List Row) (tail end : Tail) (fault : Option MuxFault) (b : Bool) (done made : Description) (goes_on goes_more : Found Description)
    → (goes_on ≡ Came made (record { rows = behind; tail = tail }) → goes_more ≡ Came made (record { rows = behind ++ more; tail = end }))
    → unless fault (record { rows = rows; tail = tail }) (if b then Came done (record { rows = rows; tail = tail }) else goes_on) ≡ Came made (record { rows = behind; tail = tail })
    → unless fault (record { rows = rows ++ more; tail = end }) (if b then Came done (record { rows = rows ++ more; tail = end }) else goes_more) ≡ Came made (record { rows = behind ++ more; tail = end })
more_with rows behind more tail end fault b done made goes_on goes_more next e = by_fault fault b e
  where
    came_more : (here : Description) → (let f : Found Description = Came here (record { rows = rows; tail = tail }) in f) ≡ Came made (record { rows = behind; tail = tail })
        → (let f : Found Description = Came here (record { rows = rows ++ more; tail = end }) in f) ≡ Came made (record { rows = behind ++ more; tail = end })
    came_more here same = (let d : here ≡ made = cc same in let left : (let a : Ahead = record { rows = rows; tail = tail } in a) ≡ record { rows = behind; tail = tail } = cc same in let r : rows ≡ behind = ap (λ (a : Ahead). a.rows) left in ap₂ (λ (x : Description) (l : List Row). let f : Found Description = Came x (record { rows = l ++ more; tail = end }) in f) d r)

    by_fault : (o : Option MuxFault) (b : Bool) → unless o (record { rows = rows; tail = tail }) (if b then Came done (record { rows = rows; tail = tail }) else goes_on) ≡ Came made (record { rows = behind; tail = tail })
        → unless o (record { rows = rows ++ more; tail = end }) (if b then Came done (record { rows = rows ++ more; tail = end }) else goes_more) ≡ Came made (record { rows = behind ++ more; tail = end })
    by_fault (Some f) b same = came_more (Err f) same
    by_fault None true same = came_more done same
    by_fault None false same = next same

pub more_behind : (before : List Numbered) (rows behind more : List Row) (tail end : Tail) (made : Description) → described_from before rows tail ≡ Came made (record { rows = behind; tail = tail })
    → described_from before (rows ++ more) end ≡ Came made (record { rows = behind ++ more; tail = end })
more_behind before [] behind more tail end made e = cc e
more_behind before (row ∷ rows) behind more tail end made e =
    let found = found_line row.1 in
    let after = and_found before row.0 found in
    more_with rows behind more tail end (fault_of before row.0 found) (is_end found) (ended before) made (described_from after rows tail) (described_from after (rows ++ more) end) (more_behind after rows behind more tail end made) e

-- ---- the script of a description and a journal

-- the lines of a text that is not too long
lines_within : (text : List ℕ) → length text ≤ text_limit → text_lines text ≡ (shown_lines text, AtEnd)
lines_within text le = lines_fit text_limit text le
  where
    lines_fit : (n : ℕ) (text : List ℕ) → length text ≤ n → lines_left n text ≡ (shown_lines text, AtEnd)
    lines_fit n text le = rw (le-leb (length text) n le) refl

script_again : (mux : Mux) (block : List ℕ) (journal : List Entry) → Describes block mux → LegalAfter mux [] journal → AllByRecursion IsReadable journal → length (block ++ journal_text journal) ≤ text_limit
    → script_in (block ++ journal_text journal) ≡ record { mux = Some mux; commands = map command_of journal; stop = Ended }
script_again mux block journal d legal readable le =
    let text = block ++ journal_text journal in
    let lines = shown_lines text in
    let behind = shown_lines (journal_text journal) in
    let n = 1 + length (shown_lines block) in
    let parts : lines ≡ shown_lines block ++ behind =
    ap (λ (b : List ℕ). shown_lines (b ++ journal_text journal)) d.closed ∙ ap (map shown) (lines_joined d.front (journal_text journal))
    ∙ map-append shown (raw_lines (d.front ++ 10 ∷ [])) (raw_lines (journal_text journal)) ∙ ap (λ (b : List ℕ). shown_lines b ++ behind) (sym d.closed) in
    let rows : record_lines 1 lines ≡ record_lines 1 (shown_lines block) ++ record_lines n behind = ap (record_lines 1) parts ∙ records_joined 1 (shown_lines block) behind in
    let end = Ends (1 + length lines) in
    let whole : described_from [] (record_lines 1 lines) end ≡ Came (Ok mux) (record { rows = record_lines n behind; tail = end }) =
    ap (λ r. described_from [] r end) rows ∙ more_behind [] (record_lines 1 (shown_lines block)) [] (record_lines n behind) (Ends n) end (Ok mux) d.whole in
    ap (λ l. script_of_lines l.0 (tail_of (1 + length l.0) l.1)) (lines_within text le)
    ∙ ap script_with whole
    ∙ ap (λ (r : Rest). let s : Script = record { mux = Some mux; commands = r.0; stop = r.1 } in s)
    (sym (plain_course mux (ahead_of n (journal_text journal) end)) ∙ again (fresh mux) journal n (1 + length lines) legal readable)

pub journals-again : JournalsPlayAgain
journals-again mux block journal d legal readable le =
    let script = script_again mux block journal d legal readable le in
    record { script_is = script; journal_is = ap whole_journal script ∙ sym (journal_only mux [] journal legal) }
